-- A page that was written, or has no room, is what is printed; a refused one is printed as the line of its number.
use native.Mathlib.Omega.{arith}
use Rattle.std.proofs.Common.{rules, ◌≡◌, sym, ◌∙◌}
use Rattle.rules.specs.Lent.{outcome_of}
use Rattle.rules.specs.PageOutcomes.{call_page}
use Rattle.pages.proofs.PrintLaws.{printed-page, printed-line, page-given, line-short}
use Rattle.pages.proofs.printing.print_bytes.Goals as goal

pub returns-in-Ok-clause-outcome : goal.returns-in-Ok-clause-outcome
returns-in-Ok-clause-outcome c =
    let called : outcome_of (λ n. n) c.ok_or.result c.checked_page.new.out ≡ call_page c.args.s.now c.args.selection.now c.args.out.now = search rules in
    called ∙ sym (printed-page _ _ _ (sym c.in-Ok.ensures.number))

pub returns-in-Ok-clause-room : goal.returns-in-Ok-clause-room
returns-in-Ok-clause-room c h = let given = page-given _ _ _ _ _ c.in-Ok.ensures h in search rules

pub returns-in-Err-clause-outcome : goal.returns-in-Err-clause-outcome
returns-in-Err-clause-outcome c = c.put_refusal.ensures.outcome ∙ printed-line _ _ _ _ _ c.in-Err.ensures

pub returns-in-Err-clause-room : goal.returns-in-Err-clause-room
returns-in-Err-clause-room c h = c.put_refusal.ensures.room (omega (arith, line-short c.in-Err.refusal, h, c.checked_page.auto.out))
