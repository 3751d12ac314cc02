-- A file that cannot be read is printed as one without bytes.
use Rattle.std.proofs.Common.{◌≡◌, refl, sym, ap, ◌∙◌, ℕ, List, [], Bor}
use Rattle.std.specs.Prelude as code
use Rattle.std.specs.Prelude.{Some, None}
use Rattle.std.specs.Option.{unwrap_or}
use Rattle.std.proofs.Math.Option.{some}
use Rattle.rules.specs.PageOutcomes.{call_program}
use Rattle.pages.specs.Texts.{call_lines}
use Rattle.pages.specs.Printing.{file_read, call_print}
use Rattle.pages.proofs.PrintLaws.{prints-unread}
use Rattle.pages.proofs.printing.print_page.Goals as goal

-- What it prints of the bytes at hand.
printed : (file : code.Option (Bor (List ℕ))) (none_read : Bor (List ℕ)) (selection : List ℕ) → none_read.now ≡ [] → call_program (some (unwrap_or file none_read).now) selection ≡ call_program (file_read file) selection
printed (Some s) none_read selection e = refl
printed None none_read selection e = ap (λ s. call_program (some s) selection) e ∙ sym (prints-unread selection)

pub returns-clause-outcome : goal.returns-clause-outcome
unfolding call_print
returns-clause-outcome c =
    let same =
    ap (λ (s : Bor (List ℕ)). call_program (some s.now) c.args.selection.now) c.unwrap_or.ensures
    ∙ printed c.args.campaign _ c.args.selection.now refl in
    c.print_bytes.ensures.outcome ∙ ap (λ t. call_lines t c.args.out.now) same
