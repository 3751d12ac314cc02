-- A refused record, or the outcome of the record that was opened.
use Rattle.std.proofs.Common.{ap, ◌∙◌, List, ℕ}
use Rattle.rules.specs.Lent.{outcome_of}
use Rattle.rules.specs.Outcomes.{call_nation_ledger}
use Rattle.ledger.proofs.LedgerOutcomeLaws.{refused-on, ledger-refused}
use Rattle.ledger.proofs.nation.nation_ledger.Goals as goal

pub returns-in_err-opened : goal.returns-in_err-opened
returns-in_err-opened c =
    ap (λ r. outcome_of (λ (m : ℕ). m) r c.args.out.now) (refused-on _ _ c.from_residual.ensures)
    ∙ ledger-refused c.args.s.now c.args.nations.now c.args.entries.now c.args.nation c.args.out.now _ c.in_err-opened.ensures.number

pub returns : goal.returns
returns c =
    c.nation_ledger_of.ensures
    ∙ ap (λ (xs : List ℕ). call_nation_ledger xs c.args.nations.now c.args.entries.now c.args.nation c.args.out.now) c.in_ok-opened.ensures.bytes
