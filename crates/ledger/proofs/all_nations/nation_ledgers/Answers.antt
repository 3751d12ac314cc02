-- A refused record, or the outcome of the record that was opened.
use Rattle.std.proofs.Common.{ap, ◌∙◌, List, ℕ}
use Rattle.rules.specs.Lent.{outcome_of}
use Rattle.rules.specs.Outcomes.{call_nation_ledgers}
use Rattle.ledger.specs.LentSlices.{ledger_cells}
use Rattle.ledger.proofs.LedgerOutcomeLaws.{refused-on, ledgers-refused}
use Rattle.ledger.proofs.all_nations.nation_ledgers.Goals as goal

pub returns-in_err-opened : goal.returns-in_err-opened
returns-in_err-opened c =
    ap (λ r. outcome_of (λ (m : ℕ). m) r (ledger_cells c.args.out.now c.args.counts.now)) (refused-on _ _ c.from_residual.ensures)
    ∙ ledgers-refused c.args.s.now c.args.nations.now c.args.entries.now (ledger_cells c.args.out.now c.args.counts.now) _ c.in_err-opened.ensures.number

pub returns : goal.returns
returns c =
    c.nation_ledgers_of.ensures
    ∙ ap (λ (xs : List ℕ). call_nation_ledgers xs c.args.nations.now c.args.entries.now (ledger_cells c.args.out.now c.args.counts.now)) c.in_ok-opened.ensures.bytes
