-- The outcome by its case: a refused chronicle, or that of all rows.
use Rattle.std.proofs.Common.{ap, ◌∙◌, ℕ}
use Rattle.rules.specs.Lent.{outcome_of}
use Rattle.ledger.specs.LentSlices.{ledger_cells}
use Rattle.ledger.proofs.NationLaws.{names_few}
use Rattle.ledger.proofs.LedgerOutcomeLaws.{refused-on, ledgers-torn, ledgers-by-rows}
use Rattle.ledger.proofs.all_nations.nation_ledgers_of.Goals as goal

pub returns-in_err-chronicle : goal.returns-in_err-chronicle
returns-in_err-chronicle c =
    ap (λ r. outcome_of (λ (m : ℕ). m) r (ledger_cells c.args.out.now c.args.counts.now)) (refused-on _ _ c.from_residual.ensures)
    ∙ ledgers-torn c.args.opened.bytes.now c.args.nations.now c.args.entries.now (ledger_cells c.args.out.now c.args.counts.now) c.args.opened.accepted _ c.in_err-chronicle.ensures.number

pub returns-then-len-le-FEW_LEDGERS : goal.returns-then-len-le-FEW_LEDGERS
returns-then-len-le-FEW_LEDGERS c =
    let e = c.in_ok-chronicle.ensures.chronicle in
    rw (e.0, e.1) at c.ledgers_indexed.ensures
    ∙ ledgers-by-rows c.args.opened c.args.nations.now c.args.entries.now (ledger_cells c.args.out.now c.args.counts.now) c.in_ok-chronicle.ensures.number

pub returns : goal.returns
returns c =
    let e = c.in_ok-chronicle.ensures.chronicle in
    rw (e.0, e.1) at c.ledgers_indexed-2.ensures
    ∙ ledgers-by-rows c.args.opened c.args.nations.now c.args.entries.now (ledger_cells c.args.out.now c.args.counts.now) c.in_ok-chronicle.ensures.number

pub ledgers_indexed-requires-2-clause-enough : goal.ledgers_indexed-requires-2-clause-enough
ledgers_indexed-requires-2-clause-enough c = names_few c.args.opened
