-- The answer by its case: a refused chronicle or number, or the count.
use Rattle.std.proofs.Common.{ap, sym, ◌∙◌, ℕ}
use Rattle.rules.specs.Lent.{answer_of}
use Rattle.ledger.proofs.NationLaws.{names_few}
use Rattle.ledger.proofs.LedgerOutcomeLaws.{refused-on, rows-unasked, rows-by-row}
use Rattle.ledger.proofs.nation.nation_ledger_rows_of.Goals as goal

pub returns-in_err-row : goal.returns-in_err-row
returns-in_err-row c =
    ap (answer_of (λ (m : ℕ). m)) (refused-on _ _ c.from_residual.ensures)
    ∙ rows-unasked c.args.opened.bytes.now c.args.nations.now c.args.entries.now c.args.nation c.args.most c.args.opened.accepted _ c.in_err-row.ensures.number

pub returns-then-len-le-FEW_LEDGERS : goal.returns-then-len-le-FEW_LEDGERS
returns-then-len-le-FEW_LEDGERS c =
    rows-by-row c.args.opened c.args.nations.now c.args.entries.now c.args.nation c.args.most (sym c.in_ok-row.ensures.number) _ c.in_ok-row.ensures.row _ c.rows_indexed.ensures

pub returns : goal.returns
returns c =
    rows-by-row c.args.opened c.args.nations.now c.args.entries.now c.args.nation c.args.most (sym c.in_ok-row.ensures.number) _ c.in_ok-row.ensures.row _ c.rows_indexed-2.ensures

pub rows_indexed-requires-2-clause-enough : goal.rows_indexed-requires-2-clause-enough
rows_indexed-requires-2-clause-enough c = names_few c.args.opened
