-- The outcome by its case: a refused chronicle or number, or that of the nation's row.
use Rattle.std.proofs.Common.{ap, sym, ◌∙◌, ℕ}
use Rattle.rules.specs.Lent.{outcome_of}
use Rattle.ledger.proofs.NationLaws.{names_few}
use Rattle.ledger.proofs.LedgerOutcomeLaws.{refused-on, ledger-unasked, ledger-by-row}
use Rattle.ledger.proofs.nation.nation_ledger_of.Goals as goal

pub returns-in_err-row : goal.returns-in_err-row
returns-in_err-row c =
    ap (λ r. outcome_of (λ (m : ℕ). m) r c.args.out.now) (refused-on _ _ c.from_residual.ensures)
    ∙ ledger-unasked c.args.opened.bytes.now c.args.nations.now c.args.entries.now c.args.nation c.args.out.now c.args.opened.accepted _ c.in_err-row.ensures.number

pub returns-then-len-le-FEW_LEDGERS : goal.returns-then-len-le-FEW_LEDGERS
returns-then-len-le-FEW_LEDGERS c =
    c.ledger_indexed.ensures
    ∙ ledger-by-row c.args.opened c.args.nations.now c.args.entries.now c.args.nation c.args.out.now (sym c.in_ok-row.ensures.number) _ c.in_ok-row.ensures.row

pub returns : goal.returns
returns c =
    c.ledger_indexed-2.ensures
    ∙ ledger-by-row c.args.opened c.args.nations.now c.args.entries.now c.args.nation c.args.out.now (sym c.in_ok-row.ensures.number) _ c.in_ok-row.ensures.row

pub ledger_indexed-requires-2-clause-enough : goal.ledger_indexed-requires-2-clause-enough
ledger_indexed-requires-2-clause-enough c = names_few c.args.opened
