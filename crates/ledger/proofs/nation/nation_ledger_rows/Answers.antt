-- A refused record, or the answer of the record that was opened.
use Rattle.std.proofs.Common.{ap, ◌∙◌, List, ℕ}
use Rattle.rules.specs.Lent.{answer_of}
use Rattle.rules.specs.Outcomes.{call_nation_ledger_rows}
use Rattle.ledger.proofs.LedgerOutcomeLaws.{refused-on, rows-refused}
use Rattle.ledger.proofs.nation.nation_ledger_rows.Goals as goal

pub returns-in_err-opened : goal.returns-in_err-opened
returns-in_err-opened c =
    ap (answer_of (λ (m : ℕ). m)) (refused-on _ _ c.from_residual.ensures)
    ∙ rows-refused c.args.s.now c.args.nations.now c.args.entries.now c.args.nation c.args.most _ c.in_err-opened.ensures.number

pub returns : goal.returns
returns c =
    c.nation_ledger_rows_of.ensures
    ∙ ap (λ (xs : List ℕ). call_nation_ledger_rows xs c.args.nations.now c.args.entries.now c.args.nation c.args.most) c.in_ok-opened.ensures.bytes
