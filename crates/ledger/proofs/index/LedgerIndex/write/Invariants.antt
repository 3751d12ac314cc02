-- The invariant: the rows of the spans passed stand at the front, and the cells behind them are as they were.
use Rattle.lists.specs.Lists.{join_of}
use Rattle.record.specs.Cursors.{ledgers_left}
use Rattle.rules.specs.Ledger.{span_points}
use Rattle.ledger.specs.SpanSteps.{spans_left}
use Rattle.ledger.proofs.FillsLaws.{FillingRows}
use Rattle.ledger.specs.RowLedgers.{row_ledger}
use Rattle.ledger.proofs.index.LedgerIndex.write.Given as goal

abbrev pub invariant-loop-span : goal.invariant-loop-span
invariant-loop-span l =
    FillingRows (row_ledger l.self.opened l.fn.entries l.fn.nation) (join_of (span_points (ledgers_left l.self.opened.ledgers)) (spans_left l.span-iterator)) l.initial.out l.n l.out
