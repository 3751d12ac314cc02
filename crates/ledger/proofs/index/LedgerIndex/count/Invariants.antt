-- The invariant: what is counted and what is left are as many as all, held to the most.
use Rattle.lists.specs.Lists.{join_of}
use Rattle.record.specs.Cursors.{ledgers_left}
use Rattle.rules.specs.Ledger.{span_points}
use Rattle.ledger.specs.SpanSteps.{spans_left}
use Rattle.ledger.specs.RowLedgers.{row_ledger}
use Rattle.ledger.proofs.LedgerLaws.{PointsCounted}
use Rattle.ledger.proofs.index.LedgerIndex.count.Given as goal

abbrev pub invariant-loop-span : goal.invariant-loop-span
invariant-loop-span l =
    PointsCounted (row_ledger l.self.opened l.fn.entries l.fn.nation) (join_of (span_points (ledgers_left l.self.opened.ledgers)) (spans_left l.span-iterator)) l.most l.n
