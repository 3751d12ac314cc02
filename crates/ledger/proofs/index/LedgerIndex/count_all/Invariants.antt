-- The invariant: the points of the nations passed are counted, held to the most.
use Rattle.lists.specs.Lists.{join_of}
use Rattle.rows.specs.RowAt.{nations_left}
use Rattle.ledger.specs.RowLedgers.{row_ledger, row_ledgers}
use Rattle.ledger.proofs.LedgerLaws.{PointsCounted}
use Rattle.ledger.proofs.index.LedgerIndex.count_all.Given as goal

abbrev pub invariant-loop-nation : goal.invariant-loop-nation
invariant-loop-nation l =
    PointsCounted (row_ledgers l.self.opened l.chronicle.nations.now l.chronicle.entries.now) (join_of (row_ledger l.self.opened l.chronicle.entries.now) (nations_left l.nation-iterator)) l.most l.n
