-- The invariant: the rows of the nations passed stand at the front, with a count for each.
use Rattle.rows.specs.RowAt.{nations_left}
use Rattle.ledger.proofs.NationLaws.{LedgersWritten}
use Rattle.ledger.proofs.index.LedgerIndex.write_all.Given as goal

abbrev pub invariant-loop-count : goal.invariant-loop-count
invariant-loop-count l =
    LedgersWritten l.self.opened l.chronicle.nations.now l.chronicle.entries.now l.initial.out l.initial.counts (nations_left l.left) l.passed l.count-index l.out l.counts
