-- The invariant: the names passed have their keys and places in front, and the others are left.
use Rattle.std.specs.Iterator.Adapters.{enumerate_source, enumerate_count}
use Rattle.record.specs.Cursors.{ledgers_left}
use Rattle.ledger.proofs.IndexLaws.{Naming}
use Rattle.ledger.proofs.index.LedgerIndex.new.Given as goal

abbrev pub invariant-loop-number : goal.invariant-loop-number
invariant-loop-number g l =
    let left = l.number-iterator in
    Naming l.opened.ledgers (ledgers_left (enumerate_source left)) g.row.NAMES (enumerate_count left) l.first l.initial.keys l.keys l.places
