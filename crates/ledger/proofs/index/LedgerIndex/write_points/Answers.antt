-- The points of the tag's first ledger row as the span fills them; without such a row nothing is written.
use Rattle.record.specs.Cursors.{ledgers_left}
use Rattle.ledger.proofs.LedgerLaws.{points-found, points_none, fills_same, fills-none}
use Rattle.ledger.proofs.index.LedgerIndex.write_points.Goals as goal

pub returns-in-Some : goal.returns-in-Some
returns-in-Some c =
    fills_same _ _ _ _ _ c.write_span.ensures (points-found (ledgers_left c.args.self.now.opened.ledgers) c.args.span c.points_of.ensures _ c.in-Some.is)

pub returns-in-None : goal.returns-in-None
returns-in-None c =
    fills-none _ _ (points_none (ledgers_left c.args.self.now.opened.ledgers) c.args.span c.points_of.ensures c.in-None.is)
