-- The points of the tag's first ledger row as the span fills them; without such a row there are none.
use Rattle.std.proofs.Common.{List, ap, arith, ◌∙◌, length, min}
use Rattle.record.specs.Cursors.{ledgers_left}
use Rattle.format.specs.declared.values.LedgerPoint.{LedgerPoint}
use Rattle.ledger.proofs.LedgerLaws.{points-found, points_none}
use Rattle.ledger.proofs.index.LedgerIndex.count_points.Goals as goal

pub returns-in-Some : goal.returns-in-Some
returns-in-Some c =
    c.count_span.ensures
    ∙ ap (λ (ps : List LedgerPoint). min (length ps) c.args.most) (points-found (ledgers_left c.args.self.now.opened.ledgers) c.args.span c.points_of.ensures _ c.in-Some.is)

pub returns-in-None : goal.returns-in-None
returns-in-None c =
    omega (arith, ap length (points_none (ledgers_left c.args.self.now.opened.ledgers) c.args.span c.points_of.ensures c.in-None.is))
