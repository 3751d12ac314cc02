-- Invariant: the rows from the index on, with their entries from next on, tell of all rows.
use Rattle.rows.proofs.LentShapeLaws.{Following}
use Rattle.rows.proofs.shape.nations_shaped.Given as goal

abbrev pub invariant-loop-row : goal.invariant-loop-row
invariant-loop-row l = Following l.nations l.end l.next l.row-index
