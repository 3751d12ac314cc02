-- Whether the points so far are good.
use mathlib.Core.Path.{◌≡◌}
use lib.Dec.{leb}
use lib.ListN.{take}
use Rattle.lists.specs.Lists.{all_of}
use Rattle.format.specs.Rows.{point_at}
use Rattle.record_check.proofs.rows.points_checked.Given as goal

abbrev pub invariant-loop-row : goal.invariant-loop-row
invariant-loop-row l = leb l.latest 9999 ≡ all_of (λ row. leb (point_at row 0).year 9999) (take l.row-index l.rows)
