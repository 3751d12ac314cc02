-- Whether the rows so far are good.
use mathlib.Core.Path.{◌≡◌}
use lib.Dec.{eqb}
use lib.ListN.{take}
use Rattle.lists.specs.Lists.{all_of}
use Rattle.record_check.proofs.rows.all_good.Given as goal

abbrev pub invariant-loop-row : goal.invariant-loop-row
invariant-loop-row g l = l.good ≡ all_of (λ row. eqb (g.R.Checked.number (g.R.Packed.unpacked row)) 0) (take l.row-index l.rows)
