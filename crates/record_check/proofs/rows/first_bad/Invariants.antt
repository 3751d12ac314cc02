-- The rows so far refuse nothing: what is left refuses as all of them do.
use mathlib.Core.Path.{◌≡◌}
use mathlib.Core.List.{map}
use lib.ListN.{drop}
use Rattle.format.specs.RecordNumber.{first_in}
use Rattle.record_check.proofs.rows.first_bad.Given as goal

abbrev pub invariant-loop-row : goal.invariant-loop-row
invariant-loop-row g l =
    first_in g.R.Checked.number (map g.R.Packed.unpacked (drop l.row-index l.rows)) ≡ first_in g.R.Checked.number (map g.R.Packed.unpacked l.rows)
