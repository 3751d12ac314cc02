-- The rows of the blocks so far refuse nothing: what is left refuses as all of them do.
use mathlib.Core.Path.{◌≡◌}
use mathlib.Core.List.{map}
use Rattle.std.specs.Slice.Iter.{chunks_rest}
use Rattle.format.specs.RecordNumber.{first_in}
use Rattle.record_check.proofs.rows.rows_checked.Given as goal

abbrev pub invariant-loop-block : goal.invariant-loop-block
invariant-loop-block g l =
    (goal.iterator-loop-block g).can_next l.block-iterator
    × (goal.iterator-loop-block g).is_finite l.block-iterator
    × (first_in g.R.Checked.number (map g.R.Packed.unpacked (chunks_rest l.block-iterator)) ≡ first_in g.R.Checked.number (map g.R.Packed.unpacked l.rows))
