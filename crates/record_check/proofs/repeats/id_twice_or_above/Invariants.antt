-- An id stands twice or is above the number of rows, or one that is left was seen before or is above it.
use mathlib.Core.Path.{◌≡◌}
use mathlib.Core.Bool.{◌||◌}
use mathlib.Core.List.{map}
use lib.Dec.{ltb}
use lib.ListN.{length, drop}
use Rattle.lists.specs.Lists.{any_of, twice}
use Rattle.format.specs.Rows.{province_at}
use Rattle.record_check.proofs.RepeatLaws.{ids_bad}
use Rattle.record_check.proofs.repeats.id_twice_or_above.Given as goal

abbrev pub invariant-loop-row : goal.invariant-loop-row
invariant-loop-row l =
    record {
      size : length l.seen ≡ 8001;
      same :
          ids_bad (length l.rows) l.seen (map (λ row. (province_at row 0).id.0) (drop l.row-index l.rows))
          ≡ twice (map (λ row. (province_at row 0).id.0) l.rows) || any_of (ltb (length l.rows)) (map (λ row. (province_at row 0).id.0) l.rows);
    }
