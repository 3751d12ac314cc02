-- A tag stands twice, or one that is left was seen before.
use mathlib.Core.Path.{◌≡◌}
use mathlib.Core.List.{map}
use lib.ListN.{length, drop}
use Rattle.lists.specs.Lists.{twice}
use Rattle.format.specs.Rows.{country_at}
use Rattle.record_check.proofs.RepeatLaws.{repeats, tag_seen}
use Rattle.record_check.proofs.repeats.tag_twice.Given as goal

abbrev pub invariant-loop-row : goal.invariant-loop-row
invariant-loop-row l =
    record {
      size : length l.seen ≡ 6859;
      same : repeats (tag_seen l.seen) (map (λ row. (country_at row 0).tag.0) (drop l.row-index l.rows)) ≡ twice (map (λ row. (country_at row 0).tag.0) l.rows);
    }
