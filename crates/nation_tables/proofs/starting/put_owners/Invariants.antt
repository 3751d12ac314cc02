-- The invariant: the owners of the provinces left, put into the slots as they are, give what all owners give. Ids are slots.
use mathlib.Core.Path.{◌≡◌}
use mathlib.Core.Bool.{true}
use lib.Dec.{ltb}
use lib.ListN.{length}
use Rattle.lists.specs.Lists.{all_of}
use Rattle.record.specs.Cursors.{provinces_left}
use Rattle.nation_tables.specs.Countries.{initial_number}
use Rattle.nation_tables.specs.Starting.{put_owners}
use Rattle.nation_tables.proofs.starting.put_owners.Given as goal

abbrev pub invariant-loop-province : goal.invariant-loop-province
invariant-loop-province l =
    (length l.rows ≡ length l.initial.rows)
    × (all_of (λ p. ltb p.id.0 (length l.initial.rows)) (provinces_left l.province-iterator) ≡ true)
    × (put_owners (initial_number l.initials.keys.now) (provinces_left l.province-iterator) l.rows ≡ put_owners (initial_number l.initials.keys.now) (provinces_left l.fn.provinces) l.initial.rows)
