-- The invariant (SlotsCounting): the cells tell how many of the slots passed have each row.
use Rattle.nation_tables.proofs.slots.CellLaws.{SlotsCounting}
use Rattle.nation_tables.proofs.holders.count_slots.Given as goal

abbrev pub invariant-loop-slot : goal.invariant-loop-slot
invariant-loop-slot l = SlotsCounting l.slots l.initial.counts l.counts l.slot-index
