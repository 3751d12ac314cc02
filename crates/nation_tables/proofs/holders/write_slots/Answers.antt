-- Each by the promise of the function that writes it, of as many as find room.
use native.Mathlib.Omega.{arith}
use lib.ListN.{length-take}
use Rattle.nation_tables.proofs.slots.CellLaws.{slots-written}
use Rattle.nation_tables.proofs.holders.write_slots.Goals as goal

pub count_slots-requires : goal.count_slots-requires
count_slots-requires c = omega (arith, length-take c.min-p.result c.args.slots.now, c.min-p.ensures)

pub returns : goal.returns
returns c =
    slots-written c.args.slots.now _ _ _ _ _ _ _ _ c.min-p.ensures c.min-n.ensures c.min-rows.ensures c.put_holders.ensures c.count_slots.ensures
