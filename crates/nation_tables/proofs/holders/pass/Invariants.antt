-- The invariant (PassLoop): the changes passed are noted, and the cells of the slots are as these changes leave them.
use Rattle.nation_tables.proofs.slots.SlotPassLaws.{PassLoop}
use Rattle.nation_tables.proofs.holders.pass.Given as goal

abbrev pub invariant-loop-k : goal.invariant-loop-k
invariant-loop-k l = PassLoop l.keys l.cells l.initial.slots l.initial.turns l.slots l.turns l.k
