-- The invariants: the rows of the changes passed stand at the front, and the falls of their keys are counted.
use mathlib.Core.List.{◌++◌}
use Rattle.owner_changes.specs.ChangeSteps.{changes_ahead, slot_changes}
use Rattle.owner_changes.proofs.EnterRowLaws.{EnteringRows}
use Rattle.owner_changes.proofs.entering.enter_rows.Given as goal

abbrev pub invariant-loop-province : goal.invariant-loop-province
invariant-loop-province l = EnteringRows (changes_ahead l.fn.provinces) (changes_ahead l.province-iterator) l.fn.out l.out l.end l.falls l.last

abbrev pub invariant-loop-change : goal.invariant-loop-change
invariant-loop-change l = EnteringRows (changes_ahead l.fn.provinces) (slot_changes l.change-iterator ++ changes_ahead l.province-iterator) l.fn.out l.out l.end l.falls l.last
