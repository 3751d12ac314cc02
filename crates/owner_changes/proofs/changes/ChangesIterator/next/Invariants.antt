-- The invariant: what the walk has left is what it had at the start, up to the provinces without a change. Each turn passes a province.
use mathlib.Core.Path.{◌≡◌}
use lib.ListN.{length}
use Rattle.owner_changes.specs.ChangeSteps.{slots_left, changes_left}
use Rattle.owner_changes.proofs.changes.ChangesIterator.next.Given as goal

abbrev pub invariant-loop-self : goal.invariant-loop-self
invariant-loop-self l = changes_left l.initial.self ≡ changes_left l.self

abbrev pub decreases-loop-self : goal.decreases-loop-self
decreases-loop-self l = length (slots_left l.self.slot l.self.provinces)
