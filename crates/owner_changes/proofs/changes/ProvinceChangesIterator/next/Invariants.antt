-- The invariant: what the walk has left is what it had at the start, up to the events that changed nothing. Each turn passes an event.
use mathlib.Core.Path.{◌≡◌}
use lib.ListN.{length}
use Rattle.record.specs.Cursors.{owner_events_left}
use Rattle.owner_changes.specs.ChangeSteps.{slot_changes}
use Rattle.owner_changes.proofs.changes.ProvinceChangesIterator.next.Given as goal

abbrev pub invariant-loop-event : goal.invariant-loop-event
invariant-loop-event l = slot_changes l.initial.self ≡ slot_changes l.self

abbrev pub decreases-loop-event : goal.decreases-loop-event
decreases-loop-event l = length (owner_events_left l.self.row.events)
