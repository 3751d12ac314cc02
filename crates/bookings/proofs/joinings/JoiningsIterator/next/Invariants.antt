-- Invariant: what is left is what was left, up to the events that add nobody, and the numbers of the wars fit.
use mathlib.Core.Path.{◌≡◌}
use Prim.Native.Nat.{◌+◌, ◌≤◌}
use lib.ListN.{length}
use Rattle.rules.specs.Bookings.{joinings_from}
use Rattle.bookings.specs.AtHand.{wars_told}
use Rattle.bookings.specs.Walking.{joinings_left}
use Rattle.bookings.proofs.JoiningLaws.{war_steps}
use Rattle.bookings.proofs.joinings.JoiningsIterator.next.Given as goal

abbrev pub invariant-loop-at : goal.invariant-loop-at
invariant-loop-at l = (joinings_left l.fn.self ≡ joinings_from l.war (wars_told l.at l.wars)) × (l.war + length (wars_told l.at l.wars) ≤ 4294967295)

abbrev pub decreases-loop-at : goal.decreases-loop-at
decreases-loop-at l = war_steps (wars_told l.at l.wars)
