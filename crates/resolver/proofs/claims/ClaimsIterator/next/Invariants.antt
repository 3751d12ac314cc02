-- Invariant: what is left is what was left: an entry that was passed is no switch. The entries left measure the loop.
use Rattle.std.proofs.Common.{◌≡◌, length}
use Rattle.rows.specs.RowAt.{counted_left}
use Rattle.resolver.specs.Claims.{claims_left}
use Rattle.resolver.proofs.claims.ClaimsIterator.next.Given as goal

abbrev pub invariant-loop-entry : goal.invariant-loop-entry
invariant-loop-entry l = claims_left l.initial.self ≡ claims_left l.self

abbrev pub decreases-loop-entry : goal.decreases-loop-entry
decreases-loop-entry l = length (counted_left l.self.own)
