-- At most 100,000 rows are counted.
use native.Mathlib.Omega.{arith}
use Rattle.bookings.proofs.BookingOutcomeLaws.{bookings-few}
use Rattle.page.proofs.HostLaws.{outcome-returned}
use Rattle.page.proofs.booking.war_participants.Goals as goal

pub returns : goal.returns
returns c = outcome-returned _ _ c.returned.type_inv c.returned.ensures _ _ c.war_participants.ensures (λ n e. omega (arith, bookings-few _ _ _ _ n e))
