-- The joinings are counted already.
use mathlib.Core.Path.{ap, ◌∙◌}
use lib.ListN.{length}
use Rattle.bookings.proofs.counting.booking_count.Goals as goal

pub returns : goal.returns
returns c = c.new.result.counted ∙ ap length c.new.ensures
