-- At most 60,000 changes are counted, so both numbers of a run fit a word.
use native.Mathlib.Omega.{arith}
use Rattle.owner_changes.proofs.OutcomeLaws.{events-few}
use Rattle.page.proofs.events_on.Goals as goal

pub overflow_cast-first : goal.overflow_cast-first
overflow_cast-first c = omega (arith, (events-few _ _ _ c.in-Ok.ensures).0)

pub overflow_cast-count : goal.overflow_cast-count
overflow_cast-count c = omega (arith, (events-few _ _ _ c.in-Ok.ensures).1)
