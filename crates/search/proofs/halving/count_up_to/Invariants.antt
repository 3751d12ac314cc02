-- The invariant: the count lies between base and base + size.
use Rattle.std.proofs.Common.{◌+◌, ◌*◌, ◌/◌}
use Rattle.search.proofs.HalvingLaws.{Encloses}
use Rattle.search.proofs.halving.count_up_to.Given as goal

abbrev pub invariant-loop-size : goal.invariant-loop-size
invariant-loop-size l = Encloses l.keys (l.x / 2 * 2 + 2) l.base (l.base + l.size)

abbrev pub decreases-loop-size : goal.decreases-loop-size
decreases-loop-size l = l.size
