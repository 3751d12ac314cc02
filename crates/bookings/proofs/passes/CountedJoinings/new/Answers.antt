-- They are few, so that they can be counted.
use mathlib.Core.Path.{refl}
use native.Mathlib.Omega.{arith}
use Rattle.std.proofs.Common.{inl}
use Rattle.std.proofs.lemmas.Iterator.Consumers.{YieldsList-from_first, count_from_yields_List}
use Rattle.bookings.specs.Walking.{joinings_left}
use Rattle.bookings.proofs.JoiningLaws.{told-few}
use Rattle.bookings.proofs.passes.CountedJoinings.new.Goals as goal

pub count-requires-clause-fits : goal.count-requires-clause-fits
count-requires-clause-fits c = inl (omega (arith, told-few c.args.opened _ c.new-joinings.ensures))

pub invariant_of-result : goal.invariant_of-result
invariant_of-result c =
    record { counted = count_from_yields_List _ _ c.count.ensures.ran (YieldsList-from_first (λ x. x) joinings_left _ refl) }
