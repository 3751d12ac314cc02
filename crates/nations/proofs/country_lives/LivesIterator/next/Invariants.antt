-- The invariant: what is left is what was left, up to the changes that told nothing. The measure is how many links the walk may still follow.
use mathlib.Core.Path.{◌≡◌}
use Rattle.nations.specs.Walks.{ahead}
use Rattle.nations.specs.CountryLives.{walk_in, lives_left}
use Rattle.nations.proofs.country_lives.LivesIterator.next.Given as goal

abbrev pub invariant-loop-self : goal.invariant-loop-self
invariant-loop-self l = lives_left l.initial.self ≡ lives_left l.self

abbrev pub decreases-loop-self : goal.decreases-loop-self
decreases-loop-self l = ahead (walk_in l.self)
