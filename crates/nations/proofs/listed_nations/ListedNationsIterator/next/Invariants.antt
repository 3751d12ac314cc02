-- The nations left are those at the start: a key that was passed gave none. The keys left measure the loop.
use Rattle.std.proofs.Common.{◌≡◌, length}
use Rattle.nations.specs.ListedNations.{listed_left}
use Rattle.nations.proofs.listed_nations.ListedNationsIterator.next.Given as goal

abbrev pub invariant-loop-key : goal.invariant-loop-key
invariant-loop-key l = listed_left l.initial.self ≡ listed_left l.self

abbrev pub decreases-loop-key : goal.decreases-loop-key
decreases-loop-key l = length l.self.keys.now
