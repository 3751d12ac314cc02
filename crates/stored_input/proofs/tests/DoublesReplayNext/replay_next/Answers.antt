-- A number, and its double behind it.
use Rattle.std.proofs.KnownBytes.{Consumes-trans}
use Rattle.stored_input.proofs.tests.DoublesReplayNext.replay_next.Goals as goal

pub returns : goal.returns
returns g c = (_, Consumes-trans _ _ _ _ _ (rw c.in-Some.is at c.in_ok-first.ensures) c.in_ok-double.ensures.read, tt)
