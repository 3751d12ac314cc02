-- The bytes of a number, and those of the case behind it.
use Rattle.std.proofs.Common.{refl}
use Rattle.std.proofs.KnownBytes.{Consumes-trans}
use Rattle.stored_input.proofs.numbered.NumberedCasesReplayNext.replay_next.Goals as goal

pub returns-in_ok-replay-in-Some : goal.returns-in_ok-replay-in-Some
returns-in_ok-replay-in-Some g c =
    let first = rw c.in-Some.is at c.in_ok-first.ensures in
    let rest = c.in_ok-replay-in-Some.ensures in
    (_, Consumes-trans _ _ _ _ _ first rest.1, (c.in-Some.first, rest.0, refl, rest.2))
