-- A day more is read behind those before.
use Rattle.std.proofs.Common.{rules}
use Rattle.std.proofs.KnownBytes.{Consumes-trans}
use Rattle.answer_vectors.proofs.wrong_days.Goals as goal

pub loop-preserved : goal.loop-preserved
loop-preserved g c =
    let so_far = c.loop.invariant in
    (search rules, search rules, _, Consumes-trans _ _ _ _ _ so_far.3 c.is_wrong_day.ensures.1)
