-- A case more, of which the step says what it comes to.
use Rattle.std.proofs.Common.{arith}
use Rattle.stored_input.proofs.TallyLaws.{tallied_more}
use Rattle.stored_input.proofs.replay.tally_list.Goals as goal

pub loop-preserved : goal.loop-preserved
loop-preserved g c =
    let told = rw c.in-Ok-Some.field-0-is at c.in-Ok-Some.ensures in
    let all = c.loop.invariant in
    let more = tallied_more _ _ _ _ _ _ told.0 _ _ all.3 told.1 told.2 c.plus-all.ensures in
    (omega arith, omega arith, more.0, more.1)
