-- What a turn reads stands behind what was read before.
use Rattle.std.proofs.Common.{rules}
use Rattle.stored_input.proofs.ReadLaws.{read_further}
use Rattle.stored_input.proofs.try_read_full.Goals as goal

pub loop-done-preserved : goal.loop-done-preserved
loop-done-preserved g c = (search rules, (search rules, read_further _ _ _ _ c.loop-done.invariant.1.0 c.in-Ok.ensures.bound.0 _ _ _ c.loop-done.invariant.1.1 c.in-Ok.ensures.bytes.0))
