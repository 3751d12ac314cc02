-- The head of the bytes that are there, and of zeros for the others.
use mathlib.Core.Path.{◌∙◌}
use Rattle.record_check.proofs.ReadLaws.{head-filled}
use Rattle.record_check.proofs.opening.read_head.Goals as goal

pub returns : goal.returns
returns c = c.unpack.ensures ∙ head-filled c.args.s.now c.copy_from_slice.new.self c.min-n.result c.min-n.ensures c.copy_from_slice.ensures.after
