-- The code is the rule, without a branch.
use mathlib.Core.Path.{refl}
use Rattle.format.specs.Tags.{tag_byte}
use Rattle.format.proofs.tag.tag_byte.Goals as goal

pub returns : goal.returns
unfolding tag_byte
returns c = refl
