-- One test decides both answers.
use mathlib.Core.Path.{sym, ◌∙◌}
use Rattle.format.specs.Tags.{tested}
use Rattle.format.proofs.tag.CountryTag.tested.Goals as goal

pub returns-then-is_valid : goal.returns-then-is_valid
unfolding tested
returns-then-is_valid c = simp (sym c.is_valid.ensures ∙ c.if-is_valid.true)

pub returns-else-is_valid : goal.returns-else-is_valid
unfolding tested
returns-else-is_valid c = simp (sym c.is_valid.ensures ∙ c.if-is_valid.false)
