-- One test decides both answers.
use mathlib.Core.Path.{sym, ◌∙◌}
use Rattle.format.specs.Dates.{date_of_word}
use Rattle.format.proofs.date.Eu4DateTryFromU32.try_from.Goals as goal

pub returns-then-is_valid : goal.returns-then-is_valid
unfolding date_of_word
returns-then-is_valid c = simp (sym c.is_valid.ensures ∙ c.if-is_valid.true)

pub returns-else-is_valid : goal.returns-else-is_valid
unfolding date_of_word
returns-else-is_valid c = simp (sym c.is_valid.ensures ∙ c.if-is_valid.false)
