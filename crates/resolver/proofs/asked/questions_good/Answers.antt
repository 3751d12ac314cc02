-- Whole rows, each tested.
use mathlib.Core.Path.{sym, ◌∙◌}
use borrow.Author.Rules.{rules}
use Rattle.resolver.proofs.AskedLaws.{questions-torn, questions-whole}
use Rattle.resolver.proofs.asked.questions_good.Goals as goal

pub returns-then-is_empty : goal.returns-then-is_empty
returns-then-is_empty c =
    questions-whole _ _ c.as_chunks.ensures.front _ c.as_chunks.ensures.back_len _ (sym c.is_empty.ensures ∙ c.if-is_empty.true) (search rules) (search rules)

pub returns-else-is_empty : goal.returns-else-is_empty
returns-else-is_empty c =
    c.if-is_empty.false ∙ questions-torn _ _ c.as_chunks.ensures.front _ c.as_chunks.ensures.back_len (sym c.is_empty.ensures ∙ c.if-is_empty.false)
