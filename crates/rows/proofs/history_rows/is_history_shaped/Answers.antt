-- Torn words, or the test of each row.
use mathlib.Core.Path.{◌∙◌}
use borrow.Author.Rules.{rules}
use Rattle.rows.proofs.HistoryLaws.{torn-rows, whole-rows}
use Rattle.rows.proofs.history_rows.is_history_shaped.Goals as goal

pub returns-then-is_empty : goal.returns-then-is_empty
returns-then-is_empty c =
    λ ns e.
    whole-rows _ ns _ _ c.as_chunks.ensures.front c.as_chunks.ensures.back_len (search rules) _ e _ c.rows_shaped.ensures.0 c.rows_shaped.ensures.1

pub returns-else-is_empty : goal.returns-else-is_empty
returns-else-is_empty c =
    λ ns e.
    c.if-is_empty.false
    ∙ torn-rows _ ns _ _ c.as_chunks.ensures.front c.as_chunks.ensures.back_len (search rules)
