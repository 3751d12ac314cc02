-- The parts of the test in turn.
use Rattle.rows.proofs.LentShapeLaws.{torn, not-following, by_entries}
use Rattle.rows.proofs.shape.is_well_shaped.Goals as goal

pub returns-then-not-is_empty : goal.returns-then-not-is_empty
returns-then-not-is_empty c =
    torn _ _ _ _ c.as_chunks.ensures.front c.as_chunks-2.ensures.front _ _ c.as_chunks.ensures.back_len c.as_chunks-2.ensures.back_len (rw (c.is_empty.ensures, c.is_empty-2.ensures) at c.if-not-is_empty.true-raw)

pub returns-then-nations_shaped : goal.returns-then-nations_shaped
returns-then-nations_shaped c =
    by_entries _ _ _ _ c.as_chunks.ensures.front c.as_chunks-2.ensures.front _ _ c.as_chunks.ensures.back_len c.as_chunks-2.ensures.back_len (rw (c.is_empty.ensures, c.is_empty-2.ensures) at c.if-not-is_empty.false-raw)
    _ _ c.nations_shaped.ensures c.if-nations_shaped.true c.entries_shaped.ensures.0 c.entries_shaped.ensures.1

pub returns-else-nations_shaped : goal.returns-else-nations_shaped
returns-else-nations_shaped c =
    not-following _ _ _ _ c.as_chunks.ensures.front c.as_chunks-2.ensures.front _ _ c.as_chunks.ensures.back_len c.as_chunks-2.ensures.back_len (rw (c.is_empty.ensures, c.is_empty-2.ensures) at c.if-not-is_empty.false-raw)
    _ c.nations_shaped.ensures c.if-nations_shaped.false
