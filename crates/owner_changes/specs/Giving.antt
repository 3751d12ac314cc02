-- Iterators over changes give what they have left: what the trait `Changing` asks of its types.
use Rattle.std.specs.Prelude.{refl}
use Rattle.std.specs.Iterator.{AlwaysYields, YieldsFirst}
use Rattle.std.proofs.lemmas.Iterator.Consumers.{YieldsList-from_first}
use Rattle.rows.specs.declared.lent_rows.LentRows.{LentRows}
use Rattle.rows.specs.RowAt.{told_left, change_told}
use Rattle.rules.specs.Changes.{change_width}
use Rattle.format.specs.declared.values.OwnerChange.{OwnerChange}
use Rattle.owner_changes.specs.declared.changes.Changes.{Changes}
use Rattle.owner_changes.specs.ChangeSteps.{changes_left, rows_left}

pub changes_give : (changes : Changes) → AlwaysYields (YieldsFirst changes_left) (λ x. x) changes (changes_left changes)
changes_give changes = (YieldsList-from_first (λ x. x) changes_left (changes_left changes) refl).runs

pub rows_give : (rows : LentRows OwnerChange change_width) → AlwaysYields (YieldsFirst (told_left change_told)) (λ x. x) rows (rows_left rows)
rows_give rows = (YieldsList-from_first (λ x. x) (told_left change_told) (told_left change_told rows) refl).runs
