-- Invariant: the entries that are left, behind the tag worn so far, tell what all of them tell.
use mathlib.Core.Path.{◌≡◌}
use Rattle.lists.specs.Options.{option_of}
use Rattle.rows.specs.RowAt.{counted_left}
use Rattle.resolver.specs.Found.{worn_in}
use Rattle.resolver.proofs.WornLaws.{worn_along}
use Rattle.resolver.proofs.worn.worn_on.Given as goal

abbrev pub invariant-loop-entry : goal.invariant-loop-entry
invariant-loop-entry l = worn_along l.day (counted_left l.entry-iterator) (option_of l.worn) ≡ worn_in l.entries l.day l.fn.row.first l.fn.row.count
