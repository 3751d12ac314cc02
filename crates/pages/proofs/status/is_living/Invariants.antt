-- Invariant: with the status so far, the entries that are left tell what all entries do.
use mathlib.Core.Path.{◌≡◌}
use Rattle.rules.specs.Page.{is_living}
use Rattle.rows.specs.RowAt.{counted_left}
use Rattle.pages.specs.Status.{lives_along, nation_with}
use Rattle.pages.proofs.status.is_living.Given as goal

abbrev pub invariant-loop-entry : goal.invariant-loop-entry
invariant-loop-entry l = lives_along l.living (counted_left l.entry-iterator) ≡ is_living (nation_with l.entries l.fn.nation)
