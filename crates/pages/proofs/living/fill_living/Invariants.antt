-- Invariant: the cells of the rows passed stand at the front.
use mathlib.Core.List.{map}
use Rattle.std.specs.Iterator.Adapters.{enumerate_source, enumerate_count}
use Rattle.lists.proofs.FillLaws.{Filling}
use Rattle.rules.specs.Page.{is_living}
use Rattle.rows.specs.RowAt.{nations_left}
use Rattle.pages.specs.Status.{nation_with}
use Rattle.pages.specs.LivingCells.{living_cells}
use Rattle.pages.proofs.living.fill_living.Given as goal

abbrev pub invariant-loop-i : goal.invariant-loop-i
invariant-loop-i l =
    let n = enumerate_count l.i-iterator in
    Filling (living_cells l.nations l.entries) (map (λ r. is_living (nation_with l.entries r)) (nations_left (enumerate_source l.i-iterator))) l.fn.cells n l.cells
