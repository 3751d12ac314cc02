-- The status of many nations: an inner step, which no public call's promise cites.
use Rattle.std.specs.Prelude.{Bool, List, map, ℕ}
use Rattle.rules.specs.NationRows.{nation_rows_in}
use Rattle.rules.specs.Page.{is_living}
use Rattle.pages.specs.Status.{nation_with}

-- Which nations are living, by the rule: those of all rows, each with its entries.
abbrev pub living_cells : List ℕ → List ℕ → List Bool
living_cells ws es = map (λ r. is_living (nation_with es r)) (nation_rows_in ws)
