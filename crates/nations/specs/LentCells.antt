-- The five slices that are lent to `nation_events`.
use Rattle.std.specs.Prelude.{List, ℕ}
use Rattle.rules.specs.Outcomes.{NationCells}

-- Nation rows, entry rows, holder per slot, slots held per country, change rows.
abbrev pub nation_cells : List ℕ → List ℕ → List ℕ → List ℕ → List ℕ → NationCells
nation_cells nations entries holders held changes =
    record { nations = nations; entries = entries; holders = holders; held = held; changes = changes }
