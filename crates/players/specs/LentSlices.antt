-- The slices that are lent for histories and their names.
use Rattle.std.specs.Prelude.{List, ℕ}
use Rattle.rules.specs.PlayerOutcomes.{HistoryCells}

abbrev pub history_cells : List ℕ → List ℕ → HistoryCells
history_cells rows names = record { rows = rows; names = names }
