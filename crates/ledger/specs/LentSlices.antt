-- The slices that are lent for the ledgers of all nations.
use Rattle.std.specs.Prelude.{List, ℕ}
use Rattle.rules.specs.Outcomes.{LedgerCells}

abbrev pub ledger_cells : List ℕ → List ℕ → LedgerCells
ledger_cells rows counts = record { rows = rows; counts = counts }
