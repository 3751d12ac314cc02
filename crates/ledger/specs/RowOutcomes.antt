-- What comes of points that are asked for, where nothing but want of room refuses: of one nation's, and of those of all nations.
use Rattle.std.specs.Prelude.{◌&&◌, List, ℕ, length}
use Rattle.format.specs.declared.values.LedgerPoint.{LedgerPoint}
use Rattle.rules.specs.Lent.{written, fits, room_number, Outcome, outcome}
use Rattle.rules.specs.Ledger.{point_rows}
use Rattle.rules.specs.Outcomes.{LedgerCells}
use Rattle.record.specs.declared.opened.Record.{Record}
use Rattle.ledger.specs.RowLedgers.{row_ledgers, row_counts}

-- The number of points, and their rows.
unfoldable pub points_outcome : List LedgerPoint → List ℕ → Outcome ℕ (List ℕ)
points_outcome ps before = outcome (room_number (fits (point_rows ps) before)) (length ps) (written (point_rows ps) before) before

-- The number of the points of all nation rows, their rows, and how many each nation has.
unfoldable pub all_outcome : Record → List ℕ → List ℕ → LedgerCells → Outcome ℕ LedgerCells
all_outcome r ws es before =
    let rows = point_rows (row_ledgers r ws es) in
    let counts = row_counts r ws es in
    outcome (room_number (fits rows before.rows && fits counts before.counts)) (length (row_ledgers r ws es))
    (record { rows = written rows before.rows; counts = written counts before.counts }) before
