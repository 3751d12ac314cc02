-- The history rows of lent words by their number, from 0. Past the last one stands the row of no words, all zeros.
use Rattle.std.specs.Prelude.{List, [], map, ℕ, get_or}
use Rattle.format.specs.declared.values.HistoryRow.{HistoryRow}
use Rattle.rules.specs.HistoryRows.{history_width, history_row_of, history_rows_in}
use Rattle.rows.specs.declared.lent_rows.LentRows.{LentRows}
use Rattle.rows.specs.RowAt.{told_left}

-- History row number i.
unfoldable pub history_row_at : List ℕ → ℕ → HistoryRow
history_row_at ws i = get_or (history_rows_in ws) i (history_row_of [])

-- The history rows that an iterator has left.
abbrev pub histories_left : LentRows HistoryRow history_width → List HistoryRow
histories_left rows = told_left history_row_of rows
