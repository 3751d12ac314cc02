-- The ledger of a nation's row, as the code reads it from an opened record and writes it: inner steps.
use Rattle.std.specs.Prelude.{◌≡◌, List, map, ℕ, length}
use Rattle.lists.specs.Lists.{join_of}
use Rattle.record.specs.declared.opened.Record.{Record}
use Rattle.record.specs.Cursors.{ledgers_left}
use Rattle.rules.specs.Lent.{written}
use Rattle.format.specs.declared.values.NationRow.{NationRow}
use Rattle.format.specs.declared.values.LedgerPoint.{LedgerPoint}
use Rattle.rules.specs.NationRows.{nation_rows_in}
use Rattle.rules.specs.Ledger.{spans_from, span_points, point_rows}
use Rattle.rows.specs.RowAt.{entries_at}
use Rattle.ledger.specs.SpanSteps.{opened_span}

-- ## Points

-- The points of a nation row, with the entries that the row points at.
abbrev pub row_ledger : Record → List ℕ → NationRow → List LedgerPoint
row_ledger r es n =
    join_of (span_points (ledgers_left r.ledgers)) (spans_from r.current (opened_span n.initial r.start) (entries_at es n.first n.count))

-- Of all nations.
abbrev pub row_ledgers : Record → List ℕ → List ℕ → List LedgerPoint
row_ledgers r ws es = join_of (row_ledger r es) (nation_rows_in ws)

-- How many each has.
abbrev pub row_counts : Record → List ℕ → List ℕ → List ℕ
row_counts r ws es = map (λ n. length (row_ledger r es n)) (nation_rows_in ws)

-- ## Rows

-- The rows of all nations, and their counts, where there is room for them.
pub record WritesLedgers (r : Record) (ws es before counts_before after counts_after : List ℕ) : Type 0 where
  pub cells : after ≡ written (point_rows (row_ledgers r ws es)) before
  pub counted : counts_after ≡ written (row_counts r ws es) counts_before
