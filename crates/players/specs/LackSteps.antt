-- How the code finds the histories that lack Appeared: inner steps.
use Rattle.std.specs.Prelude.{Bool, not, List, [], ℕ, zero, suc}
use Rattle.lists.specs.Lists.{any_of, keep}
use Rattle.format.specs.declared.values.Entry.{Entry}
use Rattle.format.specs.declared.values.HistoryRow.{HistoryRow}
use Rattle.rules.specs.Chronicle.{is_appeared}
use Rattle.rules.specs.HistoryRows.{history_rows_in}
use Rattle.rows.specs.RowAt.{nation_row_at, entries_at}

-- The entries that a fourth word leads to, by their numbers; 0 leads to none.
abbrev pub entries_behind : List ℕ → List ℕ → ℕ → List Entry
entries_behind ws es zero = []
entries_behind ws es (suc i) = entries_at es (nation_row_at ws i).first (nation_row_at ws i).count

-- One of them is Appeared.
abbrev pub appeared_in : List ℕ → List ℕ → ℕ → Bool
appeared_in ws es nation = any_of (λ e. is_appeared e.kind) (entries_behind ws es nation)

-- A history has none.
abbrev pub lacks_in : List ℕ → List ℕ → HistoryRow → Bool
lacks_in ws es r = not (appeared_in ws es r.nation)

-- The histories of these words that have none.
abbrev pub lacking_in : List ℕ → List ℕ → List ℕ → List HistoryRow
lacking_in ws es hs = keep (lacks_in ws es) (history_rows_in hs)
