-- Rules 8: history rows, written and read back, and when words are well shaped. Positions of words stand here and nowhere above.
use Rattle.std.specs.Prelude.{Bool, ◌&&◌, List, [], ◌∷◌, map, ℕ, ◌+◌, leb, length, get_or}
use Rattle.std.proofs.Math.Option.{Option, none, some}
use Rattle.lists.specs.Lists.{one, all_of, join_of, is_whole, whole_rows}
use Rattle.format.specs.Tags.{is_tag}
use Rattle.format.specs.declared.values.HistoryRow.{HistoryRow}
use Rattle.rules.specs.Chronicle.{Nation}
use Rattle.rules.specs.Histories.{History}

-- ## Rows

-- The width of a history row. (Rules 8.8)
abbrev pub history_width : ℕ
history_width = 7

-- Its words, in that order. (Rules 8.8)
abbrev pub history_row_words : HistoryRow → List ℕ
history_row_words r =
    r.initial.0 ∷ r.latest.0 ∷ r.stored.0 ∷ r.nation ∷ r.human ∷ r.first ∷ r.count ∷ []

-- Seven words, read as a history row. (Rules 8.11)
abbrev pub history_row_of : List ℕ → HistoryRow
history_row_of ws =
    record {
      initial = record { 0 = get_or ws 0 0 };
      latest = record { 0 = get_or ws 1 0 };
      stored = record { 0 = get_or ws 2 0 };
      nation = get_or ws 3 0;
      human = get_or ws 4 0;
      first = get_or ws 5 0;
      count = get_or ws 6 0;
    }

-- ## The words of histories, and the rows of words

-- Nation number + 1, or 0 for a bare history. (Rules 8.8)
abbrev pub nation_word : Option ℕ → ℕ
nation_word none = 0
nation_word (some number) = number + 1

-- The rows of histories, in order; first is the number of names written before. (Rules 8.9)
unfoldable pub history_rows_from : ℕ → List History → List HistoryRow
history_rows_from first [] = []
history_rows_from first (h ∷ hs) =
    record {
      initial = h.initial;
      latest = h.latest;
      stored = h.stored;
      nation = nation_word h.nation;
      human = one h.country.human;
      first = first;
      count = length h.names;
    }
    ∷ history_rows_from (first + length h.names) hs

-- The history words that histories give: their rows, the names of the first from 0 on. (Rules 8.9)
unfoldable pub history_words : List History → List ℕ
history_words hs = join_of history_row_words (history_rows_from 0 hs)

-- The history rows that words make. (Rules 8.11)
unfoldable pub history_rows_in : List ℕ → List HistoryRow
history_rows_in ws = map history_row_of (whole_rows history_width ws)

-- ## Well shaped

-- Three words that are tags, and a fourth that counts no further than the nations, of which there are so many. The other words may be
-- anything. (Rules 8.13)
abbrev pub history_shaped : ℕ → HistoryRow → Bool
history_shaped nations r = is_tag r.initial && is_tag r.latest && is_tag r.stored && leb r.nation nations

-- WELL SHAPED history words: whole rows, each of them shaped. Any words may be asked about, with the nations that they point at. (Rules 8.13)
unfoldable pub histories_shaped : List Nation → List ℕ → Bool
histories_shaped ns ws = is_whole history_width ws && all_of (history_shaped (length ns)) (history_rows_in ws)
