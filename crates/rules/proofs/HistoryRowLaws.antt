-- Histories that were written are read again as the same rows.
use mathlib.Core.Path.{◌≡◌, refl, ◌∙◌, ap}
use mathlib.Core.List.{List, map}
use Prim.Native.Nat.{◌/◌}
use native.Mathlib.Omega.{arith}
use lib.ListN.{length}
use Rattle.lists.specs.Lists.{join_of}
use Rattle.lists.proofs.ListLaws.{map_back, length-join, rows_join}
use Rattle.rules.specs.Histories.{History}
use Rattle.format.specs.declared.values.HistoryRow.{HistoryRow}
use Rattle.rules.specs.HistoryRows.{history_width, history_row_words, history_row_of, history_rows_from, history_words, history_rows_in}

pub history-rows : (hs : List History) → history_rows_in (history_words hs) ≡ history_rows_from 0 hs
unfolding history_rows_in history_words
history-rows hs =
    let rs : List HistoryRow = history_rows_from 0 hs in
    let e : length (join_of history_row_words rs) / history_width ≡ length rs = omega (arith, length-join history_width history_row_words (λ r. refl) rs) in
    simp e
    (ap (map history_row_of) (rows_join history_width history_row_words (λ r. refl) rs) ∙ map_back history_row_words history_row_of (λ r. refl) rs)
