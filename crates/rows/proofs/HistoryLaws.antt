-- A history row by its number, from its words; and the test of their shape.
use mathlib.Core.Path.{◌≡◌, refl, sym, ap, ◌∙◌}
use mathlib.Core.Bool.{Bool, true, false}
use mathlib.Core.List.{List, [], ◌∷◌, map}
use Prim.Native.Nat.{ℕ, ◌/◌, ◌%◌, ◌<◌}
use borrow.Author.Tests.{ne_eqb}
use lib.ListN.{length, get_or}
use Rattle.std.specs.Simd.{first_chunks}
use Rattle.lists.proofs.ListLaws.{map-then}
use Rattle.rules.specs.Chronicle.{Nation}
use Rattle.rules.specs.HistoryRows.{history_width, history_row_of, history_rows_in, history_shaped, histories_shaped}
use Rattle.rows.proofs.RowAtLaws.{chunks-rows, rows-count, array-here}
use Rattle.rows.proofs.LentShapeLaws.{rows-pass}
use Rattle.rows.specs.HistoryAt.{history_row_at}

module _ (ws : List ℕ) where
  pub history_rows_count : length ws / history_width ≡ length (history_rows_in ws)
  unfolding history_rows_in
  history_rows_count = rows-count history_width history_row_of ws

  module _ (i : ℕ) where
    pub history_here : history_row_of (get_or (first_chunks history_width (length ws / history_width) ws) i (0 ∷ 0 ∷ 0 ∷ 0 ∷ 0 ∷ 0 ∷ 0 ∷ [])) ≡ history_row_at ws i
    unfolding history_row_at history_rows_in
    history_here = array-here history_width history_row_of ws i _ refl

-- The rows that an iterator over the words has left are what the words make.
pub histories_told : (ws : List ℕ) → map history_row_of (first_chunks history_width (length ws / history_width) ws) ≡ history_rows_in ws
unfolding history_rows_in
histories_told ws = ap (map history_row_of) (chunks-rows history_width (length ws / history_width) ws)

-- ## Well shaped

-- Of words divided into arrays.
module _ (ws : List ℕ) (ns : List Nation) (rows : List (List ℕ)) (over : List ℕ) (p : rows ≡ first_chunks history_width (length ws / history_width) ws) (q : length over ≡ length ws % history_width) where
  pub torn-rows : (length over ≡ 0 → ⊥) → false ≡ histories_shaped ns ws
  unfolding histories_shaped
  torn-rows h = sym (rw (← q, ne_eqb (length over) 0 h) refl)

  pub whole-rows : length over ≡ 0 → (n : ℕ) → n ≡ length ns → (b : Bool)
      → (b ≡ true → (k : ℕ) → k < length rows → history_shaped n (history_row_of (get_or rows k [])) ≡ true)
      → (((k : ℕ) → k < length rows → history_shaped n (history_row_of (get_or rows k [])) ≡ true) → b ≡ true)
      → b ≡ histories_shaped ns ws
  unfolding histories_shaped history_rows_in
  whole-rows h n e b to back =
      rows-pass (history_shaped n) history_row_of rows b to back
      ∙ sym (rw (← q, h, ← e, p, chunks-rows) refl)
