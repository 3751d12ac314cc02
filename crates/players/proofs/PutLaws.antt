-- Rows of histories, put one behind the other.
use mathlib.Core.Path.{◌≡◌, refl, ap, subst, ◌∙◌}
use mathlib.Core.List.{List, ◌++◌}
use Prim.Native.Nat.{ℕ, ◌+◌, ◌-◌, ◌*◌, ◌≤◌}
use native.Mathlib.Omega.{arith}
use borrow.Author.Tests.{le-leb}
use lib.ListN.{length, take, drop, length-append, length-take, length-drop}
use Rattle.lists.specs.Lists.{join_of}
use Rattle.lists.proofs.ListLaws.{length-join}
use Rattle.lists.proofs.FillLaws.{Filling, filling-behind}
use Rattle.lists.proofs.WriteLaws.{behind}
use Rattle.format.specs.declared.values.HistoryRow.{HistoryRow}
use Rattle.rules.specs.HistoryRows.{history_row_words, history_width}
use Rattle.rows.specs.RowAt.{row_put}

pub length-rows : (ds : List HistoryRow) → length (join_of history_row_words ds) ≡ history_width * length ds
length-rows ds = length-join history_width history_row_words (λ d. refl) ds

module _ (all rest rest' before now ys : List ℕ) (k : ℕ) (d : HistoryRow) (f : Filling all rest before (history_width * k) now) (e : rest ≡ history_row_words d ++ rest') where
  -- The next row finds room.
  pub row_room : history_width * k + history_width ≤ length now
  row_room = omega (arith, f.fits, f.long, ap length e ∙ length-append (history_row_words d) rest')

  -- It was put into the tail.
  pub row_more : (words : List ℕ) → words ≡ history_row_words d → ys ≡ row_put history_width words (take (length now - history_width * k) (drop (history_width * k) now))
      → Filling all rest' before (history_width * (k + 1)) (take (history_width * k) now ++ (ys ++ drop (length now - history_width * k) (drop (history_width * k) now)))
  row_more words q w =
      let z : history_width * k + history_width ≡ history_width * (k + 1) = omega arith in
      let tail : List ℕ = take (length now - history_width * k) (drop (history_width * k) now) in
      let long : history_width ≤ length tail = omega (arith, row_room, length-take (length now - history_width * k) (drop (history_width * k) now), length-drop (history_width * k) now) in
      let put : ys ≡ history_row_words d ++ drop history_width tail = w ∙ rw (le-leb history_width (length tail) long, q) refl in
      subst (λ (m : ℕ). Filling all rest' before m (take (history_width * k) now ++ (ys ++ drop (length now - history_width * k) (drop (history_width * k) now)))) z
      (filling-behind all rest before (history_width * k) now f (history_row_words d) rest' _ e (behind now (history_row_words d) ys (history_width * k) row_room put))
