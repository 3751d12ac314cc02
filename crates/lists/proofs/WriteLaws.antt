-- Rows written one behind the other, and a row that is written into a lent tail.
use mathlib.Core.Path.{◌≡◌, refl}
use mathlib.Core.List.{List, [], ◌++◌, append-nil}
use Prim.Native.Nat.{ℕ, ◌+◌, ◌-◌, ◌≤◌}
use lib.ListN.{length, take, drop, length-drop}
use lib.Seq.{take-length, drop-length, drop-drop}
pub use Rattle.lists.proofs.FillLaws.{Behind}
use Rattle.lists.proofs.FillLaws.{row-behind, Filling, filling-new, filling-behind, filling-written}

module _ {A : Type 0} where
  -- The part from a place on, as long as the list allows, is all that stands there, and nothing is behind it.
  pub part-all : (l : List A) (i : ℕ) → take (length l - i) (drop i l) ≡ drop i l
  part-all l i = rw (← length-drop i l) (take-length (drop i l))

  pub part-last : (l : List A) (i : ℕ) → drop (length l - i) (drop i l) ≡ []
  part-last l i = rw (← length-drop i l) (drop-length (drop i l))

  -- The whole after a row was written into the tail from k on.
  pub behind : (out row ys : List A) (k : ℕ) → k + length row ≤ length out
      → ys ≡ row ++ drop (length row) (take (length out - k) (drop k out))
      → Behind out row k (take k out ++ (ys ++ drop (length out - k) (drop k out)))
  behind out row ys k h e =
      let written : ys ≡ row ++ drop (k + length row) out = simp (part-all out k, drop-drop) at e in
      row-behind out row (take k out ++ (ys ++ drop (length out - k) (drop k out))) k h (simp (part-last out k, written, append-nil))

  -- A loop that writes rows.
  abbrev pub Writing : List A → List A → List A → ℕ → List A → Type 0
  Writing all rest before k now = Filling all rest before k now

  pub writing-none : (all before : List A) → length all ≤ length before → Writing all all before 0 before
  writing-none all before h = filling-new all before h

  pub writing_more : (all rest rest' before row now now' : List A) (k : ℕ) → rest ≡ row ++ rest'
      → Writing all rest before k now → Behind now row k now' → Writing all rest' before (k + length row) now'
  writing_more all rest rest' before row now now' k e w b = filling-behind all rest before k now w row rest' now' e b

  pub writing-done : (all before now : List A) (k : ℕ) → Writing all [] before k now → now ≡ all ++ drop (length all) before
  writing-done all before now k w = filling-written all [] before k now w refl
