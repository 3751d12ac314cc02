-- Strings that fill some bytes: one is taken off, and the others fill what is left.
use mathlib.Core.Path.{◌≡◌, refl, sym, ap, ◌∙◌}
use mathlib.Core.Bool.{Bool, false}
use mathlib.Core.List.{List, [], ◌∷◌}
use Prim.Native.Nat.{ℕ, suc, ◌+◌, ◌-◌, ◌<◌, ◌≤◌}
use native.Mathlib.Nat.{add-zero}
use native.Mathlib.Omega.{arith}
use borrow.Author.Tests.{eqb-true, eq-eqb, ne_eqb}
use lib.Dec.{eqb}
use lib.ListN.{length, drop, length-drop}
use Rattle.lists.proofs.BoolLaws.{cases, clash}
use Rattle.format.specs.Rows.{strings_end}
use Rattle.format.proofs.SizeLaws.{strings-end-grows, strings-end-behind}

-- So many strings end where the bytes do.
abbrev pub filled : List ℕ → ℕ → Bool
filled bytes n = eqb (strings_end bytes 0 n) (length bytes)

eqb-shift : (a x y : ℕ) → eqb (a + x) (a + y) ≡ eqb x y
eqb-shift a x y =
    cases (eqb x y)
    (λ h. eq-eqb (a + x) (a + y) (ap (λ (n : ℕ). a + n) (eqb-true x y h)) ∙ sym h)
    (λ h. ne_eqb (a + x) (a + y) (λ e. clash (eqb x y) (eq-eqb x y (omega arith)) h) ∙ sym h)

-- Bytes that are cut at a place: the strings behind it fill them to the same end.
pub filled-behind : (xs : List ℕ) (at n : ℕ) → at ≤ length xs → eqb (strings_end xs at n) (length xs) ≡ filled (drop at xs) n
filled-behind xs at n h =
    let end : strings_end xs at n ≡ at + strings_end (drop at xs) 0 n = simp add-zero at (strings-end-behind xs at 0 n) in
    let size : length xs ≡ at + length (drop at xs) = omega (arith, length-drop at xs) in
    rw end (ap (eqb (at + strings_end (drop at xs) 0 n)) size ∙ eqb-shift at (strings_end (drop at xs) 0 n) (length (drop at xs)))

-- One string, the length first.
pub filled-more : (len : ℕ) (behind : List ℕ) (left next : ℕ) → left ≡ suc next → len ≤ length behind
    → filled (len ∷ behind) left ≡ filled (drop len behind) next
unfolding strings_end
filled-more len behind left next e h =
    let one : 0 + 1 + len ≡ suc len = omega arith in
    ap (filled (len ∷ behind)) e
    ∙ ap (λ (p : ℕ). eqb (strings_end (len ∷ behind) p next) (suc (length behind))) one
    ∙ filled-behind (len ∷ behind) (suc len) next (omega (arith, h))

-- The next string is cut short, or there is none.
pub filled-short : (len : ℕ) (behind : List ℕ) (left : ℕ) → 0 < left → length behind < len → filled (len ∷ behind) left ≡ false
unfolding strings_end
filled-short len behind left some h =
    let next : left ≡ suc (left - 1) = omega (arith, some) in
    rw next (ne_eqb (strings_end (len ∷ behind) (0 + 1 + len) (left - 1)) (suc (length behind))
    (λ e. omega (arith, e, h, strings-end-grows (len ∷ behind) (0 + 1 + len) (left - 1))))

pub filled-none : (bytes : List ℕ) (left : ℕ) → length bytes ≡ 0 → 0 < left → filled bytes left ≡ false
filled-none bytes left none some = ne_eqb (strings_end bytes 0 left) (length bytes) (λ e. omega (arith, e, some, none, strings-end-grows bytes 0 left))

pub filled-end : (bytes : List ℕ) → filled bytes 0 ≡ eqb (length bytes) 0
unfolding strings_end
filled-end [] = refl
filled-end (x ∷ bytes) = ne_eqb 0 (length (x ∷ bytes)) (λ e. omega (arith, e)) ∙ sym (ne_eqb (length (x ∷ bytes)) 0 (λ e. omega (arith, e)))
