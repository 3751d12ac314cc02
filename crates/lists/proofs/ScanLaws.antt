-- A scan from left to right that keeps the best element so far finds the greatest.
use mathlib.Core.Path.{◌≡◌, refl, sym, ◌∙◌}
use mathlib.Core.Bool.{cond}
use mathlib.Core.List.{List, [], ◌∷◌}
use mathlib.Core.Option.{Option, none, some}
use Prim.Native.Nat.{ℕ}
use native.Mathlib.Omega.{arith}
use borrow.Author.Tests.{leb-true, leb-false, le-leb, lt-leb}
use lib.Dec.{leb}
use Rattle.lists.specs.Lists.{greater_of, greatest}
use Rattle.lists.proofs.BoolLaws.{cases}

module _ {A : Type 0} (key : A → ℕ) where
  -- The new element, unless the best so far has a greater number.
  abbrev pub better : Option A → A → Option A
  better none x = some x
  better (some y) x = cond (leb (key y) (key x)) (some x) (some y)

  abbrev pub scan : Option A → List A → Option A
  scan best [] = best
  scan best (x ∷ xs) = scan (better best x) xs

  greater-twice : (w x : A) (g : Option A)
      → greater_of key w (greater_of key x g) ≡ cond (leb (key w) (key x)) (greater_of key x g) (greater_of key w g)
  greater-twice w x none = refl
  greater-twice w x (some z) =
      cases (leb (key w) (key x))
      (λ a. let a' = leb-true (key w) (key x) a in
      cases (leb (key x) (key z))
      (λ b. let b' = leb-true (key x) (key z) b in simp (a, b, le-leb (key w) (key z) (omega arith)))
      (λ b. simp (a, b)))
      (λ a. let a' = leb-false (key w) (key x) a in
      cases (leb (key x) (key z))
      (λ b. simp (a, b))
      (λ b. let b' = leb-false (key x) (key z) b in simp (a, b, lt-leb (key w) (key z) (omega arith))))

  -- The greatest of the best so far and the rest.
  abbrev joined : Option A → Option A → Option A
  joined none g = g
  joined (some w) g = greater_of key w g

  scan-joined : (best : Option A) (xs : List A) → scan best xs ≡ joined best (greatest key xs)
  scan-joined none [] = refl
  scan-joined (some w) [] = refl
  scan-joined none (x ∷ xs) = scan-joined (some x) xs
  scan-joined (some w) (x ∷ xs) =
      cases (leb (key w) (key x))
      (λ h. simp h (scan-joined (some x) xs ∙ sym (greater-twice w x (greatest key xs) ∙ simp h)))
      (λ h. simp h (scan-joined (some w) xs ∙ sym (greater-twice w x (greatest key xs) ∙ simp h)))

  pub scan-greatest : (xs : List A) → scan none xs ≡ greatest key xs
  scan-greatest xs = scan-joined none xs
