-- An answer refuses or gives, never both; and equal ones have equal parts.
use mathlib.Core.Path.{◌≡◌, refl, sym, ap}
use mathlib.Core.Bool.{Bool, true, false}
use Prim.Native.Nat.{ℕ}
use Rattle.lists.proofs.BoolLaws.{clash}
use Rattle.rules.specs.Lent.{Answer, refused, gives}

module _ {A : Type 0} where
  abbrev is_given : Answer A → Bool
  is_given (gives r) = true
  is_given (refused n) = false

  abbrev given_or : A → Answer A → A
  given_or d (gives r) = r
  given_or d (refused n) = d

  abbrev number_or : ℕ → Answer A → ℕ
  number_or d (gives r) = d
  number_or d (refused n) = n

  pub not-refused : (n : ℕ) (r : A) → refused n ≡ gives r → ⊥
  not-refused n r e = clash true refl (sym (ap is_given e))

  pub same_gives : (r d : A) → gives r ≡ gives d → r ≡ d
  same_gives r d e = ap (given_or d) e

  pub same-refused : (n d : ℕ) → ◌≡◌ {A = Answer A} (refused n) (refused d) → n ≡ d
  same-refused n d e = ap (number_or d) e
