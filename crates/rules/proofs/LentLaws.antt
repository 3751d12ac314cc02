-- An outcome by its number: above 0 it is a refusal and leaves the lent memory, with 0 it gives its values.
use mathlib.Core.Path.{◌≡◌, refl}
use Prim.Native.Nat.{ℕ, zero, suc, ◌<◌}
use native.Mathlib.Omega.{arith}
use Rattle.rules.specs.Lent.{refused, gives, answered, outcome}

module _ {A : Type 0} (n : ℕ) (values : A) where
  pub answered-refused : 0 < n → answered n values ≡ refused n
  answered-refused = go n
    where
      go : (m : ℕ) → 0 < m → answered m values ≡ refused m
      go zero h = absurd (omega arith)
      go (suc m) h = refl

  pub answered-gives : n ≡ 0 → answered n values ≡ gives values
  answered-gives e = rw e

-- What is given tells the number.
pub answered-given : {A : Type 0} (n : ℕ) (values given : A) → gives given ≡ answered n values → (n ≡ 0) × (given ≡ values)
answered-given zero values given e = (refl, cc)
answered-given (suc n) values given e = let z : ◌≡◌ {A = ℕ} 0 1 = cc in absurd (omega arith)

module _ {A M : Type 0} (n : ℕ) (values : A) (after before : M) where
  pub outcome-refused : 0 < n → outcome n values after before ≡ record { answer = refused n; memory = before }
  outcome-refused = go n
    where
      go : (m : ℕ) → 0 < m → outcome m values after before ≡ record { answer = refused m; memory = before }
      go zero h = absurd (omega arith)
      go (suc m) h = refl

  pub outcome-gives : n ≡ 0 → outcome n values after before ≡ record { answer = gives values; memory = after }
  outcome-gives e = rw e
