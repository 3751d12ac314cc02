-- The first number that refuses: of a list, and of the rows of a section.
use mathlib.Core.Path.{◌≡◌, refl}
use mathlib.Core.List.{List, [], ◌∷◌, ◌++◌, map}
use Prim.Native.Nat.{ℕ, zero, suc}
use native.Mathlib.Omega.{arith}
use Rattle.lists.specs.Lists.{All}
use Rattle.lists.proofs.ListLaws.{all-unmap}
use Rattle.format.specs.RecordNumber.{first_of, first_in}

pub first-pass : (n : ℕ) (ns : List ℕ) → n ≡ 0 → first_of (n ∷ ns) ≡ first_of ns
unfolding first_of
first-pass zero ns e = refl
first-pass (suc n) ns e = absurd (omega arith)

pub first-stop : (n : ℕ) (ns : List ℕ) → (n ≡ 0 → ⊥) → first_of (n ∷ ns) ≡ n
unfolding first_of
first-stop zero ns h = absurd (h refl)
first-stop (suc n) ns h = refl

-- nothing refuses: neither the first number nor one behind it
pub first-zero : (n : ℕ) (ns : List ℕ) → first_of (n ∷ ns) ≡ 0 → (n ≡ 0) × (first_of ns ≡ 0)
unfolding first_of
first-zero zero ns h = (refl, h)
first-zero (suc n) ns h = absurd (omega arith)

-- nothing refuses: no number of the list, no row of the section
pub all-zero : (ns : List ℕ) → first_of ns ≡ 0 → All (λ n. n ≡ 0) ns
all-zero [] h = tt
all-zero (n ∷ ns) h = let z = first-zero n ns h in (z.0, all-zero ns z.1)

pub rows-zero : {A : Type 0} (number : A → ℕ) (rows : List A) → first_in number rows ≡ 0 → All (λ r. number r ≡ 0) rows
unfolding first_in
rows-zero number rows h = all-unmap (λ n. n ≡ 0) number rows (all-zero (map number rows) h)

-- a list of one number
pub first_one : (n : ℕ) → first_of (n ∷ []) ≡ n
unfolding first_of
first_one zero = refl
first_one (suc n) = refl

-- of two lists in turn
pub first-append : (ms ns : List ℕ) → first_of (ms ++ ns) ≡ first_of (first_of ms ∷ ns)
unfolding first_of
first-append [] ns = refl
first-append (zero ∷ ms) ns = first-append ms ns
first-append (suc m ∷ ms) ns = refl
