-- A rule of a table, proved at all of its entries by one test that is computed over the whole table, or entry by entry as it is filled.
use mathlib.Core.Path.{◌≡◌, refl, sym, ap, ◌∙◌}
use mathlib.Core.Bool.{Bool, true, ◌&&◌}
use mathlib.Core.List.{List, [], ◌∷◌}
use Prim.Native.Nat.{ℕ, zero, suc, ◌+◌, ◌<◌}
use native.Mathlib.Nat.{add-zero, zero-add, add-suc, suc-add}
use native.Mathlib.Decide.{ℕ_discrete}
use native.Mathlib.Omega.{arith}
use lib.ListN.{length, get_or, set, replicate}
use lib.Seq.{get_or-set_same, get_or-set_other}
use Rattle.lists.proofs.BoolLaws.{and_left, and_right}

-- the test passes at each entry and its place, counted from i
abbrev pub every : (ℕ → ℕ → Bool) → ℕ → List ℕ → Bool
every test i [] = true
every test i (x ∷ xs) = test i x && every test (suc i) xs

from : (test : ℕ → ℕ → Bool) (xs : List ℕ) (i : ℕ) → every test i xs ≡ true → (k : ℕ) → k < length xs → test (i + k) (get_or xs k 0) ≡ true
from test [] i t k h = absurd (omega arith)
from test (x ∷ xs) i t zero h = rw add-zero (and_left (test i x) (every test (suc i) xs) t)
from test (x ∷ xs) i t (suc k) h =
    ap (λ (m : ℕ). test m (get_or xs k 0)) (add-suc i k ∙ sym (suc-add i k))
    ∙ from test xs (suc i) (and_right (test i x) (every test (suc i) xs) t) k (omega arith)

pub entry : (test : ℕ → ℕ → Bool) (xs : List ℕ) → every test 0 xs ≡ true → (k : ℕ) → k < length xs → test k (get_or xs k 0) ≡ true
entry test xs t k h = ap (λ (m : ℕ). test m (get_or xs k 0)) (sym (zero-add k)) ∙ from test xs 0 t k h

-- entry i is written by the rule: an entry keeps to the rule if it is that one or did so before
pub entry_set : {A : Type 0} (rule : ℕ → A) (d : A) (xs : List A) (i k : ℕ) (v : A) → i < length xs → v ≡ rule i
    → ((k ≡ i → ⊥) → get_or xs k d ≡ rule k) → get_or (set xs i v) k d ≡ rule k
entry_set rule d xs i k v h e old =
    elim (ℕ_discrete k i) as (λ _. get_or (set xs i v) k d ≡ rule k) [
      | yes p ↦ rw p (get_or-set_same xs i v d h ∙ e)
      | no p ↦ get_or-set_other xs i k v d p ∙ old p
    ]

-- a table of nothing but the default
pub blank-entry : {A : Type 0} (d : A) (n k : ℕ) → get_or (replicate n d) k d ≡ d
blank-entry d zero k = refl
blank-entry d (suc n) zero = refl
blank-entry d (suc n) (suc k) = blank-entry d n k
