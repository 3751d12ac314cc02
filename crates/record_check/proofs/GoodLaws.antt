-- Whether a row is good, by the numbers of its fields: it is when each field is. A section without a bad row refuses nothing.
use mathlib.Core.Path.{◌≡◌, refl, sym, ◌∙◌}
use mathlib.Core.Bool.{Bool, true, false, cond, ◌&&◌}
use mathlib.Core.List.{List, [], ◌∷◌, map}
use Prim.Native.Nat.{ℕ, suc}
use borrow.Author.Tests.{eqb-true}
use lib.Dec.{eqb}
use Rattle.std.proofs.Math.Dec.{eqb-suc-zero}
use Rattle.lists.specs.Lists.{all_of}
use Rattle.lists.proofs.BoolLaws.{and_left, and_right}
use Rattle.format.specs.RecordNumber.{first_of, first_in}
use Rattle.format.proofs.FirstLaws.{first-pass}

pub good_one : (a : Bool) (n : ℕ) → eqb (cond a 0 (suc n)) 0 ≡ a
good_one true n = refl
good_one false n = eqb-suc-zero n

pub good_two : (a b : Bool) (m n : ℕ) → eqb (first_of (cond a 0 (suc m) ∷ cond b 0 (suc n) ∷ [])) 0 ≡ a && b
unfolding first_of
good_two true true m n = refl
good_two true false m n = eqb-suc-zero n
good_two false b m n = eqb-suc-zero m

pub good_three : (a b c : Bool) (m n o : ℕ) → eqb (first_of (cond a 0 (suc m) ∷ cond b 0 (suc n) ∷ cond c 0 (suc o) ∷ [])) 0 ≡ a && b && c
unfolding first_of
good_three true true true m n o = refl
good_three true true false m n o = eqb-suc-zero o
good_three true false c m n o = eqb-suc-zero n
good_three false b c m n o = eqb-suc-zero m

-- No row is bad.
pub none_bad : {B A : Type 0} (number : A → ℕ) (read : B → A) (rows : List B) → all_of (λ row. eqb (number (read row)) 0) rows ≡ true
    → 0 ≡ first_in number (map read rows)
unfolding first_in first_of
none_bad number read [] h = refl
none_bad number read (row ∷ rows) h =
    none_bad number read rows (and_right (eqb (number (read row)) 0) (all_of (λ r. eqb (number (read r)) 0) rows) h)
    ∙ sym (first-pass (number (read row)) (map number (map read rows)) (eqb-true (number (read row)) 0
    (and_left (eqb (number (read row)) 0) (all_of (λ r. eqb (number (read r)) 0) rows) h)))
