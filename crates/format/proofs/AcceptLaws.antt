-- What an accepted record is known by: every check passed.
use mathlib.Core.Path.{◌≡◌, refl}
use mathlib.Core.Bool.{Bool, true, false, cond, ◌||◌}
use mathlib.Core.List.{List}
use Prim.Native.Nat.{ℕ, ◌<◌, ◌≤◌}
use native.Mathlib.Omega.{arith}
use borrow.Author.Tests.{eqb-true, ltb-false}
use lib.Dec.{eqb, ltb}
use Rattle.lists.proofs.BoolLaws.{neither}
use Rattle.format.specs.Head.{head_of}
use Rattle.format.specs.Laid.{Laid}
use Rattle.format.specs.RecordNumber.{refusal, opens, sizes_agree, fields_number, tag_twice, id_twice_or_above}
use Rattle.format.proofs.FirstLaws.{first-zero}
use Rattle.format.proofs.SizeLaws.{laid}

pub record Accepted (xs : List ℕ) : Type 0 where
  pub opened : opens xs ≡ true
  pub version : (head_of xs).version ≡ 1
  pub sizes : sizes_agree xs ≡ true
  pub fields : fields_number xs ≡ 0
  pub tags_once : tag_twice xs ≡ false
  pub ids_once : id_twice_or_above xs ≡ false
  pub order : (head_of xs).start.0 ≤ (head_of xs).current.0

-- a number that refuses where a test fails, or where it holds
pub number-true : (b : Bool) (n : ℕ) → 0 < n → cond b 0 n ≡ 0 → b ≡ true
number-true true n p h = refl
number-true false n p h = absurd (omega arith)

pub number-false : (b : Bool) (n : ℕ) → 0 < n → cond b n 0 ≡ 0 → b ≡ false
number-false true n p h = absurd (omega arith)
number-false false n p h = refl

pub accepted : (xs : List ℕ) → refusal xs ≡ 0 → Accepted xs
unfolding refusal
accepted xs h =
    let a = first-zero _ _ h in
    let b = first-zero _ _ a.1 in
    let c = first-zero _ _ b.1 in
    let d = first-zero _ _ c.1 in
    let e = first-zero _ _ d.1 in
    let f = first-zero _ _ e.1 in
    let once = neither (tag_twice xs) (id_twice_or_above xs) (number-false (tag_twice xs || id_twice_or_above xs) 7 (omega arith) e.0) in
    record {
      opened = number-true (opens xs) 1 (omega arith) a.0;
      version = eqb-true (head_of xs).version 1 (number-true (eqb (head_of xs).version 1) 2 (omega arith) b.0);
      sizes = number-true (sizes_agree xs) 3 (omega arith) c.0;
      fields = d.0;
      tags_once = once.0;
      ids_once = once.1;
      order = ltb-false (head_of xs).current.0 (head_of xs).start.0 (number-false (ltb (head_of xs).current.0 (head_of xs).start.0) 8 (omega arith) f.0);
    }

pub accepted-laid : (xs : List ℕ) → Accepted xs → Laid xs (head_of xs)
accepted-laid xs a = laid xs (head_of xs) refl a.sizes
