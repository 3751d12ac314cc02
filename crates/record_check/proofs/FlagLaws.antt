-- A mask's test in terms of the number's digits: one law for every bit, and one for the bits above a place.
use mathlib.Core.Path.{◌≡◌, sym, ap, ◌∙◌}
use mathlib.Core.Bool.{not}
use Prim.Native.Nat.{ℕ, ◌+◌, ◌-◌, ◌*◌, ◌/◌, ◌%◌, ◌^◌, ◌<◌, ◌≤◌}
use native.Mathlib.Omega.{arith}
use native.Mathlib.Decide.{dec_lt}
use native.Mathlib.Nat.{zero-mul, one-mul, div-eq_of_lt, mod-eq_of_lt, pow-le-pow_right}
use borrow.Author.Tests.{eq-eqb, ne_eqb, lt-ltb, le-ltb}
use lib.Dec.{eqb, ltb}
use lib.Pow.{pow_pos}
use lib.Bits.{bit_and, and_high, and_zero_r}
use Rattle.std.specs.Prelude.{Some, None, SomeIff}
use Rattle.std.specs.Prelude as code
use Rattle.std.specs.Option.{unwrap_or}
use Rattle.std.proofs.Math.Nat.{div-lt_iff_lt-mul, lt-div-mul-add}
use Rattle.std.proofs.Math.Pow.{pow-lt}
use Rattle.std.proofs.lemmas.Nat.{pow-add}
use Rattle.format.specs.Bytes.{bit}

-- a digit below 2, times a number above 0
digit-test : (d m : ℕ) → d < 2 → 0 < m → not (eqb (d * m) 0) ≡ eqb d 1
digit-test d m h p =
    elim (dec_lt d 1) as (λ _. not (eqb (d * m) 0) ≡ eqb d 1) [
      | yes a ↦ let e : d ≡ 0 = omega arith in rw (e, zero-mul)
      | no b ↦ let e : d ≡ 1 = omega arith in rw (e, one-mul) (ap not (ne_eqb m 0 (λ q. omega arith)))
    ]

-- `flags & 2^k != 0` is bit k
pub bit_test : (k n : ℕ) → not (eqb (bit_and n (2 ^ (1 + k) - 2 ^ k)) 0) ≡ bit k n
unfolding bit
bit_test k n = rw (and_high n 1 k) (digit-test (n / 2 ^ k % 2) (2 ^ k) (omega arith) (pow_pos k))

-- a number is below a bound, or its test against 0 fails
pub below-test : (a n bound : ℕ) → (n < bound → a ≡ 0) → (bound ≤ n → a ≡ 0 → ⊥) → eqb a 0 ≡ ltb n bound
below-test a n bound f g =
    elim (dec_lt n bound) as (λ _. eqb a 0 ≡ ltb n bound) [
      | yes p ↦ eq-eqb a 0 (f p) ∙ sym (lt-ltb n bound p)
      | no p ↦ let q : bound ≤ n = omega arith in ne_eqb a 0 (g q) ∙ sym (le-ltb n bound q)
    ]

-- the mask of a word's bits from k on keeps just these
high-bits : (f k : ℕ) → f < 2 ^ 32 → k ≤ 32 → bit_and f (2 ^ 32 - 2 ^ k) ≡ f / 2 ^ k * 2 ^ k
high-bits f k small h =
    let all : 32 - k + k ≡ 32 = omega (arith, h) in
    let kept : bit_and f (2 ^ 32 - 2 ^ k) ≡ f / 2 ^ k % 2 ^ (32 - k) * 2 ^ k =
    rw all at (and_high f (32 - k) k) in
    let whole : 2 ^ (32 - k) * 2 ^ k ≡ 2 ^ 32 = sym (pow-add 2 (32 - k) k) ∙ ap (λ (n : ℕ). 2 ^ n) all in
    let below : f < 2 ^ (32 - k) * 2 ^ k = omega (arith, small, whole) in
    kept ∙ ap (λ (x : ℕ). x * 2 ^ k) (mod-eq_of_lt ((div-lt_iff_lt-mul (pow_pos k)).1 below))

-- none of them is set exactly below 2^k
none-high : (f k : ℕ) → eqb (f / 2 ^ k * 2 ^ k) 0 ≡ ltb f (2 ^ k)
none-high f k =
    below-test (f / 2 ^ k * 2 ^ k) f (2 ^ k)
    (λ h. rw (div-eq_of_lt h) (zero-mul (2 ^ k)))
    (λ h e. let most = lt-div-mul-add {a = f} (pow_pos k) in omega (arith, h, e, most))

-- all bits shifted by k; behind the last bit nothing is left of them
pub masked-off : (o : code.Option ℕ) (f k : ℕ) → f < 2 ^ 32 → SomeIff o (k < 32) ((4294967295 * 2 ^ k) % 2 ^ 32)
    → eqb (bit_and f (unwrap_or o 0)) 0 ≡ ltb f (2 ^ k)
masked-off (Some m) f k small h =
    let most : 2 ^ k < 2 ^ 32 = pow-lt h.0 in
    let told : m ≡ 2 ^ 32 - 2 ^ k = h.1 ∙ shifted (2 ^ k) (pow_pos k) most in
    ap (λ (x : ℕ). eqb x 0) (ap (bit_and f) told ∙ high-bits f k small (omega (arith, h.0))) ∙ none-high f k
  where
    shifted : (p : ℕ) → 0 < p → p < 4294967296 → (4294967295 * p) % 4294967296 ≡ 4294967296 - p
    shifted p some small = omega (arith, some, small)
masked-off None f k small h =
    let past : 32 ≤ k = omega (arith, h) in
    let large : 2 ^ 32 ≤ 2 ^ k = pow-le-pow_right (omega arith) past in
    ap (λ (x : ℕ). eqb x 0) (and_zero_r f) ∙ sym (lt-ltb f (2 ^ k) (omega (arith, small, large)))
