-- Which numbers are marked in words of zeros, and after one more is marked.
use mathlib.Core.Path.{◌≡◌, refl, sym, ap, ◌∙◌}
use mathlib.Core.Bool.{false, ◌||◌}
use mathlib.Core.List.{List}
use Prim.Native.Nat.{ℕ, zero, suc, ◌+◌, ◌-◌, ◌*◌, ◌/◌, ◌%◌, ◌^◌, ◌<◌, ◌≤◌, max}
use native.Mathlib.Nat.{zero-div, div-eq_of_lt, div_self, mul-mod_left}
use native.Mathlib.Omega.{arith}
use native.Mathlib.Decide.{dec_lt}
use borrow.Author.Tests.{eq-eqb, ne_eqb}
use lib.Arith.{digits_mod}
use lib.Bits.{bit_or, or_shr, or_step}
use lib.Dec.{eqb}
use lib.ListN.{length, replicate, length-set, length-replicate, get_or-replicate, get_or-eq_default}
use lib.Pow.{pow-add, pow_pos, pow-lt, shl-shr}
use lib.Seq.{get_or-set_same, get_or-set_other}
use Rattle.record_check.specs.Bitset.{has_bit, with_bit, is_marked, marking}

-- a below b, equal to it, or above it
by_order : {C : Type 0} (a b : ℕ) → (a < b → C) → (a ≡ b → C) → (b < a → C) → C
by_order {C} a b f g h =
    elim (dec_lt a b) as (λ _. C) [
      | yes p ↦ f p
      | no p ↦ elim (dec_lt b a) as (λ _. C) [
        | yes q ↦ h q
        | no q ↦ g (omega arith)
      ]
    ]

-- two tests for equality agree
same_test : (a b c d : ℕ) → (a ≡ b → c ≡ d) → (c ≡ d → a ≡ b) → eqb a b ≡ eqb c d
same_test a b c d f g =
    by_order a b
    (λ l. ne_eqb a b (λ e. omega arith) ∙ sym (ne_eqb c d (λ e. let q = g e in omega arith)))
    (λ e. eq-eqb a b e ∙ sym (eq-eqb c d (f e)))
    (λ l. ne_eqb a b (λ e. omega arith) ∙ sym (ne_eqb c d (λ e. let q = g e in omega arith)))

-- ---- bits of one word

-- a word of 0 has no bit
no-bit : (j : ℕ) → has_bit 0 j ≡ false
unfolding has_bit
no-bit j = simp zero-div

-- two numbers below 2: the larger is 1 where one of them is
larger-one : (p q : ℕ) → p < 2 → q < 2 → eqb (max p q) 1 ≡ eqb q 1 || eqb p 1
larger-one zero zero hp hq = refl
larger-one zero (suc zero) hp hq = refl
larger-one (suc zero) zero hp hq = refl
larger-one (suc zero) (suc zero) hp hq = refl
larger-one (suc (suc p)) q hp hq = absurd (omega arith)
larger-one zero (suc (suc q)) hp hq = absurd (omega arith)
larger-one (suc zero) (suc (suc q)) hp hq = absurd (omega arith)

below_two : (n : ℕ) → n % 2 < 2
below_two n = omega arith

max-small : (p q : ℕ) → p < 2 → q < 2 → max p q < 2
max-small p q hp hq = omega arith

-- the lowest digit of an `or`
or-low : (a b : ℕ) → bit_or a b % 2 ≡ max (a % 2) (b % 2)
or-low a b = rw (or_step a b) (digits_mod (bit_or (a / 2) (b / 2)) (max-small (a % 2) (b % 2) (below_two a) (below_two b)))

bit-or : (w v j : ℕ) → has_bit (bit_or w v) j ≡ has_bit v j || has_bit w j
unfolding has_bit
bit-or w v j =
    rw (or_shr w v j, or-low (w / 2 ^ j) (v / 2 ^ j)) (larger-one (w / 2 ^ j % 2) (v / 2 ^ j % 2) (below_two _) (below_two _))

-- below its one bit, the bits of a power are 0
power-low : (i j : ℕ) → j < i → 2 ^ i / 2 ^ j % 2 ≡ 0
power-low i j h =
    let n = i - j - 1 in
    let e : i ≡ n + 1 + j = omega arith in
    rw (e, pow-add 2 (n + 1) j, shl-shr (2 ^ (n + 1)) j, pow-add 2 n 1) (mul-mod_left (2 ^ n) 2)

-- 2 ^ i has bit i and no other
bit-power : (i j : ℕ) → has_bit (2 ^ i) j ≡ eqb j i
unfolding has_bit
bit-power i j =
    by_order j i
    (λ h. rw (power-low i j h) (sym (ne_eqb j i (λ e. omega arith))))
    (λ h. rw (h, div_self (pow_pos i)) (sym (eq-eqb i i refl)))
    (λ h. rw (div-eq_of_lt (pow-lt h)) (sym (ne_eqb j i (λ e. omega arith))))

-- a word with bit i set has that bit, and else the bits that it had
pub bit-after : (w i j : ℕ) → has_bit (with_bit w i) j ≡ eqb j i || has_bit w j
unfolding with_bit
bit-after w i j = rw (bit-or w (2 ^ i) j, bit-power i j)

-- ---- words

-- marking keeps the number of words
pub length-marking : (ws : List ℕ) (k : ℕ) → length (marking ws k) ≡ length ws
unfolding marking
length-marking ws k = simp length-set

-- a number past the words is not marked
past_words : (ws : List ℕ) (k : ℕ) → length ws ≤ k / 64 → is_marked ws k ≡ false
unfolding is_marked
past_words ws k h = simp (get_or-eq_default ws 0 {n = k / 64} h) (no-bit (k % 64))

-- words of zeros mark no number
pub none-marked : (n k : ℕ) → is_marked (replicate n 0) k ≡ false
unfolding is_marked
none-marked n k =
    by_order (k / 64) n
    (λ h. rw (get_or-replicate {A = ℕ} n (k / 64) 0 0 h) (no-bit (k % 64)))
    (λ h. past_words (replicate n 0) k (simp length-replicate (omega arith)))
    (λ h. past_words (replicate n 0) k (simp length-replicate (omega arith)))

-- a number in the same word: marked before, or the one that is marked now
same_word : (ws : List ℕ) (k j : ℕ) → k / 64 < length ws → j / 64 ≡ k / 64 → is_marked (marking ws k) j ≡ eqb (j % 64) (k % 64) || is_marked ws j
unfolding is_marked marking
same_word ws k j h e = rw (e, get_or-set_same ws (k / 64) _ 0 h, bit-after)

-- a number in another word: as before
other_word : (ws : List ℕ) (k j : ℕ) → (j / 64 ≡ k / 64 → ⊥) → is_marked (marking ws k) j ≡ is_marked ws j
unfolding is_marked marking
other_word ws k j h = rw (get_or-set_other ws (k / 64) (j / 64) _ 0 h)

-- marking k marks k and no other number
pub marked-after : (ws : List ℕ) (k j : ℕ) → k < 64 * length ws → is_marked (marking ws k) j ≡ eqb j k || is_marked ws j
marked-after ws k j h =
    let inside : k / 64 < length ws = omega arith in
    by_order (j / 64) (k / 64)
    (λ l. rw (ne_eqb j k (λ e. omega arith)) (other_word ws k j (λ e. omega arith)))
    (λ e. rw (same_test j k (j % 64) (k % 64) (ap (λ (n : ℕ). n % 64)) (λ f. omega arith)) (same_word ws k j inside e))
    (λ l. rw (ne_eqb j k (λ e. omega arith)) (other_word ws k j (λ e. omega arith)))
