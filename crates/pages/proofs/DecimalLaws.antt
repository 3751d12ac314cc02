-- A number's digits as the library writes them are those of the rules.
use Rattle.std.proofs.Common.{◌≡◌, refl, sym, ap, ◌∙◌, ℕ, zero, suc, ◌+◌, ◌/◌, ◌%◌, ◌^◌, ◌<◌, List, [], ◌∷◌, ◌++◌, false, ltb, arith, append_assoc, append-nil}
use borrow.Author.Tests.{ltb-true, ltb-false, lt-ltb, eq-eqb, ne_eqb}
use Rattle.std.proofs.Math.Nat.{pow-suc}
use Rattle.lists.proofs.BoolLaws.{cases}
use Rattle.std.specs.Fmt as library
use Rattle.std.specs.Fmt.{digits_onto, digit_glyph}
use Rattle.rules.specs.Page.{digits, decimal}

glyph : (d : ℕ) → d < 10 → digit_glyph false d ≡ 48 + d
glyph d h = simp (lt-ltb d 10 h)

-- The digits written in front of a text.
onto : (k n : ℕ) (text : List ℕ) → digits_onto k 10 false n text ≡ digits k n ++ text
unfolding digits
onto zero n text = refl
onto (suc k) n text =
    cases (ltb n 10)
    (λ small.
    let few = ltb-true n 10 small in
    let none : n / 10 ≡ 0 = omega (arith, few) in
    let last : n % 10 ≡ n = omega (arith, few) in
    simp (small, eq-eqb (n / 10) 0 none, last, glyph n few))
    (λ large.
    let many = ltb-false n 10 large in
    let some = ne_eqb (n / 10) 0 (λ e. omega (arith, e, many)) in
    let last : n % 10 < 10 = omega arith in
    simp (large, some, glyph (n % 10) last)
    (onto k (n / 10) ((48 + n % 10) ∷ text) ∙ sym (append_assoc (digits k (n / 10)) ((48 + n % 10) ∷ []) text)))

-- Any number of digits is enough of which the highest number is not passed.
digits-enough : (m k n : ℕ) → n < 10 ^ suc m → n < 10 ^ suc k → digits (suc m) n ≡ digits (suc k) n
unfolding digits
digits-enough zero k n p q = let few : n < 10 = p in simp (lt-ltb n 10 few)
digits-enough (suc m) zero n p q = let few : n < 10 = q in simp (lt-ltb n 10 few)
digits-enough (suc m) (suc k) n p q =
    cases (ltb n 10) (λ small. simp small)
    (λ large. simp (large, digits-enough m k (n / 10) (tenth n m p) (tenth n k q)))
  where
    tenth : (n m : ℕ) → n < 10 ^ suc (suc m) → n / 10 < 10 ^ suc m
    tenth n m p = let e = pow-suc 10 (suc m) in omega (arith, p, e)

-- A number has no more digits than its next one in tens.
below-tens : (n : ℕ) → n < 10 ^ suc n
below-tens zero = omega arith
below-tens (suc n) = let e = pow-suc 10 (suc n) in omega (arith, below-tens n, e)

pub decimal_same : (n : ℕ) → n < 2 ^ 64 → library.decimal n ≡ decimal n
unfolding library.digits
decimal_same n h =
    let wide : n < 10 ^ 64 = omega arith in
    let next : n + 1 ≡ suc n = omega arith in
    onto 64 n [] ∙ append-nil (digits 64 n) ∙ digits-enough 63 n n wide (below-tens n) ∙ ap (λ k. digits k n) (sym next)
