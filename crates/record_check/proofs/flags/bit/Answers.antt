-- Behind the last bit every bit is 0, as the mask is.
use mathlib.Core.Path.{◌≡◌, refl, sym, ap, ◌∙◌}
use mathlib.Core.Bool.{not}
use Prim.Native.Nat.{ℕ, suc, ◌+◌, ◌-◌, ◌*◌, ◌/◌, ◌%◌, ◌^◌, ◌<◌, ◌≤◌}
use native.Mathlib.Nat.{div-eq_of_lt, mod-eq_of_lt, pow-le-pow_right}
use native.Mathlib.Omega.{arith}
use lib.Bits.{bit_and, and_zero_r}
use lib.Dec.{eqb}
use Rattle.std.specs.Prelude.{Some, None, SomeIff}
use Rattle.std.specs.Prelude as code
use Rattle.std.specs.Option.{unwrap_or}
use Rattle.std.proofs.Math.Nat.{pow-suc}
use Rattle.std.proofs.Math.Pow.{pow-lt}
use Rattle.format.specs.Bytes.{bit}
use Rattle.record_check.proofs.FlagLaws.{bit_test}
use Rattle.record_check.proofs.flags.bit.Goals as goal

mask-of : (k : ℕ) → 2 ^ (1 + k) - 2 ^ k ≡ 2 ^ k
mask-of k = let e : 1 + k ≡ suc k = omega arith in rw (e, pow-suc 2 k) (omega arith)

masked : (o : code.Option ℕ) (n k : ℕ) → n < 4294967296 → SomeIff o (k < 32) ((1 * 2 ^ k) % 2 ^ 32) → not (eqb (bit_and n (unwrap_or o 0)) 0) ≡ bit k n
unfolding bit
masked (Some x) n k small h =
    let inside : 1 * 2 ^ k < 2 ^ 32 = omega (arith, pow-lt h.0) in
    let told : x ≡ 2 ^ (1 + k) - 2 ^ k = h.1 ∙ (mod-eq_of_lt inside ∙ (omega arith ∙ sym (mask-of k))) in
    ap (λ (m : ℕ). not (eqb (bit_and n m) 0)) told ∙ bit_test k n
masked None n k small h = far
  where
    far : not (eqb (bit_and n 0) 0) ≡ bit k n
    far =
        let past : 32 ≤ k = omega (arith, h) in
        let large : 2 ^ 32 ≤ 2 ^ k = pow-le-pow_right (omega arith) past in
        let none : n / 2 ^ k ≡ 0 = div-eq_of_lt (omega (arith, small, large)) in
        rw (and_zero_r n, none) refl

pub returns : goal.returns
returns c =
    ap (λ (m : ℕ). not (eqb (bit_and c.args.flags m) 0)) c.unwrap_or-mask.ensures ∙ masked c.checked_shl.result c.args.flags c.args.k (omega arith) c.checked_shl.ensures
