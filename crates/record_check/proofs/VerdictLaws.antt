-- A test and its number, and a refusal that is handed on.
use Rattle.std.specs.Prelude as code
use Rattle.std.specs.Prelude.{Ok, Err, IsErr, IsErrAnd}
use mathlib.Core.Path.{◌≡◌, sym, ap, ◌∙◌}
use mathlib.Core.Bool.{Bool, true, false, cond}
use mathlib.Core.List.{List}
use Prim.Native.Nat.{ℕ}
use Rattle.format.specs.declared.refused.Refusal.{Refusal}
use Rattle.format.specs.RefusalNumber.{refusal_number}
use Rattle.format.specs.RecordNumber.{refusal}
use Rattle.record_check.specs.declared.parsed.Parsed.{Parsed}
use Rattle.record_check.specs.Accepted.{RightlyAccepted}

-- a number that stands for a test that fails, or for one that holds
module _ {b : Bool} (n : ℕ) where
  pub zero-if : b ≡ true → 0 ≡ cond b 0 n
  zero-if h = ap (λ x. cond x 0 n) (sym h)

  pub number-if : b ≡ false → n ≡ cond b 0 n
  number-if h = ap (λ x. cond x 0 n) (sym h)

  pub zero-unless : b ≡ false → 0 ≡ cond b n 0
  zero-unless h = ap (λ x. cond x n 0) (sym h)

  pub number-unless : b ≡ true → n ≡ cond b n 0
  number-unless h = ap (λ x. cond x n 0) (sym h)

pub refused : (xs : List ℕ) (e : Refusal) → refusal_number e ≡ refusal xs → RightlyAccepted xs (Err e)
refused xs e h = record { number = h; rows = tt }

pub refused-by : (xs : List ℕ) (r : code.Result Parsed Refusal) (e : Refusal) → IsErr r × IsErrAnd r (λ x. x ≡ e) → refusal_number e ≡ refusal xs
    → RightlyAccepted xs r
refused-by xs (Ok x) e h t = absurd h.1
refused-by xs (Err x) e h t = refused xs x (ap refusal_number h.1 ∙ t)
