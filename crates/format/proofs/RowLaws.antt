-- Rows at an offset: how many a section has.
use mathlib.Core.Path.{◌≡◌, refl, ap}
use mathlib.Core.List.{List, []}
use Prim.Native.Nat.{ℕ, zero, suc, ◌+◌, ◌*◌, ◌<◌, ◌≤◌}
use native.Mathlib.Nat.{mul-suc}
use native.Mathlib.Omega.{arith}
use native.Mathlib.Decide.{dec_le}
use borrow.Author.Tests.{le-leb, lt-leb}
use lib.ListN.{length}
use Rattle.format.specs.Rows.{rows_at}

module _ {A : Type 0} (row : ℕ → A) (width : ℕ) (xs : List ℕ) where
  pub rows_none : (at : ℕ) → rows_at row width xs at 0 ≡ []
  unfolding rows_at
  rows_none at = refl

  -- at most as many as are counted
  pub rows-counted : (at n : ℕ) → length (rows_at row width xs at n) ≤ n
  unfolding rows_at
  rows-counted at zero = omega arith
  rows-counted at (suc n) =
      elim (dec_le (at + width) (length xs)) as (λ _. length (rows_at row width xs at (suc n)) ≤ suc n) [
        | yes h ↦ simp (le-leb _ _ h) (omega (arith, rows-counted (at + width) n))
        | no h ↦ let past : length xs < at + width = omega arith in simp (lt-leb _ _ past) (omega arith)
      ]

  -- all that are counted, where the last one stands whole
  pub rows_all : (at n : ℕ) → at + width * n ≤ length xs → length (rows_at row width xs at n) ≡ n
  unfolding rows_at
  rows_all at zero h = refl
  rows_all at (suc n) h =
      let whole : at + width ≤ length xs = omega (arith, h, mul-suc width n) in
      simp (le-leb _ _ whole) (ap suc (rows_all (at + width) n (omega (arith, h, mul-suc width n))))
