-- Two bits hold each month's days over 28, by one test computed over the table of months; there is no month 0 and none past 12.
use mathlib.Core.Path.{◌≡◌, refl, sym, ap}
use mathlib.Core.Bool.{Bool, ◌||◌}
use Prim.Native.Nat.{ℕ, ◌+◌, ◌*◌, ◌/◌, ◌%◌, ◌^◌}
use native.Mathlib.Omega.{arith}
use borrow.Author.Tests.{eqb-true, le-ltb}
use lib.Dec.{eqb, ltb}
use lib.ListN.{get_or-eq_default}
use Rattle.lists.proofs.TableLaws.{entry}
use Rattle.format.specs.Dates.{month_table, month_days}
use Rattle.format.proofs.date.month_days.Goals as goal

-- the days of month m by its two bits are x
abbrev right : ℕ → ℕ → Bool
right m x = ltb m 1 || eqb (28 + 62648012 / 2 ^ (2 * m) % 4) x

pub returns-then-m-lt1 : goal.returns-then-m-lt1
returns-then-m-lt1 c = let none : c.args.m ≡ 0 = omega arith in sym (ap (λ (m : ℕ). month_days m) none)

pub returns-then-m-gt12 : goal.returns-then-m-gt12
returns-then-m-gt12 c = sym (get_or-eq_default month_table 0 {n = c.args.m} (omega arith))

pub returns : goal.returns
returns c =
    let m = c.args.m in
    let month = le-ltb m 1 (omega arith) in
    let days = entry right month_table refl m (omega arith) in
    eqb-true (28 + 62648012 / 2 ^ (2 * m) % 4) (month_days m) (simp month at days)
