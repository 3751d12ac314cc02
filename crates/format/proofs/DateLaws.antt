-- A date by its size and its day.
use mathlib.Core.Path.{◌≡◌, sym, ◌∙◌}
use mathlib.Core.Bool.{◌&&◌}
use Prim.Native.Nat.{ℕ, ◌/◌, ◌%◌}
use native.Mathlib.Decide.{dec_le}
use native.Mathlib.Omega.{arith}
use borrow.Author.Tests.{le-leb, lt-leb}
use lib.Dec.{leb}
use Rattle.format.specs.declared.date.Eu4Date.{Eu4Date}
use Rattle.format.specs.Dates.{good_date}
use Rattle.format.specs.Days.{in_years, month_day, is_day}

-- The remainder behind the year has the date's month and day.
month-of : (w : ℕ) → w % 10000 / 100 ≡ w / 100 % 100
month-of w = omega arith

day-of : (w : ℕ) → w % 10000 % 100 ≡ w % 100
day-of w = omega arith

-- A good date is one in its years whose remainder is a day.
pub good-in-parts : (d : Eu4Date) → in_years d && is_day (month_day d) ≡ good_date d
unfolding good_date is_day
good-in-parts d = rw (month-of d.0, day-of d.0)

-- The first and the last year by the number's size.
first-year : (w : ℕ) → leb 10000 w ≡ leb 1 (w / 10000)
first-year w =
    elim (dec_le 10000 w) as (λ _. leb 10000 w ≡ leb 1 (w / 10000)) [
      | yes p ↦ le-leb 10000 w p ∙ sym (le-leb 1 (w / 10000) (omega arith))
      | no p ↦ lt-leb 10000 w (omega arith) ∙ sym (lt-leb 1 (w / 10000) (omega arith))
    ]

last-year : (w : ℕ) → leb w 99999999 ≡ leb (w / 10000) 9999
last-year w =
    elim (dec_le w 99999999) as (λ _. leb w 99999999 ≡ leb (w / 10000) 9999) [
      | yes p ↦ le-leb w 99999999 p ∙ sym (le-leb (w / 10000) 9999 (omega arith))
      | no p ↦ lt-leb w 99999999 (omega arith) ∙ sym (lt-leb (w / 10000) 9999 (omega arith))
    ]

pub years-by-size : (w : ℕ) → leb 10000 w && leb w 99999999 ≡ leb 1 (w / 10000) && leb (w / 10000) 9999
years-by-size w = rw (first-year w, last-year w)
