-- How the code tests a date: by the size of its number, and by what is left of it behind the year. `good-in-parts` (DateLaws) says that
-- both together are the rule of Dates.
use Rattle.std.specs.Prelude.{Bool, ◌&&◌, ℕ, ◌/◌, ◌%◌, leb}
use Rattle.format.specs.declared.date.Eu4Date.{Eu4Date}
use Rattle.format.specs.Dates.{year, month_days}

-- A year of four digits, and not 0.
abbrev pub in_years : Eu4Date → Bool
in_years d = leb 1 (year d) && leb (year d) 9999

-- Month and day as one number, month×100 + day.
abbrev pub month_day : Eu4Date → ℕ
month_day d = d.0 % 10000

-- Such a number is a day that its month has.
unfoldable pub is_day : ℕ → Bool
is_day k = leb 1 (k % 100) && leb (k % 100) (month_days (k / 100))
