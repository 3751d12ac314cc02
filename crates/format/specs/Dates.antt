-- Rules 1: dates. A date is year×10000 + month×100 + day; date order is number order.
use Rattle.std.specs.Prelude.{Bool, cond, ◌&&◌, List, [], ◌∷◌, ℕ, ◌/◌, ◌%◌, leb, ltb, eqb, get_or}
use Rattle.std.proofs.Math.Option.{Option, none, some}
use Rattle.format.specs.declared.date.Eu4Date.{Eu4Date}

-- Its year, month and day. (Rules 1.3)
abbrev pub year : Eu4Date → ℕ
year d = d.0 / 10000

abbrev pub month : Eu4Date → ℕ
month d = d.0 / 100 % 100

abbrev pub day : Eu4Date → ℕ
day d = d.0 % 100

-- The days of each month, without leap days; number 0 stands for no month. (Rules 1.3)
abbrev pub month_table : List ℕ
month_table = 0 ∷ 31 ∷ 28 ∷ 31 ∷ 30 ∷ 31 ∷ 30 ∷ 31 ∷ 31 ∷ 30 ∷ 31 ∷ 30 ∷ 31 ∷ []

-- How many days a month has; none for a number that is no month's. (Rules 1.3)
abbrev pub month_days : ℕ → ℕ
month_days m = get_or month_table m 0

-- A good date of a month with so many days: year 1 to 9999, a day of the month. (Rules 1.3)
abbrev pub good_in : ℕ → Eu4Date → Bool
good_in days d = leb 1 (year d) && leb (year d) 9999 && (leb 1 (day d) && leb (day d) days)

-- A good date: the days are those of its own month. (Rules 1.3)
unfoldable pub good_date : Eu4Date → Bool
good_date d = good_in (month_days (month d)) d

-- Date order is number order. (Rules 1.3)
abbrev pub not_after : Eu4Date → Eu4Date → Bool
not_after a b = leb a.0 b.0

abbrev pub earlier : Eu4Date → Eu4Date → Bool
earlier a b = ltb a.0 b.0

-- Two dates are the same date when their numbers are. (Rules 1.3)
abbrev pub same_date : Eu4Date → Eu4Date → Bool
same_date a b = eqb a.0 b.0

-- A 32-bit word, read as a date: a date or none, which is 5 in a record, 11 in a lent row and 12 in a question. (Rules 1.3)
unfoldable pub date_of_word : ℕ → Option Eu4Date
date_of_word w = cond (good_date (record { 0 = w })) (some (record { 0 = w })) none
