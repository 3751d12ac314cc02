-- Sort keys. Inner: these are how the nations are computed. A row is a country's number in the record,
-- from 0.
use Rattle.std.specs.Prelude.{ℕ, ◌+◌, ◌*◌, ◌/◌, ◌%◌}
use Rattle.nation_tables.specs.Layout.{key_rows, key_dates, key_numbers}

-- A word with a row below it, and the word and the row that a key holds.
abbrev pub row_key : ℕ → ℕ → ℕ
row_key word row = word * key_rows + row

abbrev pub word_in : ℕ → ℕ
word_in key = key / key_rows

abbrev pub row_in : ℕ → ℕ
row_in key = key % key_rows

-- A switch's key by the tag that was left: this tag, the date and the row of the country.
abbrev pub settling_key : ℕ → ℕ → ℕ → ℕ
settling_key from date row = (from * key_dates + date) * key_rows + row

-- A switch's key by its country: the country's row, the date and the number of the switch in the record.
abbrev pub run_key : ℕ → ℕ → ℕ → ℕ
run_key row date number = (row * key_dates + date) * key_numbers + number

-- The date in a key by row, and the number of the switch.
abbrev pub date_in : ℕ → ℕ
date_in key = key / key_numbers % key_dates

abbrev pub number_in : ℕ → ℕ
number_in key = key % key_numbers
