-- How numbers share keys and cells, and how many of each a record has at most. Inner: these are how the nations are computed. A key of 64 bits has room for a row of 11 bits, a date of 27 and the number of a switch of 15, or for a tag of 24, a date and a
-- row.
use Rattle.std.specs.Prelude.{ℕ, ◌/◌, min}
use Rattle.std.proofs.Math.Option.{Option, none, some}
use Rattle.record.specs.Width.{row_bytes}

-- ## At most so many of a record

abbrev pub most_countries : ℕ
most_countries = 2000

abbrev pub most_switches : ℕ
most_switches = 20000

-- One more than there are provinces.
abbrev pub most_slots : ℕ
most_slots = 8001

-- Changes settle by a key of each switch and one of each country.
abbrev pub most_settling : ℕ
most_settling = 22000

-- How many rows a record of so many bytes may have, where each takes `row_bytes` at least and no record has more than `most`: so it bounds the countries,
-- the slots, the owner events, and the switches and countries together.
abbrev pub rows_within : ℕ → ℕ → ℕ
rows_within most bytes = min most (bytes / row_bytes)

-- ## Keys

-- Rows, words of dates, numbers of switches and words of tags are below these.
abbrev pub key_rows : ℕ
key_rows = 2048

abbrev pub key_dates : ℕ
key_dates = 134217728

abbrev pub key_numbers : ℕ
key_numbers = 32768

abbrev pub key_tags : ℕ
key_tags = 16777216

-- Behind every date, with room in a key.
abbrev pub last_date : ℕ
last_date = 134217727

-- Any word of 32 bits is below this, and the key of any word with a row is below the second.
abbrev pub word_span : ℕ
word_span = 4294967296

abbrev pub row_key_span : ℕ
row_key_span = 8796093022208

-- So many numbers lie between the keys of switches from one tag and those from the next, and between those of one row and of the next.
abbrev pub tag_span : ℕ
tag_span = 274877906944

abbrev pub row_span : ℕ
row_span = 4398046511104

-- ## Cells

-- Any number of 16 bits is below this.
abbrev pub short_span : ℕ
short_span = 65536

-- No change has this number: it ends a chain.
abbrev pub no_change : ℕ
no_change = 65535

-- No row: there is no country.
abbrev pub no_row : ℕ
no_row = 65535

-- A row as it stands in a cell.
abbrev pub row_number : Option ℕ → ℕ
row_number none = no_row
row_number (some row) = row

-- In the cell of a holder so many rows have room below the word.
abbrev pub cell_rows : ℕ
cell_rows = 65536

-- The cell of a slot that nobody holds: no word, and no row.
abbrev pub nobody_cell : ℕ
nobody_cell = 65535
