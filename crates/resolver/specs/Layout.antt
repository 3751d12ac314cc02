-- How a claim's tag, date and number share a key, and how much of its nation's number a row holds. A key of 64 bits has
-- room for a tag of 21, a date of 27 and a number of 16.
use Rattle.std.specs.Prelude.{ℕ}

-- ## Tags

-- A letter takes a byte of a tag's word; two letters take two.
abbrev pub one_byte : ℕ
one_byte = 256

abbrev pub two_bytes : ℕ
two_bytes = 65536

-- Of a letter a key keeps seven bits; so much do two letters take, and all three.
abbrev pub one_letter : ℕ
one_letter = 128

abbrev pub two_letters : ℕ
two_letters = 16384

abbrev pub three_letters : ℕ
three_letters = 2097152

-- ## Keys

-- Words of dates, and the numbers of claims in their block, are below these.
abbrev pub claim_dates : ℕ
claim_dates = 134217728

abbrev pub claim_numbers : ℕ
claim_numbers = 65536

-- The highest number of a claim.
abbrev pub last_number : ℕ
last_number = 65535

-- So many numbers lie between the keys of one tag and those of the next.
abbrev pub claim_span : ℕ
claim_span = 8796093022208

-- Every key is below this: it has 64 bits.
abbrev pub key_span : ℕ
key_span = 18446744073709551616

-- ## Rows

-- A row holds the number of a nation plus 1 in a word of 32 bits: numbers below this have room.
abbrev pub row_owners : ℕ
row_owners = 4294967295
