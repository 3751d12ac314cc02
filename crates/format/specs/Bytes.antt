-- Rules 1: how numbers, tags, dates and ids are read from bytes. The low byte comes first.
use Rattle.std.specs.Prelude.{Bool, cond, List, ℕ, ◌+◌, ◌-◌, ◌*◌, ◌/◌, ◌%◌, ◌^◌, ltb, eqb, ℤ, pos, negsuc, get_or}
use Rattle.format.specs.declared.tag.CountryTag.{CountryTag}
use Rattle.format.specs.declared.date.Eu4Date.{Eu4Date}
use Rattle.format.specs.declared.rows.ProvinceId.{ProvinceId}
use Rattle.format.specs.Tags.{tag_of}

-- The byte at an offset, 0 past the end. (Rules 1.1)
abbrev pub byte_at : List ℕ → ℕ → ℕ
byte_at xs at = get_or xs at 0

-- 16 and 32 bits, low byte first. (Rules 1.1)
unfoldable pub le16 : List ℕ → ℕ → ℕ
le16 xs at = byte_at xs at + byte_at xs (at + 1) * 256

unfoldable pub le32 : List ℕ → ℕ → ℕ
le32 xs at = byte_at xs at + byte_at xs (at + 1) * 256 + byte_at xs (at + 2) * 65536 + byte_at xs (at + 3) * 16777216

-- A 32-bit word as a signed number, in two's complement. (Rules 1.1)
unfoldable pub signed32 : ℕ → ℤ
signed32 w = cond (ltb w 2147483648) (pos w) (negsuc (4294967295 - w))

-- Bit k of a number of flags. (Rules 1.4)
unfoldable pub bit : ℕ → ℕ → Bool
bit k flags = eqb (flags / 2 ^ k % 2) 1

-- Three bytes, read as a tag. (Rules 1.2)
unfoldable pub tag_at : List ℕ → ℕ → CountryTag
tag_at xs at = tag_of (byte_at xs at) (byte_at xs (at + 1)) (byte_at xs (at + 2))

-- 32 bits, read as a date. (Rules 1.3)
unfoldable pub date_at : List ℕ → ℕ → Eu4Date
date_at xs at = record { 0 = le32 xs at }

-- 16 bits, read as a province id. (Rules 1.8)
unfoldable pub id_at : List ℕ → ℕ → ProvinceId
id_at xs at = record { 0 = le16 xs at }
