-- Rules 1: the rows of each section, as fields with names. Offsets stand here and in Head, and nowhere above.
use Rattle.std.specs.Prelude.{Bool, cond, List, [], ◌∷◌, ℕ, zero, suc, ◌+◌, leb, eqb, length, take, drop}
use Rattle.format.specs.declared.rows.ProvinceId.{ProvinceId}
use Rattle.format.specs.declared.rows.Switch.{Switch}
use Rattle.format.specs.declared.rows.OwnerEvent.{OwnerEvent}
use Rattle.format.specs.declared.rows.WarEvent.{WarEvent}
use Rattle.format.specs.declared.rows.Point.{Point}
pub use Rattle.format.specs.declared.packed.PackedCountry.{PackedCountry}
pub use Rattle.format.specs.declared.packed.PackedProvince.{PackedProvince}
pub use Rattle.format.specs.declared.packed.PackedLedger.{PackedLedger}
use Rattle.format.specs.Bytes.{byte_at, le16, le32, signed32, tag_at, date_at, id_at}

-- So many rows of a width from an offset on, as far as they stand whole in the bytes. (Rules 2.5)
unfoldable pub rows_at : {A : Type 0} → (ℕ → A) → ℕ → List ℕ → ℕ → ℕ → List A
rows_at row width xs at zero = []
rows_at row width xs at (suc n) = cond (leb (at + width) (length xs)) (row at ∷ rows_at row width xs (at + width) n) []

-- Country, 12: tag 3, flags 1, cities 4 (signed), how many previous tags 2, how many switches 2. (Rules 1.5)
unfoldable pub country_at : List ℕ → ℕ → PackedCountry
country_at xs at =
    record {
      tag = tag_at xs at;
      flags = byte_at xs (at + 3);
      cities = signed32 (le32 xs (at + 4));
      previous = le16 xs (at + 8);
      switches = le16 xs (at + 10);
    }

-- Switch, 7: date, from. (Rules 1.5)
unfoldable pub switch_at : List ℕ → ℕ → Switch
switch_at xs at = record { date = date_at xs at; from = tag_at xs (at + 4) }

-- Two province ids are the same id when their numbers are. (Rules 11.1)
abbrev pub same_id : ProvinceId → ProvinceId → Bool
same_id a b = eqb a.0 b.0

-- Province, 7: id 2, owner 3, event count 2. (Rules 1.5)
unfoldable pub province_at : List ℕ → ℕ → PackedProvince
province_at xs at = record { id = id_at xs at; owner = tag_at xs (at + 2); events = le16 xs (at + 5) }

-- Owner event, 7: date, tag. (Rules 1.5)
unfoldable pub owner_event_at : List ℕ → ℕ → OwnerEvent
owner_event_at xs at = record { date = date_at xs at; tag = tag_at xs (at + 4) }

-- War event, 8: date, kind, tag. (Rules 1.5)
unfoldable pub war_event_at : List ℕ → ℕ → WarEvent
war_event_at xs at = record { date = date_at xs at; kind = byte_at xs (at + 4); tag = tag_at xs (at + 5) }

-- Ledger name, 5: tag, point count 2. (Rules 1.5)
unfoldable pub ledger_at : List ℕ → ℕ → PackedLedger
ledger_at xs at = record { tag = tag_at xs at; points = le16 xs (at + 3) }

-- Point, 6: year 2, signed value 4, kept as its word in two's complement. (Rules 1.5)
unfoldable pub point_at : List ℕ → ℕ → Point
point_at xs at = record { year = le16 xs at; value = le32 xs (at + 2) }

-- String: length 1, then its bytes; so many of them from an offset on, as far as they stand whole in the bytes. (Rules 1.5)
unfoldable pub strings_from : List ℕ → ℕ → ℕ → List (List ℕ)
strings_from xs at zero = []
strings_from xs at (suc n) =
    cond (leb (at + 1 + byte_at xs at) (length xs))
    (take (byte_at xs at) (drop (at + 1) xs) ∷ strings_from xs (at + 1 + byte_at xs at) n)
    []

-- Where so many strings from an offset on end. (Rules 2.5)
unfoldable pub strings_end : List ℕ → ℕ → ℕ → ℕ
strings_end xs at zero = at
strings_end xs at (suc n) = strings_end xs (at + 1 + byte_at xs at) n
