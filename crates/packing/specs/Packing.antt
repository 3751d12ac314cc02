-- Rules 1: the record of a campaign, the bytes that tell it. The crate format says which campaign bytes tell; this is the way back.
use Rattle.std.specs.Prelude.{List, [], ◌∷◌, ◌++◌, map, ℕ, ◌+◌, ◌-◌, ◌*◌, ◌/◌, ◌%◌, length, ℤ, pos, negsuc}
use Rattle.lists.specs.Lists.{join_of, one}
use Rattle.format.specs.declared.tag.CountryTag.{CountryTag}
use Rattle.format.specs.declared.head.Head.{Head}
use Rattle.format.specs.declared.rows.Switch.{Switch}
use Rattle.format.specs.declared.rows.OwnerEvent.{OwnerEvent}
use Rattle.format.specs.declared.rows.WarEvent.{WarEvent}
use Rattle.format.specs.declared.rows.Point.{Point}
use Rattle.format.specs.declared.packed.PackedCountry.{PackedCountry}
use Rattle.format.specs.declared.packed.PackedProvince.{PackedProvince}
use Rattle.format.specs.declared.packed.PackedLedger.{PackedLedger}
use Rattle.format.specs.Campaign.{Country, Province, Ledger, Campaign}

-- ## Numbers

-- A number in two bytes, and in four, the low byte first; the last byte takes what is left. (Rules 1.1)
abbrev pub two : ℕ → List ℕ
two n = n % 256 ∷ n / 256 ∷ []

abbrev pub four : ℕ → List ℕ
four n = n % 256 ∷ n / 256 % 256 ∷ n / 65536 % 256 ∷ n / 16777216 ∷ []

-- A number with a sign as its word in two's complement: -1 is the greatest word. (Rules 1.1)
abbrev pub word_of : ℤ → ℕ
word_of (pos n) = n
word_of (negsuc n) = 4294967295 - n

-- A tag's three bytes, its first letter first. (Rules 1.2)
abbrev pub three : CountryTag → List ℕ
three t = t.0 / 65536 ∷ t.0 / 256 % 256 ∷ t.0 % 256 ∷ []

-- ## Rows

-- Country, 12: tag 3, flags 1, cities 4 (signed), how many previous tags 2, how many switches 2. (Rules 1.5)
unfoldable pub country_packed : PackedCountry → List ℕ
country_packed r = three r.tag ++ r.flags ∷ four (word_of r.cities) ++ two r.previous ++ two r.switches

-- Previous tag, 3: the tag. (Rules 1.5)
unfoldable pub tag_packed : CountryTag → List ℕ
tag_packed t = three t

-- Switch, 7: date 4, the tag that was left 3. (Rules 1.5)
unfoldable pub switch_packed : Switch → List ℕ
switch_packed s = four s.date.0 ++ three s.from

-- Province, 7: id 2, owner 3, how many owner events 2. (Rules 1.5)
unfoldable pub province_packed : PackedProvince → List ℕ
province_packed r = two r.id.0 ++ three r.owner ++ two r.events

-- Owner event, 7: date 4, the new owner's tag 3. (Rules 1.5)
unfoldable pub owner_event_packed : OwnerEvent → List ℕ
owner_event_packed e = four e.date.0 ++ three e.tag

-- War, 2: how many war events. (Rules 1.5)
unfoldable pub war_packed : ℕ → List ℕ
war_packed n = two n

-- War event, 8: date 4, kind 1, tag 3. (Rules 1.5)
unfoldable pub war_event_packed : WarEvent → List ℕ
war_event_packed e = four e.date.0 ++ e.kind ∷ three e.tag

-- Ledger name, 5: tag 3, how many points 2. (Rules 1.5)
unfoldable pub ledger_packed : PackedLedger → List ℕ
ledger_packed r = three r.tag ++ two r.points

-- Point, 6: year 2, and the value's word 4. (Rules 1.5)
unfoldable pub point_packed : Point → List ℕ
point_packed p = two p.year ++ four p.value

-- String: its length 1, then its bytes. (Rules 1.5)
unfoldable pub string_packed : List ℕ → List ℕ
string_packed s = length s ∷ s

-- The head: the letters `ATL`, version, flags, the two dates, and how many rows each section has. (Rules 1.4)
unfoldable pub head_packed : Head → List ℕ
head_packed h =
    65 ∷ 84 ∷ 76 ∷ two h.version
    ++ h.flags ∷ four h.start.0
    ++ four h.current.0
    ++ two h.countries
    ++ two h.provinces
    ++ four h.previous
    ++ four h.switches
    ++ four h.events
    ++ two h.strings
    ++ two h.wars
    ++ four h.war_events
    ++ two h.ledgers
    ++ four h.points

-- ## A campaign's rows

-- A country's row: it counts the previous tags and switches that are the country's own. Flags: bit 0 human, 1 was_player, 2 has_switched_nation.
-- (Rules 1.6, 1.7)
abbrev pub country_row : Country → PackedCountry
country_row k =
    record {
      tag = k.tag;
      flags = one k.human + 2 * one k.was_player + 4 * one k.has_switched_nation;
      cities = k.cities;
      previous = length k.previous;
      switches = length k.switches;
    }

-- A province's row: it counts the province's owner events. (Rules 1.6, 1.8)
abbrev pub province_row : Province → PackedProvince
province_row p = record { id = p.id; owner = p.owner; events = length p.events }

-- A ledger name's row: it counts the name's points. (Rules 1.6, 1.10)
abbrev pub ledger_row : Ledger → PackedLedger
ledger_row l = record { tag = l.tag; points = length l.points }

-- The head of a campaign's record, in an edition (its version). Flags: bit 0 ironman, 1 multiplayer. What rows own is counted over all owners.
-- (Rules 1.4)
unfoldable pub head_for : ℕ → Campaign → Head
head_for edition c =
    record {
      version = edition;
      flags = one c.ironman + 2 * one c.multiplayer;
      start = c.start;
      current = c.current;
      countries = length c.countries;
      provinces = length c.provinces;
      previous = length (join_of (λ k. k.previous) c.countries);
      switches = length (join_of (λ k. k.switches) c.countries);
      events = length (join_of (λ p. p.events) c.provinces);
      strings = length c.strings;
      wars = length c.wars;
      war_events = length (join_of (λ es. es) c.wars);
      ledgers = length c.ledgers;
      points = length (join_of (λ l. l.points) c.ledgers);
    }

-- ## The record

-- The head, then the ten sections; what rows own stands in the order of its owners, each owner's together. Behind the strings stands whatever an
-- edition appends. (Rules 1.5, 1.6, 1.11)
unfoldable pub pack_with : ℕ → Campaign → List ℕ → List ℕ
pack_with edition c tail =
    head_packed (head_for edition c)
    ++ (join_of country_packed (map country_row c.countries)
    ++ (join_of tag_packed (join_of (λ k. k.previous) c.countries)
    ++ (join_of switch_packed (join_of (λ k. k.switches) c.countries)
    ++ (join_of province_packed (map province_row c.provinces)
    ++ (join_of owner_event_packed (join_of (λ p. p.events) c.provinces)
    ++ (join_of war_packed (map length c.wars)
    ++ (join_of war_event_packed (join_of (λ es. es) c.wars)
    ++ (join_of ledger_packed (map ledger_row c.ledgers)
    ++ (join_of point_packed (join_of (λ l. l.points) c.ledgers) ++ (join_of string_packed c.strings ++ tail))))))))))

-- The record of a campaign: the first edition, which appends nothing. (Rules 1.4, 1.11)
abbrev pub pack : Campaign → List ℕ
pack c = pack_with 1 c []
