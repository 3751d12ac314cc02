-- Rows for the layer above. An iterator is known by what it still has to give: `..left it` are the rows that it has left, and each step gives the first of
-- them and leaves the others, or says that none is left.
use Rattle.std.specs.Prelude.{List, map, ℕ}
use Rattle.format.specs.declared.tag.CountryTag.{CountryTag}
use Rattle.format.specs.declared.rows.Switch.{Switch}
use Rattle.format.specs.declared.rows.OwnerEvent.{OwnerEvent}
use Rattle.format.specs.declared.rows.WarEvent.{WarEvent}
use Rattle.format.specs.declared.rows.Point.{Point}
use Rattle.format.specs.Bytes.{le16, tag_at}
use Rattle.format.specs.Rows.{country_at, switch_at, province_at, owner_event_at, war_event_at, ledger_at, point_at, strings_from}
use Rattle.format.specs.Campaign.{Country, Province, Ledger, group_countries, group_provinces, group_wars, group_ledgers}
use Rattle.format.specs.Head.{previous_bytes, switch_bytes, owner_event_bytes, war_event_bytes, point_bytes}
use Rattle.record.specs.declared.rows.Rows.{Rows}
use Rattle.record.specs.declared.cursors.CountryRow.{CountryRow}
use Rattle.record.specs.declared.cursors.Countries.{Countries}
use Rattle.record.specs.declared.provinces.ProvinceRow.{ProvinceRow}
use Rattle.record.specs.declared.provinces.Provinces.{Provinces}
use Rattle.record.specs.declared.cursors.Wars.{Wars}
use Rattle.record.specs.declared.ledger.LedgerRow.{LedgerRow}
use Rattle.record.specs.declared.ledger.Ledgers.{Ledgers}
use Rattle.record.specs.declared.texts.Strings.{Strings}

-- ## Rows that own nothing: each as it stands, from its first byte on

-- Their iterators, by the names that the code has for these types: pages above use the names, and no width.
abbrev pub PreviousTags : Type 0
PreviousTags = Rows CountryTag previous_bytes

abbrev pub Switches : Type 0
Switches = Rows Switch switch_bytes

abbrev pub OwnerEvents : Type 0
OwnerEvents = Rows OwnerEvent owner_event_bytes

abbrev pub WarEvents : Type 0
WarEvents = Rows WarEvent war_event_bytes

abbrev pub Points : Type 0
Points = Rows Point point_bytes

abbrev pub previous_left : PreviousTags → List CountryTag
previous_left c = map (λ row. tag_at row 0) c.packed.now

abbrev pub switches_left : Switches → List Switch
switches_left c = map (λ row. switch_at row 0) c.packed.now

abbrev pub owner_events_left : OwnerEvents → List OwnerEvent
owner_events_left c = map (λ row. owner_event_at row 0) c.packed.now

abbrev pub war_events_left : WarEvents → List WarEvent
war_events_left c = map (λ row. war_event_at row 0) c.packed.now

abbrev pub points_left : Points → List Point
points_left c = map (λ row. point_at row 0) c.packed.now

-- ## Rows with what they own

-- The country that a row tells, with what its iterators have left.
abbrev pub country_of : CountryRow → Country
country_of r =
    record {
      tag = r.tag;
      human = r.human;
      was_player = r.was_player;
      has_switched_nation = r.has_switched_nation;
      cities = r.cities;
      previous = previous_left r.previous;
      switches = switches_left r.switches;
    }

abbrev pub countries_left : Countries → List Country
countries_left c =
    group_countries (map (λ row. country_at row 0) c.rows.packed.now) (previous_left c.previous) (switches_left c.switches)

abbrev pub province_of : ProvinceRow → Province
province_of r = record { id = r.id; owner = r.owner; events = owner_events_left r.events }

abbrev pub provinces_left : Provinces → List Province
provinces_left c = group_provinces (map (λ row. province_at row 0) c.rows.packed.now) (owner_events_left c.events)

abbrev pub wars_left : Wars → List (List WarEvent)
wars_left c = group_wars (map (λ row. le16 row 0) c.rows.packed.now) (war_events_left c.events)

abbrev pub ledger_of : LedgerRow → Ledger
ledger_of r = record { tag = r.tag; points = points_left r.points }

abbrev pub ledgers_left : Ledgers → List Ledger
ledgers_left c = group_ledgers (map (λ row. ledger_at row 0) c.rows.packed.now) (points_left c.points)

-- ## Strings

abbrev pub strings_left : Strings → List (List ℕ)
strings_left c = strings_from c.bytes.now 0 c.left
