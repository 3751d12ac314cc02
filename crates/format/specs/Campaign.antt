-- Rules 1: the campaign that a record holds. What rows own is dealt out to them, each its share, in their order.
use Rattle.std.specs.Prelude.{Bool, List, [], ◌∷◌, ℕ, ℤ, take, drop}
use Rattle.format.specs.declared.tag.CountryTag.{CountryTag}
use Rattle.format.specs.declared.date.Eu4Date.{Eu4Date}
use Rattle.format.specs.declared.rows.ProvinceId.{ProvinceId}
use Rattle.format.specs.declared.rows.Switch.{Switch}
use Rattle.format.specs.declared.rows.OwnerEvent.{OwnerEvent}
use Rattle.format.specs.declared.rows.WarEvent.{WarEvent}
use Rattle.format.specs.declared.rows.Point.{Point}
use Rattle.format.specs.Bytes.{bit, le16, tag_at}
use Rattle.format.specs.Head.{head_of, countries_at, previous_at, switches_at, provinces_at, events_at, wars_at, war_events_at, ledgers_at, points_at, strings_at, country_bytes, previous_bytes, switch_bytes, province_bytes, owner_event_bytes, war_bytes, war_event_bytes, ledger_bytes, point_bytes}
use Rattle.format.specs.Rows.{rows_at, PackedCountry, country_at, switch_at, PackedProvince, province_at, owner_event_at, war_event_at, PackedLedger, ledger_at, point_at, strings_from}

-- ## The sections, flat: each section's rows in file order, so many as the head says

-- Countries. (Rules 1.5)
abbrev pub country_rows : List ℕ → List PackedCountry
country_rows xs = rows_at (country_at xs) country_bytes xs (countries_at (head_of xs)) (head_of xs).countries

-- Previous tags of all countries. (Rules 1.5)
abbrev pub previous_tags : List ℕ → List CountryTag
previous_tags xs = rows_at (tag_at xs) previous_bytes xs (previous_at (head_of xs)) (head_of xs).previous

-- Switches of all countries. (Rules 1.5)
abbrev pub switch_rows : List ℕ → List Switch
switch_rows xs = rows_at (switch_at xs) switch_bytes xs (switches_at (head_of xs)) (head_of xs).switches

-- Provinces. (Rules 1.8)
abbrev pub province_rows : List ℕ → List PackedProvince
province_rows xs = rows_at (province_at xs) province_bytes xs (provinces_at (head_of xs)) (head_of xs).provinces

-- Owner events of all provinces. (Rules 1.5)
abbrev pub owner_events : List ℕ → List OwnerEvent
owner_events xs = rows_at (owner_event_at xs) owner_event_bytes xs (events_at (head_of xs)) (head_of xs).events

-- Wars: a war's row is the count of its events. (Rules 1.5)
abbrev pub war_rows : List ℕ → List ℕ
war_rows xs = rows_at (le16 xs) war_bytes xs (wars_at (head_of xs)) (head_of xs).wars

-- War events of all wars. (Rules 1.9)
abbrev pub war_events : List ℕ → List WarEvent
war_events xs = rows_at (war_event_at xs) war_event_bytes xs (war_events_at (head_of xs)) (head_of xs).war_events

-- Ledger names. (Rules 1.5)
abbrev pub ledger_rows : List ℕ → List PackedLedger
ledger_rows xs = rows_at (ledger_at xs) ledger_bytes xs (ledgers_at (head_of xs)) (head_of xs).ledgers

-- Points of all ledger names. (Rules 1.10)
abbrev pub points : List ℕ → List Point
points xs = rows_at (point_at xs) point_bytes xs (points_at (head_of xs)) (head_of xs).points

-- Strings. (Rules 1.5)
abbrev pub strings : List ℕ → List (List ℕ)
strings xs = strings_from xs (strings_at (head_of xs)) (head_of xs).strings

-- ## Rows with what they own

-- A country with its previous tags and switches. Its flags: bit 0 human, 1 was_player, 2 has_switched_nation. (Rules 1.7)
pub record Country : Type 0 where
  pub tag : CountryTag
  pub human : Bool
  pub was_player : Bool
  pub has_switched_nation : Bool
  pub cities : ℤ
  pub previous : List CountryTag
  pub switches : List Switch

-- A province with its owner events. (Rules 1.8)
pub record Province : Type 0 where
  pub id : ProvinceId
  pub owner : CountryTag
  pub events : List OwnerEvent

-- A ledger name with its points. (Rules 1.10)
pub record Ledger : Type 0 where
  pub tag : CountryTag
  pub points : List Point

-- Each row takes its own from the front of the section that it owns, and leaves the rest to the rows behind it. (Rules 1.7)
unfoldable pub group_countries : List PackedCountry → List CountryTag → List Switch → List Country
group_countries [] ps ss = []
group_countries (r ∷ rs) ps ss =
    record {
      tag = r.tag;
      human = bit 0 r.flags;
      was_player = bit 1 r.flags;
      has_switched_nation = bit 2 r.flags;
      cities = r.cities;
      previous = take r.previous ps;
      switches = take r.switches ss;
    }
    ∷ group_countries rs (drop r.previous ps) (drop r.switches ss)

unfoldable pub group_provinces : List PackedProvince → List OwnerEvent → List Province
group_provinces [] es = []
group_provinces (r ∷ rs) es =
    record { id = r.id; owner = r.owner; events = take r.events es } ∷ group_provinces rs (drop r.events es)

unfoldable pub group_wars : List ℕ → List WarEvent → List (List WarEvent)
group_wars [] es = []
group_wars (n ∷ ns) es = take n es ∷ group_wars ns (drop n es)

unfoldable pub group_ledgers : List PackedLedger → List Point → List Ledger
group_ledgers [] ps = []
group_ledgers (r ∷ rs) ps = record { tag = r.tag; points = take r.points ps } ∷ group_ledgers rs (drop r.points ps)

-- ## The campaign

-- All that a record tells; a war is the list of its events. The record's flags: bit 0 ironman, bit 1 multiplayer. (Rules 1.6)
pub record Campaign : Type 0 where
  pub ironman : Bool
  pub multiplayer : Bool
  pub start : Eu4Date
  pub current : Eu4Date
  pub countries : List Country
  pub provinces : List Province
  pub wars : List (List WarEvent)
  pub ledgers : List Ledger
  pub strings : List (List ℕ)

-- The campaign of a record's bytes. (Rules 1.4)
unfoldable pub campaign_of : List ℕ → Campaign
campaign_of xs =
    record {
      ironman = bit 0 (head_of xs).flags;
      multiplayer = bit 1 (head_of xs).flags;
      start = (head_of xs).start;
      current = (head_of xs).current;
      countries = group_countries (country_rows xs) (previous_tags xs) (switch_rows xs);
      provinces = group_provinces (province_rows xs) (owner_events xs);
      wars = group_wars (war_rows xs) (war_events xs);
      ledgers = group_ledgers (ledger_rows xs) (points xs);
      strings = strings xs;
    }
