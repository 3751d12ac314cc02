-- What the campaign of an accepted record satisfies, for the layer above: if `refusal xs` is 0, then `campaign_of xs` is `Sound`
-- (proofs/SoundLaws). These are the rules behind 4, 5, 7, 8 and 9, of 6 that of kinds, and of 3 the limits, told of rows instead of
-- bytes and head.
use Rattle.std.specs.Prelude.{◌≡◌, true, false, map, ℕ, ◌≤◌, length}
use Rattle.lists.specs.Lists.{All, join_of, twice}
use Rattle.format.specs.declared.tag.CountryTag.{CountryTag}
use Rattle.format.specs.declared.date.Eu4Date.{Eu4Date}
use Rattle.format.specs.declared.rows.Switch.{Switch}
use Rattle.format.specs.declared.rows.OwnerEvent.{OwnerEvent}
use Rattle.format.specs.declared.rows.WarEvent.{WarEvent}
use Rattle.format.specs.declared.rows.Point.{Point}
use Rattle.format.specs.Tags.{is_tag}
use Rattle.format.specs.Dates.{good_date}
use Rattle.format.specs.Campaign.{Country, Province, Ledger, Campaign}

-- 4 and 5: the tag is a tag, the date is good.
abbrev pub GoodTag : CountryTag → Type 0
GoodTag t = is_tag t ≡ true

abbrev pub GoodDate : Eu4Date → Type 0
GoodDate d = good_date d ≡ true

-- A switch with a good date and tag.
pub record GoodSwitch (s : Switch) : Type 0 where
  pub date : GoodDate s.date
  pub from : GoodTag s.from

-- A country with good tags and switches.
pub record GoodCountry (k : Country) : Type 0 where
  pub tag : GoodTag k.tag
  pub previous : All GoodTag k.previous
  pub switches : All GoodSwitch k.switches

-- An owner event with a good date and tag.
pub record GoodOwnerEvent (e : OwnerEvent) : Type 0 where
  pub date : GoodDate e.date
  pub tag : GoodTag e.tag

-- A province with a good owner and good events. 7: its id is not above P.
pub record GoodProvince (P : ℕ) (p : Province) : Type 0 where
  pub id : p.id.0 ≤ P
  pub owner : GoodTag p.owner
  pub events : All GoodOwnerEvent p.events

-- A war event with a good date and tag. 6: its kind is 0 to 4.
pub record GoodWarEvent (e : WarEvent) : Type 0 where
  pub date : GoodDate e.date
  pub kind : e.kind ≤ 4
  pub tag : GoodTag e.tag

-- 9: a point's year is at most 9999.
abbrev pub GoodPoint : Point → Type 0
GoodPoint p = p.year ≤ 9999

-- A ledger name that is a tag, with good points.
pub record GoodLedger (l : Ledger) : Type 0 where
  pub tag : GoodTag l.tag
  pub points : All GoodPoint l.points

-- All rows are good; 7: no tag and no id stands twice; 8: the start is no later than the current date. 3: there are no more rows than
-- the limits allow; of rows that others own, all owners together count. (Rules 2.12)
pub record Sound (c : Campaign) : Type 0 where
  pub start : GoodDate c.start
  pub current : GoodDate c.current
  pub order : c.start.0 ≤ c.current.0
  pub countries : All GoodCountry c.countries
  pub tags_once : twice (map (λ k. k.tag.0) c.countries) ≡ false
  pub provinces : All (GoodProvince (length c.provinces)) c.provinces
  pub ids_once : twice (map (λ p. p.id.0) c.provinces) ≡ false
  pub wars : All (λ es. All GoodWarEvent es) c.wars
  pub ledgers : All GoodLedger c.ledgers
  pub few_countries : length c.countries ≤ 2000
  pub few_previous : length (join_of (λ k. k.previous) c.countries) ≤ 20000
  pub few_switches : length (join_of (λ k. k.switches) c.countries) ≤ 20000
  pub few_provinces : length c.provinces ≤ 8000
  pub few_events : length (join_of (λ p. p.events) c.provinces) ≤ 60000
  pub few_wars : length c.wars ≤ 5000
  pub few_war_events : length (join_of (λ es. es) c.wars) ≤ 100000
  pub few_ledgers : length c.ledgers ≤ 2000
  pub few_points : length (join_of (λ l. l.points) c.ledgers) ≤ 1000000
  pub few_strings : length c.strings ≤ 1000
