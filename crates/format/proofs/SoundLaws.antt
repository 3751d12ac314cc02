-- The campaign of an accepted record is sound: no field of any row refuses, and rows with what they own keep what holds of both.
use mathlib.Core.Path.{◌≡◌, refl, ap, ◌∙◌}
use mathlib.Core.Bool.{Bool}
use mathlib.Core.List.{List, [], ◌∷◌, map}
use Prim.Native.Nat.{ℕ, ◌≤◌}
use native.Mathlib.Nat.{le_trans}
use native.Mathlib.Omega.{arith}
use borrow.Author.Tests.{ltb-false, leb-true}
use lib.Dec.{leb, ltb}
use lib.ListN.{length, drop}
use Rattle.lists.specs.Lists.{All, any_of, twice}
use Rattle.lists.proofs.BoolLaws.{neither}
use Rattle.lists.proofs.ListLaws.{all_map, all_take, any_none}
use Rattle.format.specs.declared.tag.CountryTag.{CountryTag}
use Rattle.format.specs.declared.head.Head.{Head}
use Rattle.format.specs.declared.rows.Switch.{Switch}
use Rattle.format.specs.declared.rows.OwnerEvent.{OwnerEvent}
use Rattle.format.specs.declared.rows.WarEvent.{WarEvent}
use Rattle.format.specs.declared.rows.Point.{Point}
use Rattle.format.specs.Tags.{is_tag}
use Rattle.format.specs.Dates.{good_date}
use Rattle.format.specs.Head.{head_of, provinces_at, province_bytes}
use Rattle.format.specs.Rows.{PackedCountry, PackedProvince, province_at, PackedLedger}
use Rattle.format.specs.Campaign.{country_rows, previous_tags, switch_rows, province_rows, owner_events, war_rows, war_events, ledger_rows, points, group_countries, group_provinces, group_wars, group_ledgers, campaign_of}
use Rattle.format.specs.Laid.{Laid}
use Rattle.format.specs.RecordNumber.{first_in, tag_number, date_number, head_flags_number, country_flags_number, kind_number, year_number, country_number, switch_number, owner_event_number, war_event_number, head_number, fields_number, tag_twice, id_twice_or_above, refusal}
use Rattle.format.specs.Sound.{GoodTag, GoodDate, GoodSwitch, GoodCountry, GoodOwnerEvent, GoodProvince, GoodWarEvent, GoodPoint, GoodLedger, Sound}
use Rattle.format.proofs.AcceptLaws.{accepted, accepted-laid, number-true}
use Rattle.format.proofs.CampaignLaws.{countries-length, provinces-length, wars-length, ledgers-length, strings-counted, previous-owned, switches-owned, events-owned, war-events-owned, points-owned}
use Rattle.format.proofs.FirstLaws.{all-zero, rows-zero}
use Rattle.format.proofs.HeadLaws.{limits_of}
use Rattle.format.proofs.RowLaws.{rows-counted, rows_all}

-- ## No field refuses

module _ {A : Type 0} (number : A → ℕ) (P : A → Type 0) (good : (a : A) → number a ≡ 0 → P a) where
  rows-good : (rows : List A) → first_in number rows ≡ 0 → All P rows
  rows-good rows h = all_map good rows (rows-zero number rows h)

tag-good : (t : CountryTag) → tag_number t ≡ 0 → GoodTag t
tag-good t h = number-true (is_tag t) 4 (omega arith) h

country-good : (r : PackedCountry) → country_number r ≡ 0 → GoodTag r.tag
unfolding country_number
country-good r h = tag-good r.tag (all-zero (tag_number r.tag ∷ country_flags_number r.flags ∷ []) h).0

switch-good : (s : Switch) → switch_number s ≡ 0 → GoodSwitch s
unfolding switch_number
switch-good s h =
    let q = all-zero (date_number s.date ∷ tag_number s.from ∷ []) h in
    record { date = number-true (good_date s.date) 5 (omega arith) q.0; from = tag-good s.from q.1.0 }

event-good : (e : OwnerEvent) → owner_event_number e ≡ 0 → GoodOwnerEvent e
unfolding owner_event_number
event-good e h =
    let q = all-zero (date_number e.date ∷ tag_number e.tag ∷ []) h in
    record { date = number-true (good_date e.date) 5 (omega arith) q.0; tag = tag-good e.tag q.1.0 }

war-event-good : (e : WarEvent) → war_event_number e ≡ 0 → GoodWarEvent e
unfolding war_event_number
war-event-good e h =
    let q = all-zero (date_number e.date ∷ kind_number e.kind ∷ tag_number e.tag ∷ []) h in
    record {
      date = number-true (good_date e.date) 5 (omega arith) q.0;
      kind = leb-true e.kind 4 (number-true (leb e.kind 4) 6 (omega arith) q.1.0);
      tag = tag-good e.tag q.1.1.0;
    }

point-good : (p : Point) → year_number p.year ≡ 0 → GoodPoint p
point-good p h = leb-true p.year 9999 (number-true (leb p.year 9999) 9 (omega arith) h)

record GoodHead (h : Head) : Type 0 where
  start : GoodDate h.start
  current : GoodDate h.current

head-good : (h : Head) → head_number h ≡ 0 → GoodHead h
unfolding head_number
head-good h z =
    let q = all-zero (head_flags_number h.flags ∷ date_number h.start ∷ date_number h.current ∷ []) z in
    record {
      start = number-true (good_date h.start) 5 (omega arith) q.1.0;
      current = number-true (good_date h.current) 5 (omega arith) q.1.1.0;
    }

-- The rows of each section, by themselves.
record GoodRows (xs : List ℕ) : Type 0 where
  head : GoodHead (head_of xs)
  countries : All (λ r. GoodTag r.tag) (country_rows xs)
  previous : All GoodTag (previous_tags xs)
  switches : All GoodSwitch (switch_rows xs)
  owners : All (λ r. GoodTag r.owner) (province_rows xs)
  events : All GoodOwnerEvent (owner_events xs)
  wars : All GoodWarEvent (war_events xs)
  ledgers : All (λ r. GoodTag r.tag) (ledger_rows xs)
  points : All GoodPoint (points xs)

good-rows : (xs : List ℕ) → fields_number xs ≡ 0 → GoodRows xs
unfolding fields_number
good-rows xs h =
    let f = all-zero
    (head_number (head_of xs)
    ∷ first_in country_number (country_rows xs)
    ∷ first_in (λ t. tag_number t) (previous_tags xs)
    ∷ first_in switch_number (switch_rows xs)
    ∷ first_in (λ r. tag_number r.owner) (province_rows xs)
    ∷ first_in owner_event_number (owner_events xs)
    ∷ first_in war_event_number (war_events xs)
    ∷ first_in (λ r. tag_number r.tag) (ledger_rows xs)
    ∷ first_in (λ p. year_number p.year) (points xs)
    ∷ []) h in
    record {
      head = head-good (head_of xs) f.0;
      countries = rows-good country_number (λ r. GoodTag r.tag) country-good (country_rows xs) f.1.0;
      previous = rows-good (λ t. tag_number t) GoodTag tag-good (previous_tags xs) f.1.1.0;
      switches = rows-good switch_number GoodSwitch switch-good (switch_rows xs) f.1.1.1.0;
      owners =
          rows-good (λ r. tag_number r.owner) (λ r. GoodTag r.owner) (λ r. tag-good r.owner) (province_rows xs) f.1.1.1.1.0;
      events = rows-good owner_event_number GoodOwnerEvent event-good (owner_events xs) f.1.1.1.1.1.0;
      wars = rows-good war_event_number GoodWarEvent war-event-good (war_events xs) f.1.1.1.1.1.1.0;
      ledgers =
          rows-good (λ r. tag_number r.tag) (λ r. GoodTag r.tag) (λ r. tag-good r.tag) (ledger_rows xs) f.1.1.1.1.1.1.1.0;
      points = rows-good (λ p. year_number p.year) GoodPoint point-good (points xs) f.1.1.1.1.1.1.1.1.0;
    }

-- ## Rows with what they own

group-countries : (rs : List PackedCountry) (ps : List CountryTag) (ss : List Switch) → All (λ r. GoodTag r.tag) rs → All GoodTag ps
    → All GoodSwitch ss → All GoodCountry (group_countries rs ps ss)
unfolding group_countries
group-countries [] ps ss a b c = tt
group-countries (r ∷ rs) ps ss a b c =
    let g = all_take GoodTag r.previous ps b in
    let h = all_take GoodSwitch r.switches ss c in (
      record { tag = a.0; previous = g.0; switches = h.0 },
      group-countries rs (drop r.previous ps) (drop r.switches ss) a.1 g.1 h.1,
    )

group-provinces : (top : ℕ) (rs : List PackedProvince) (es : List OwnerEvent) → All (λ r. r.id.0 ≤ top) rs → All (λ r. GoodTag r.owner) rs
    → All GoodOwnerEvent es → All (GoodProvince top) (group_provinces rs es)
unfolding group_provinces
group-provinces top [] es a b c = tt
group-provinces top (r ∷ rs) es a b c =
    let g = all_take GoodOwnerEvent r.events es c in
    (record { id = a.0; owner = b.0; events = g.0 }, group-provinces top rs (drop r.events es) a.1 b.1 g.1)

group-wars : (ns : List ℕ) (es : List WarEvent) → All GoodWarEvent es → All (λ es. All GoodWarEvent es) (group_wars ns es)
unfolding group_wars
group-wars [] es q = tt
group-wars (n ∷ ns) es q = let g = all_take GoodWarEvent n es q in (g.0, group-wars ns (drop n es) g.1)

group-ledgers : (rs : List PackedLedger) (ps : List Point) → All (λ r. GoodTag r.tag) rs → All GoodPoint ps
    → All GoodLedger (group_ledgers rs ps)
unfolding group_ledgers
group-ledgers [] ps a b = tt
group-ledgers (r ∷ rs) ps a b =
    let g = all_take GoodPoint r.points ps b in
    (record { tag = a.0; points = g.0 }, group-ledgers rs (drop r.points ps) a.1 g.1)

country-tags : (rs : List PackedCountry) (ps : List CountryTag) (ss : List Switch) → map (λ k. k.tag.0) (group_countries rs ps ss) ≡ map (λ r. r.tag.0) rs
unfolding group_countries
country-tags [] ps ss = refl
country-tags (r ∷ rs) ps ss = ap (λ (l : List ℕ). r.tag.0 ∷ l) (country-tags rs (drop r.previous ps) (drop r.switches ss))

province-ids : (rs : List PackedProvince) (es : List OwnerEvent) → map (λ p. p.id.0) (group_provinces rs es) ≡ map (λ r. r.id.0) rs
unfolding group_provinces
province-ids [] es = refl
province-ids (r ∷ rs) es = ap (λ (l : List ℕ). r.id.0 ∷ l) (province-ids rs (drop r.events es))

-- ## The campaign

-- As many province rows as the head says.
province-count : (xs : List ℕ) → Laid xs (head_of xs) → length (group_provinces (province_rows xs) (owner_events xs)) ≡ (head_of xs).provinces
province-count xs l =
    provinces-length (province_rows xs) (owner_events xs)
    ∙ rows_all (province_at xs) province_bytes xs (provinces_at (head_of xs)) (head_of xs).provinces (omega (arith, l.inside))

pub sound : (xs : List ℕ) → refusal xs ≡ 0 → Sound (campaign_of xs)
unfolding campaign_of tag_twice id_twice_or_above
sound xs z =
    let a = accepted xs z in
    let g = good-rows xs a.fields in
    let l = limits_of (head_of xs) (accepted-laid xs a).limits in
    let above : PackedProvince → Bool = λ r. ltb (head_of xs).provinces r.id.0 in
    let ids = neither (twice (map (λ r. r.id.0) (province_rows xs))) (any_of above (province_rows xs)) a.ids_once in
    let inside : All (λ r. r.id.0 ≤ (head_of xs).provinces) (province_rows xs) =
    all_map (λ r h. ltb-false (head_of xs).provinces r.id.0 h) (province_rows xs) (any_none above (province_rows xs) ids.1) in
    record {
      start = g.head.start;
      current = g.head.current;
      order = a.order;
      countries = group-countries (country_rows xs) (previous_tags xs) (switch_rows xs) g.countries g.previous g.switches;
      tags_once = simp country-tags a.tags_once;
      provinces =
          simp (province-count xs (accepted-laid xs a))
          (group-provinces (head_of xs).provinces (province_rows xs) (owner_events xs) inside g.owners g.events);
      ids_once = simp province-ids ids.0;
      wars = group-wars (war_rows xs) (war_events xs) g.wars;
      ledgers = group-ledgers (ledger_rows xs) (points xs) g.ledgers g.points;
      few_countries = simp countries-length (le_trans (rows-counted _ _ _ _ _) l.countries);
      few_previous = le_trans (previous-owned _ _ _) (le_trans (rows-counted _ _ _ _ _) l.previous);
      few_switches = le_trans (switches-owned _ _ _) (le_trans (rows-counted _ _ _ _ _) l.switches);
      few_provinces = simp provinces-length (le_trans (rows-counted _ _ _ _ _) l.provinces);
      few_events = le_trans (events-owned _ _) (le_trans (rows-counted _ _ _ _ _) l.events);
      few_wars = simp wars-length (le_trans (rows-counted _ _ _ _ _) l.wars);
      few_war_events = le_trans (war-events-owned _ _) (le_trans (rows-counted _ _ _ _ _) l.war_events);
      few_ledgers = simp ledgers-length (le_trans (rows-counted _ _ _ _ _) l.ledgers);
      few_points = le_trans (points-owned _ _) (le_trans (rows-counted _ _ _ _ _) l.points);
      few_strings = le_trans (strings-counted _ _ _) l.strings;
    }
