-- The campaign that was packed is read again.
use mathlib.Core.Path.{◌≡◌, refl, sym, ap, ◌∙◌}
use mathlib.Core.Bool.{Bool, true, false}
use mathlib.Core.List.{List, [], ◌∷◌, ◌++◌, map}
use Prim.Native.Nat.{ℕ, ◌+◌, ◌*◌, ◌<◌, ◌≤◌}
use native.Mathlib.Omega.{arith}
use borrow.Author.Tests.{le-leb}
use lib.ListN.{length, drop, length-map, length-append, length-drop}
use lib.Seq.{take_at, drop_at}
use Rattle.lists.specs.Lists.{All, join_of, one}
use Rattle.lists.proofs.ListLaws.{all_of_map, length-join}
use Rattle.format.specs.declared.tag.CountryTag.{CountryTag}
use Rattle.format.specs.declared.head.Head.{Head}
use Rattle.format.specs.declared.rows.Switch.{Switch}
use Rattle.format.specs.declared.rows.OwnerEvent.{OwnerEvent}
use Rattle.format.specs.declared.rows.WarEvent.{WarEvent}
use Rattle.format.specs.declared.rows.Point.{Point}
use Rattle.format.specs.declared.packed.PackedCountry.{PackedCountry}
use Rattle.format.specs.declared.packed.PackedProvince.{PackedProvince}
use Rattle.format.specs.declared.packed.PackedLedger.{PackedLedger}
use Rattle.format.specs.Bytes.{bit, le16, le32, tag_at, date_at}
use Rattle.format.specs.Head.{head_of, countries_at, previous_at, switches_at, provinces_at, events_at, wars_at, war_events_at, ledgers_at, points_at, strings_at, head_bytes, country_bytes, previous_bytes, switch_bytes, province_bytes, owner_event_bytes, war_bytes, war_event_bytes, ledger_bytes, point_bytes}
use Rattle.format.specs.Rows.{rows_at, country_at, switch_at, province_at, owner_event_at, war_event_at, ledger_at, point_at, strings_end}
use Rattle.format.specs.Campaign.{Country, Province, Ledger, Campaign, country_rows, previous_tags, switch_rows, province_rows, owner_events, war_rows, war_events, ledger_rows, points, strings, group_countries, group_provinces, group_wars, group_ledgers, campaign_of}
use Rattle.format.specs.RecordNumber.{opens}
use Rattle.format.proofs.PackedLaws.{Same, reads-le16, reads-tag, reads-country, reads-switch, reads-province, reads-owner-event, reads-war-event, reads-ledger, reads-point, head-same}
use Rattle.packing.specs.Bounds.{Signed, CitiesFit}
use Rattle.packing.specs.Packing.{country_packed, tag_packed, switch_packed, province_packed, owner_event_packed, war_packed, war_event_packed, ledger_packed, point_packed, string_packed, head_packed, country_row, province_row, ledger_row, head_for, pack_with}
use Rattle.packing.proofs.ReadLaws.{two-back, four-back, country-back, tag-back, switch-back, province-back, owner-event-back, war-back, war-event-back, ledger-back, point-back}
use Rattle.packing.proofs.SectionLaws.{front-same, drop-front, rows-back, strings-back}

-- ## The head

head-back : (h : Head) → head_of (head_packed h) ≡ h
unfolding head_of head_packed date_at le16 le32
head-back h =
    rw (
      two-back h.version,
      four-back h.start.0,
      four-back h.current.0,
      two-back h.countries,
      two-back h.provinces,
      four-back h.previous,
      four-back h.switches,
      four-back h.events,
      two-back h.strings,
      two-back h.wars,
      four-back h.war_events,
      two-back h.ledgers,
      four-back h.points,
    )
    refl

pub head-wide : (h : Head) → length (head_packed h) ≡ head_bytes
unfolding head_packed
head-wide h = refl

opens-packed : (h : Head) (xs : List ℕ) → head_bytes ≤ length xs → Same head_bytes xs 0 (head_packed h) 0 → opens xs ≡ true
unfolding opens head_packed
opens-packed h xs long s =
    rw (
      le-leb head_bytes (length xs) long,
      s.byte 0 (omega arith),
      s.byte 1 (omega arith),
      s.byte 2 (omega arith),
    )
    refl

-- ## Flags

flags-two : (a b : Bool) → (bit 0 (one a + 2 * one b) ≡ a) × (bit 1 (one a + 2 * one b) ≡ b)
unfolding bit
flags-two true true = (refl, refl)
flags-two true false = (refl, refl)
flags-two false true = (refl, refl)
flags-two false false = (refl, refl)

flags-three : (a b c : Bool)
    → (bit 0 (one a + 2 * one b + 4 * one c) ≡ a) × (bit 1 (one a + 2 * one b + 4 * one c) ≡ b) × (bit 2 (one a + 2 * one b + 4 * one c) ≡ c)
unfolding bit
flags-three true true true = (refl, refl, refl)
flags-three true true false = (refl, refl, refl)
flags-three true false true = (refl, refl, refl)
flags-three true false false = (refl, refl, refl)
flags-three false true true = (refl, refl, refl)
flags-three false true false = (refl, refl, refl)
flags-three false false true = (refl, refl, refl)
flags-three false false false = (refl, refl, refl)

-- ## What rows own, joined and dealt out again

countries-grouped : (ks : List Country) → group_countries (map country_row ks) (join_of (λ k. k.previous) ks) (join_of (λ k. k.switches) ks) ≡ ks
unfolding group_countries
countries-grouped [] = refl
countries-grouped (k ∷ ks) =
    let f = flags-three k.human k.was_player k.has_switched_nation in
    let ps = join_of (λ k. k.previous) ks in
    let ss = join_of (λ k. k.switches) ks in
    rw (
      f.0,
      f.1,
      f.2,
      take_at k.previous ps (length k.previous) refl,
      drop_at k.previous ps (length k.previous) refl,
      take_at k.switches ss (length k.switches) refl,
      drop_at k.switches ss (length k.switches) refl,
    )
    (ap (λ (l : List Country). k ∷ l) (countries-grouped ks))

provinces-grouped : (ps : List Province) → group_provinces (map province_row ps) (join_of (λ p. p.events) ps) ≡ ps
unfolding group_provinces
provinces-grouped [] = refl
provinces-grouped (p ∷ ps) =
    let es = join_of (λ p. p.events) ps in
    rw (take_at p.events es (length p.events) refl, drop_at p.events es (length p.events) refl)
    (ap (λ (l : List Province). p ∷ l) (provinces-grouped ps))

wars-grouped : (ws : List (List WarEvent)) → group_wars (map length ws) (join_of (λ es. es) ws) ≡ ws
unfolding group_wars
wars-grouped [] = refl
wars-grouped (w ∷ ws) =
    let es = join_of (λ es. es) ws in
    rw (take_at w es (length w) refl, drop_at w es (length w) refl) (ap (λ (l : List (List WarEvent)). w ∷ l) (wars-grouped ws))

ledgers-grouped : (ls : List Ledger) → group_ledgers (map ledger_row ls) (join_of (λ l. l.points) ls) ≡ ls
unfolding group_ledgers
ledgers-grouped [] = refl
ledgers-grouped (l ∷ ls) =
    let ps = join_of (λ l. l.points) ls in
    rw (take_at l.points ps (length l.points) refl, drop_at l.points ps (length l.points) refl)
    (ap (λ (ms : List Ledger). l ∷ ms) (ledgers-grouped ls))

-- ## The sections

-- What stands behind each section.
module _ (c : Campaign) (tail : List ℕ) where
  abbrev pub from_strings : List ℕ
  from_strings = join_of string_packed c.strings ++ tail

  abbrev pub from_points : List ℕ
  from_points = join_of point_packed (join_of (λ l. l.points) c.ledgers) ++ from_strings

  abbrev pub from_ledgers : List ℕ
  from_ledgers = join_of ledger_packed (map ledger_row c.ledgers) ++ from_points

  abbrev pub from_war_events : List ℕ
  from_war_events = join_of war_event_packed (join_of (λ es. es) c.wars) ++ from_ledgers

  abbrev pub from_wars : List ℕ
  from_wars = join_of war_packed (map length c.wars) ++ from_war_events

  abbrev pub from_events : List ℕ
  from_events = join_of owner_event_packed (join_of (λ p. p.events) c.provinces) ++ from_wars

  abbrev pub from_provinces : List ℕ
  from_provinces = join_of province_packed (map province_row c.provinces) ++ from_events

  abbrev pub from_switches : List ℕ
  from_switches = join_of switch_packed (join_of (λ k. k.switches) c.countries) ++ from_provinces

  abbrev pub from_previous : List ℕ
  from_previous = join_of tag_packed (join_of (λ k. k.previous) c.countries) ++ from_switches

  abbrev pub from_countries : List ℕ
  from_countries = join_of country_packed (map country_row c.countries) ++ from_previous

pub country-wide : (r : PackedCountry) → length (country_packed r) ≡ country_bytes
unfolding country_packed
country-wide r = refl

pub tag-wide : (t : CountryTag) → length (tag_packed t) ≡ previous_bytes
unfolding tag_packed
tag-wide t = refl

pub switch-wide : (s : Switch) → length (switch_packed s) ≡ switch_bytes
unfolding switch_packed
switch-wide s = refl

pub province-wide : (r : PackedProvince) → length (province_packed r) ≡ province_bytes
unfolding province_packed
province-wide r = refl

pub owner-event-wide : (e : OwnerEvent) → length (owner_event_packed e) ≡ owner_event_bytes
unfolding owner_event_packed
owner-event-wide e = refl

war-wide : (n : ℕ) → length (war_packed n) ≡ war_bytes
unfolding war_packed
war-wide n = refl

war-event-wide : (e : WarEvent) → length (war_event_packed e) ≡ war_event_bytes
unfolding war_event_packed
war-event-wide e = refl

ledger-wide : (r : PackedLedger) → length (ledger_packed r) ≡ ledger_bytes
unfolding ledger_packed
ledger-wide r = refl

point-wide : (p : Point) → length (point_packed p) ≡ point_bytes
unfolding point_packed
point-wide p = refl

-- Where each section of the packed record stands.
pub record Placed (v : ℕ) (c : Campaign) (tail xs : List ℕ) : Type 0 where
  pub opened : opens xs ≡ true
  pub head : head_of xs ≡ head_for v c
  pub countries : drop (countries_at (head_for v c)) xs ≡ from_countries c tail
  pub previous : drop (previous_at (head_for v c)) xs ≡ from_previous c tail
  pub switches : drop (switches_at (head_for v c)) xs ≡ from_switches c tail
  pub provinces : drop (provinces_at (head_for v c)) xs ≡ from_provinces c tail
  pub events : drop (events_at (head_for v c)) xs ≡ from_events c tail
  pub wars : drop (wars_at (head_for v c)) xs ≡ from_wars c tail
  pub war_events : drop (war_events_at (head_for v c)) xs ≡ from_war_events c tail
  pub ledgers : drop (ledgers_at (head_for v c)) xs ≡ from_ledgers c tail
  pub points : drop (points_at (head_for v c)) xs ≡ from_points c tail
  pub strings : drop (strings_at (head_for v c)) xs ≡ from_strings c tail
  pub inside : strings_at (head_for v c) ≤ length xs

-- Some bytes stand at a place inside.
record Stands (xs : List ℕ) (at : ℕ) (rest : List ℕ) : Type 0 where
  here : drop at xs ≡ rest
  inside : at ≤ length xs

-- Behind a section of a width, which has as many rows as the head counts.
behind : {A : Type 0} (w : ℕ) (put : A → List ℕ) (wide : (a : A) → length (put a) ≡ w) {xs : List ℕ} {at : ℕ} (as' : List A) (rest : List ℕ) {n : ℕ}
    → n ≡ length as' → Stands xs at (join_of put as' ++ rest) → Stands xs (at + w * n) rest
behind w put wide {xs} {at} as' rest e s =
    let long : length (join_of put as') ≡ w * length as' = length-join w put wide as' in
    rw e
    (record {
      here = drop-front xs at (w * length as') (join_of put as') rest long s.here;
      inside = omega (arith, s.inside, ap length s.here, length-drop at xs, length-append (join_of put as') rest, long);
    })

pub placed : (v : ℕ) (c : Campaign) (tail : List ℕ) → Placed v c tail (pack_with v c tail)
unfolding pack_with head_for
placed v c tail =
    let h = head_for v c in
    let xs = pack_with v c tail in
    let whole : drop 0 xs ≡ head_packed h ++ from_countries c tail = refl in
    let s1 : Stands xs (countries_at h) (from_countries c tail) =
    record {
      here = drop-front xs 0 head_bytes (head_packed h) (from_countries c tail) (head-wide h) whole;
      inside = omega (arith, length-append (head_packed h) (from_countries c tail), head-wide h);
    } in
    let s2 : Stands xs (previous_at h) (from_previous c tail) = behind country_bytes country_packed country-wide (map country_row c.countries) (from_previous c tail) (sym (length-map c.countries country_row)) s1 in
    let s3 : Stands xs (switches_at h) (from_switches c tail) = behind previous_bytes tag_packed tag-wide (join_of (λ k. k.previous) c.countries) (from_switches c tail) refl s2 in
    let s4 : Stands xs (provinces_at h) (from_provinces c tail) = behind switch_bytes switch_packed switch-wide (join_of (λ k. k.switches) c.countries) (from_provinces c tail) refl s3 in
    let s5 : Stands xs (events_at h) (from_events c tail) = behind province_bytes province_packed province-wide (map province_row c.provinces) (from_events c tail) (sym (length-map c.provinces province_row)) s4 in
    let s6 : Stands xs (wars_at h) (from_wars c tail) = behind owner_event_bytes owner_event_packed owner-event-wide (join_of (λ p. p.events) c.provinces) (from_wars c tail) refl s5 in
    let s7 : Stands xs (war_events_at h) (from_war_events c tail) = behind war_bytes war_packed war-wide (map length c.wars) (from_war_events c tail) (sym (length-map c.wars length)) s6 in
    let s8 : Stands xs (ledgers_at h) (from_ledgers c tail) = behind war_event_bytes war_event_packed war-event-wide (join_of (λ es. es) c.wars) (from_ledgers c tail) refl s7 in
    let s9 : Stands xs (points_at h) (from_points c tail) = behind ledger_bytes ledger_packed ledger-wide (map ledger_row c.ledgers) (from_points c tail) (sym (length-map c.ledgers ledger_row)) s8 in
    let s10 : Stands xs (strings_at h) (from_strings c tail) = behind point_bytes point_packed point-wide (join_of (λ l. l.points) c.ledgers) (from_strings c tail) refl s9 in
    let same = front-same head_bytes xs 0 (head_packed h) (from_countries c tail) (head-wide h) whole in
    record {
      opened = opens-packed h xs s1.inside same;
      head = head-same xs (head_packed h) same ∙ head-back h;
      countries = s1.here;
      previous = s2.here;
      switches = s3.here;
      provinces = s4.here;
      events = s5.here;
      wars = s6.here;
      war_events = s7.here;
      ledgers = s8.here;
      points = s9.here;
      strings = s10.here;
      inside = s10.inside;
    }

-- ## The campaign

-- Whatever their numbers, packed rows are read again; of the numbers of cities those that a signed word can hold.
module _ (v : ℕ) (c : Campaign) (tail xs : List ℕ) (p : Placed v c tail xs) where
  always : {A : Type 0} (as' : List A) → All (λ _. Unit {0}) as'
  always [] = tt
  always (a ∷ as') = (tt, always as')

  section : {A : Type 0} (w : ℕ) (some : 0 < w) (read : List ℕ → ℕ → A) (put : A → List ℕ) → ((xs : List ℕ) (a : ℕ) (ys : List ℕ) (b : ℕ) → Same w xs a ys b → read xs a ≡ read ys b)
      → ((a : A) → length (put a) ≡ w) → ((a : A) → read (put a) 0 ≡ a)
      → (at n : ℕ) (as' : List A) (rest : List ℕ) → n ≡ length as' → drop at xs ≡ join_of put as' ++ rest → rows_at (read xs) w xs at n ≡ as'
  section w some read put reads wide back at n as' rest e d =
      ap (rows_at (read xs) w xs at) e ∙ rows-back w some read reads put wide (λ _. Unit {0}) (λ a _. back a) xs at as' rest d (always as')

  pub told-countries : CitiesFit c → country_rows xs ≡ map country_row c.countries
  unfolding head_for
  told-countries q =
      rw p.head
      (ap (rows_at (country_at xs) country_bytes xs (countries_at (head_for v c))) (sym (length-map c.countries country_row))
      ∙ rows-back country_bytes (omega arith) country_at reads-country country_packed country-wide (λ r. Signed r.cities) country-back xs (countries_at (head_for v c)) (map country_row c.countries)
      (from_previous c tail) p.countries (all_of_map (λ r. Signed r.cities) country_row (λ k h. h) c.countries q))

  pub told-previous : previous_tags xs ≡ join_of (λ k. k.previous) c.countries
  unfolding head_for
  told-previous =
      rw p.head (section previous_bytes (omega arith) tag_at tag_packed reads-tag tag-wide tag-back (previous_at (head_for v c)) (head_for v c).previous (join_of (λ k. k.previous) c.countries) (from_switches c tail) refl p.previous)

  pub told-switches : switch_rows xs ≡ join_of (λ k. k.switches) c.countries
  unfolding head_for
  told-switches =
      rw p.head (section switch_bytes (omega arith) switch_at switch_packed reads-switch switch-wide switch-back (switches_at (head_for v c)) (head_for v c).switches (join_of (λ k. k.switches) c.countries) (from_provinces c tail) refl p.switches)

  pub told-provinces : province_rows xs ≡ map province_row c.provinces
  unfolding head_for
  told-provinces =
      rw p.head (section province_bytes (omega arith) province_at province_packed reads-province province-wide province-back (provinces_at (head_for v c)) (head_for v c).provinces (map province_row c.provinces) (from_events c tail) (sym (length-map c.provinces province_row)) p.provinces)

  pub told-events : owner_events xs ≡ join_of (λ p. p.events) c.provinces
  unfolding head_for
  told-events =
      rw p.head (section owner_event_bytes (omega arith) owner_event_at owner_event_packed reads-owner-event owner-event-wide owner-event-back (events_at (head_for v c)) (head_for v c).events (join_of (λ p. p.events) c.provinces) (from_wars c tail) refl p.events)

  pub told-wars : war_rows xs ≡ map length c.wars
  unfolding head_for
  told-wars =
      rw p.head (section war_bytes (omega arith) le16 war_packed reads-le16 war-wide war-back (wars_at (head_for v c)) (head_for v c).wars (map length c.wars) (from_war_events c tail) (sym (length-map c.wars length)) p.wars)

  pub told-war-events : war_events xs ≡ join_of (λ es. es) c.wars
  unfolding head_for
  told-war-events =
      rw p.head (section war_event_bytes (omega arith) war_event_at war_event_packed reads-war-event war-event-wide war-event-back (war_events_at (head_for v c)) (head_for v c).war_events (join_of (λ es. es) c.wars) (from_ledgers c tail) refl p.war_events)

  pub told-ledgers : ledger_rows xs ≡ map ledger_row c.ledgers
  unfolding head_for
  told-ledgers =
      rw p.head (section ledger_bytes (omega arith) ledger_at ledger_packed reads-ledger ledger-wide ledger-back (ledgers_at (head_for v c)) (head_for v c).ledgers (map ledger_row c.ledgers) (from_points c tail) (sym (length-map c.ledgers ledger_row)) p.ledgers)

  pub told-points : points xs ≡ join_of (λ l. l.points) c.ledgers
  unfolding head_for
  told-points =
      rw p.head (section point_bytes (omega arith) point_at point_packed reads-point point-wide point-back (points_at (head_for v c)) (head_for v c).points (join_of (λ l. l.points) c.ledgers) (from_strings c tail) refl p.points)

  pub told-strings : (strings xs ≡ c.strings) × (strings_end xs (strings_at (head_of xs)) (head_of xs).strings + length tail ≡ length xs)
  unfolding head_for
  told-strings =
      let at = strings_at (head_for v c) in
      let b = strings-back xs at c.strings tail p.strings in
      rw p.head (b.0, omega (arith, b.1, p.inside, ap length p.strings, length-drop at xs, length-append (join_of string_packed c.strings) tail))

  pub campaign-back : CitiesFit c → campaign_of xs ≡ c
  unfolding campaign_of head_for
  campaign-back q =
      let f = flags-two c.ironman c.multiplayer in
      rw (told-countries q, told-previous, told-switches, told-provinces, told-events, told-wars, told-war-events, told-ledgers, told-points, told-strings.0, p.head)
      (rw (f.0, f.1, countries-grouped c.countries, provinces-grouped c.provinces, wars-grouped c.wars, ledgers-grouped c.ledgers) refl)

-- What was packed is read again.
pub pack-back : (v : ℕ) (c : Campaign) (tail : List ℕ) → CitiesFit c → campaign_of (pack_with v c tail) ≡ c
pack-back v c tail q = campaign-back v c tail (pack_with v c tail) (placed v c tail) q
