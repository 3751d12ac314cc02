-- An accepted record is the packed record of its campaign: no other bytes tell it.
use mathlib.Core.Path.{◌≡◌, refl, sym, ap, ap₂, ◌∙◌}
use mathlib.Core.Bool.{true, ◌&&◌}
use mathlib.Core.List.{List, [], ◌∷◌, ◌++◌, map}
use Prim.Native.Nat.{ℕ, zero, suc, ◌+◌, ◌*◌, ◌<◌, ◌≤◌}
use native.Mathlib.Omega.{arith}
use borrow.Author.Tests.{eqb-true, ltb-true}
use lib.Dec.{leb, ltb, eqb}
use lib.ListN.{length, get_or, take, drop, length-take, length-drop, take-append-drop}
use Rattle.std.proofs.lemmas.List.{get_or-take, nil_from_length, drop_all}
use Rattle.lists.specs.Lists.{All, join_of, sum_of, one}
use Rattle.lists.proofs.BoolLaws.{both}
use Rattle.lists.proofs.ListLaws.{all_map, all_take}
use Rattle.format.specs.declared.tag.CountryTag.{CountryTag}
use Rattle.format.specs.declared.head.Head.{Head}
use Rattle.format.specs.declared.rows.Switch.{Switch}
use Rattle.format.specs.declared.rows.OwnerEvent.{OwnerEvent}
use Rattle.format.specs.declared.rows.WarEvent.{WarEvent}
use Rattle.format.specs.declared.rows.Point.{Point}
use Rattle.format.specs.declared.packed.PackedCountry.{PackedCountry}
use Rattle.format.specs.declared.packed.PackedProvince.{PackedProvince}
use Rattle.format.specs.declared.packed.PackedLedger.{PackedLedger}
use Rattle.format.specs.Bytes.{bit, le16, tag_at}
use Rattle.format.specs.Head.{head_of, within_limits, countries_at, previous_at, switches_at, provinces_at, events_at, wars_at, war_events_at, ledgers_at, points_at, strings_at, head_bytes, country_bytes, previous_bytes, switch_bytes, province_bytes, owner_event_bytes, war_bytes, war_event_bytes, ledger_bytes, point_bytes}
use Rattle.format.specs.Rows.{rows_at, country_at, switch_at, province_at, owner_event_at, war_event_at, ledger_at, point_at, strings_from, strings_end}
use Rattle.format.specs.Campaign.{country_rows, previous_tags, switch_rows, province_rows, owner_events, war_rows, war_events, ledger_rows, points, strings, group_countries, group_provinces, group_wars, group_ledgers, campaign_of}
use Rattle.format.specs.RecordNumber.{opens, totals_agree, length_agrees, sizes_agree, country_flags_number, country_number, head_number, tag_number, fields_number, refusal}
use Rattle.format.proofs.AcceptLaws.{accepted, number-true}
use Rattle.format.proofs.CampaignLaws.{countries-length, provinces-length, wars-length, ledgers-length}
use Rattle.format.proofs.FirstLaws.{all-zero, rows-zero}
use borrow.Author.Tests.{le-leb}
use Rattle.format.proofs.RowLaws.{rows_all}
use Rattle.format.proofs.SizeLaws.{strings-end-grows}
use Rattle.format.proofs.PackedLaws.{Reads, reads-le16, reads-tag, reads-country, reads-switch, reads-province, reads-owner-event, reads-war-event, reads-ledger, reads-point, head-same}
use Rattle.packing.specs.Bounds.{Byte}
use Rattle.packing.specs.Framed.{tail_at, tail_of, Framed}
use Rattle.packing.specs.Packing.{country_packed, tag_packed, switch_packed, province_packed, owner_event_packed, war_packed, war_event_packed, ledger_packed, point_packed, string_packed, head_packed, country_row, province_row, ledger_row, head_for, pack_with, pack}
use Rattle.packing.proofs.SectionLaws.{front-same}
use Rattle.packing.proofs.WriteLaws.{Bytes, head-forth, country-forth, tag-forth, switch-forth, province-forth, owner-event-forth, war-forth, war-event-forth, ledger-forth, point-forth, rows-forth, strings-forth}

-- ## Flags

-- Flags without an undefined bit are told by their bits.
flags-two : (f : ℕ) → f < 4 → one (bit 0 f) + 2 * one (bit 1 f) ≡ f
unfolding bit
flags-two zero h = refl
flags-two (suc zero) h = refl
flags-two (suc (suc zero)) h = refl
flags-two (suc (suc (suc zero))) h = refl
flags-two (suc (suc (suc (suc n)))) h = absurd (omega arith)

flags-three : (f : ℕ) → f < 8 → one (bit 0 f) + 2 * one (bit 1 f) + 4 * one (bit 2 f) ≡ f
unfolding bit
flags-three zero h = refl
flags-three (suc zero) h = refl
flags-three (suc (suc zero)) h = refl
flags-three (suc (suc (suc zero))) h = refl
flags-three (suc (suc (suc (suc zero)))) h = refl
flags-three (suc (suc (suc (suc (suc zero))))) h = refl
flags-three (suc (suc (suc (suc (suc (suc zero)))))) h = refl
flags-three (suc (suc (suc (suc (suc (suc (suc zero))))))) h = refl
flags-three (suc (suc (suc (suc (suc (suc (suc (suc n)))))))) h = absurd (omega arith)

-- ## What was dealt out, joined again

-- The first n, and the others.
module _ {A : Type 0} (n m : ℕ) (all : List A) (e : n + m ≡ length all) where
  front-long : length (take n all) ≡ n
  front-long = omega (arith, length-take n all)

  back-long : m ≡ length (drop n all)
  back-long = omega (arith, length-drop n all)

record Dealt {R O S : Type 0} (row : O → R) (own : O → List S) (rs : List R) (all : List S) (os : List O) : Type 0 where
  rows : map row os ≡ rs
  owned : join_of own os ≡ all

countries-dealt : (rs : List PackedCountry) (ps : List CountryTag) (ss : List Switch) → All (λ r. r.flags < 8) rs
    → sum_of (λ r. r.previous) rs ≡ length ps → sum_of (λ r. r.switches) rs ≡ length ss
    → (map country_row (group_countries rs ps ss) ≡ rs) × (join_of (λ k. k.previous) (group_countries rs ps ss) ≡ ps) × (join_of (λ k. k.switches) (group_countries rs ps ss) ≡ ss)
unfolding group_countries
countries-dealt [] ps ss f p s = (refl, sym (nil_from_length ps (sym p)), sym (nil_from_length ss (sym s)))
countries-dealt (r ∷ rs) ps ss f p s =
    let more = countries-dealt rs (drop r.previous ps) (drop r.switches ss) f.1 (back-long r.previous (sum_of (λ r. r.previous) rs) ps p) (back-long r.switches (sum_of (λ r. r.switches) rs) ss s) in (
      rw (flags-three r.flags f.0, front-long r.previous (sum_of (λ r. r.previous) rs) ps p, front-long r.switches (sum_of (λ r. r.switches) rs) ss s) (ap (λ (l : List PackedCountry). r ∷ l) more.0),
      ap (λ (l : List CountryTag). take r.previous ps ++ l) more.1 ∙ take-append-drop r.previous ps,
      ap (λ (l : List Switch). take r.switches ss ++ l) more.2 ∙ take-append-drop r.switches ss,
    )

provinces-dealt : (rs : List PackedProvince) (es : List OwnerEvent) → sum_of (λ r. r.events) rs ≡ length es
    → (map province_row (group_provinces rs es) ≡ rs) × (join_of (λ p. p.events) (group_provinces rs es) ≡ es)
unfolding group_provinces
provinces-dealt [] es e = (refl, sym (nil_from_length es (sym e)))
provinces-dealt (r ∷ rs) es e =
    let more = provinces-dealt rs (drop r.events es) (back-long r.events (sum_of (λ r. r.events) rs) es e) in (
      rw (front-long r.events (sum_of (λ r. r.events) rs) es e) (ap (λ (l : List PackedProvince). r ∷ l) more.0),
      ap (λ (l : List OwnerEvent). take r.events es ++ l) more.1 ∙ take-append-drop r.events es,
    )

wars-dealt : (ns : List ℕ) (es : List WarEvent) → sum_of (λ n. n) ns ≡ length es
    → (map length (group_wars ns es) ≡ ns) × (join_of (λ es. es) (group_wars ns es) ≡ es)
unfolding group_wars
wars-dealt [] es e = (refl, sym (nil_from_length es (sym e)))
wars-dealt (n ∷ ns) es e =
    let more = wars-dealt ns (drop n es) (back-long n (sum_of (λ n. n) ns) es e) in (
      ap₂ ◌∷◌ (front-long n (sum_of (λ n. n) ns) es e) more.0,
      ap (λ (l : List WarEvent). take n es ++ l) more.1 ∙ take-append-drop n es,
    )

ledgers-dealt : (rs : List PackedLedger) (ps : List Point) → sum_of (λ r. r.points) rs ≡ length ps
    → (map ledger_row (group_ledgers rs ps) ≡ rs) × (join_of (λ l. l.points) (group_ledgers rs ps) ≡ ps)
unfolding group_ledgers
ledgers-dealt [] ps e = (refl, sym (nil_from_length ps (sym e)))
ledgers-dealt (r ∷ rs) ps e =
    let more = ledgers-dealt rs (drop r.points ps) (back-long r.points (sum_of (λ r. r.points) rs) ps e) in (
      rw (front-long r.points (sum_of (λ r. r.points) rs) ps e) (ap (λ (l : List PackedLedger). r ∷ l) more.0),
      ap (λ (l : List Point). take r.points ps ++ l) more.1 ∙ take-append-drop r.points ps,
    )

-- ## The totals of an accepted record

-- What `totals_agree` says of each section, one by one.
pub record Counted (xs : List ℕ) : Type 0 where
  pub previous : sum_of (λ r. r.previous) (country_rows xs) ≡ (head_of xs).previous
  pub switches : sum_of (λ r. r.switches) (country_rows xs) ≡ (head_of xs).switches
  pub events : sum_of (λ r. r.events) (province_rows xs) ≡ (head_of xs).events
  pub wars : sum_of (λ n. n) (war_rows xs) ≡ (head_of xs).war_events
  pub points : sum_of (λ r. r.points) (ledger_rows xs) ≡ (head_of xs).points

counted : (xs : List ℕ) → totals_agree xs ≡ true → Counted xs
unfolding totals_agree
counted xs h =
    let h0 = head_of xs in
    let a = eqb (sum_of (λ r. r.previous) (country_rows xs)) h0.previous in
    let b = eqb (sum_of (λ r. r.switches) (country_rows xs)) h0.switches in
    let e = eqb (sum_of (λ r. r.events) (province_rows xs)) h0.events in
    let v = eqb (sum_of (λ n. n) (war_rows xs)) h0.war_events in
    let y = eqb (sum_of (λ r. r.points) (ledger_rows xs)) h0.points in
    let ty = both (a && b && e && v) y h in
    let tv = both (a && b && e) v ty.0 in
    let te = both (a && b) e tv.0 in
    let tb = both a b te.0 in
    record {
      previous = eqb-true _ _ tb.0;
      switches = eqb-true _ _ tb.1;
      events = eqb-true _ _ te.1;
      wars = eqb-true _ _ tv.1;
      points = eqb-true _ _ ty.1;
    }

-- ## The record

-- An accepted record is framed.
pub framed : (xs : List ℕ) → refusal xs ≡ 0 → Framed xs
unfolding fields_number head_number country_number sizes_agree length_agrees
framed xs z =
    let a = accepted xs z in
    let f = all-zero _ a.fields in
    let l = both (within_limits (head_of xs) && totals_agree xs) (length_agrees xs) a.sizes in
    record {
      opened = a.opened;
      totals = (both (within_limits (head_of xs)) (totals_agree xs) l.0).1;
      inside = omega (arith, eqb-true _ _ l.1);
      head_flags = ltb-true (head_of xs).flags 4 (number-true (ltb (head_of xs).flags 4) 6 (omega arith) (all-zero _ f.0).0);
      country_flags =
          all_map (λ r e. ltb-true r.flags 8 (number-true (ltb r.flags 8) 6 (omega arith) (all-zero (tag_number r.tag ∷ country_flags_number r.flags ∷ []) e).1.0))
          (country_rows xs) (rows-zero country_number (country_rows xs) f.1.0);
    }

module _ (xs : List ℕ) (q : Bytes xs) (facts : Framed xs) where
  abbrev pub h : Head
  h = head_of xs

  totals : Counted xs
  totals = counted xs facts.totals

  inside : strings_at h ≤ length xs
  inside = omega (arith, facts.inside, strings-end-grows xs (strings_at h) h.strings)

  -- As many rows as the head says.
  many-countries : length (country_rows xs) ≡ h.countries
  many-countries = rows_all (country_at xs) country_bytes xs (countries_at h) h.countries (omega (arith, inside))

  many-previous : length (previous_tags xs) ≡ h.previous
  many-previous = rows_all (tag_at xs) previous_bytes xs (previous_at h) h.previous (omega (arith, inside))

  many-switches : length (switch_rows xs) ≡ h.switches
  many-switches = rows_all (switch_at xs) switch_bytes xs (switches_at h) h.switches (omega (arith, inside))

  many-provinces : length (province_rows xs) ≡ h.provinces
  many-provinces = rows_all (province_at xs) province_bytes xs (provinces_at h) h.provinces (omega (arith, inside))

  many-events : length (owner_events xs) ≡ h.events
  many-events = rows_all (owner_event_at xs) owner_event_bytes xs (events_at h) h.events (omega (arith, inside))

  many-wars : length (war_rows xs) ≡ h.wars
  many-wars = rows_all (le16 xs) war_bytes xs (wars_at h) h.wars (omega (arith, inside))

  many-war-events : length (war_events xs) ≡ h.war_events
  many-war-events = rows_all (war_event_at xs) war_event_bytes xs (war_events_at h) h.war_events (omega (arith, inside))

  many-ledgers : length (ledger_rows xs) ≡ h.ledgers
  many-ledgers = rows_all (ledger_at xs) ledger_bytes xs (ledgers_at h) h.ledgers (omega (arith, inside))

  many-points : length (points xs) ≡ h.points
  many-points = rows_all (point_at xs) point_bytes xs (points_at h) h.points (omega (arith, inside))

  -- Every section, joined again.
  countries-again : (map country_row (campaign_of xs).countries ≡ country_rows xs) × (join_of (λ k. k.previous) (campaign_of xs).countries ≡ previous_tags xs) × (join_of (λ k. k.switches) (campaign_of xs).countries ≡ switch_rows xs)
  unfolding campaign_of
  countries-again =
      countries-dealt (country_rows xs) (previous_tags xs) (switch_rows xs) facts.country_flags (totals.previous ∙ sym many-previous) (totals.switches ∙ sym many-switches)

  provinces-again : (map province_row (campaign_of xs).provinces ≡ province_rows xs) × (join_of (λ p. p.events) (campaign_of xs).provinces ≡ owner_events xs)
  unfolding campaign_of
  provinces-again = provinces-dealt (province_rows xs) (owner_events xs) (totals.events ∙ sym many-events)

  wars-again : (map length (campaign_of xs).wars ≡ war_rows xs) × (join_of (λ es. es) (campaign_of xs).wars ≡ war_events xs)
  unfolding campaign_of
  wars-again = wars-dealt (war_rows xs) (war_events xs) (totals.wars ∙ sym many-war-events)

  ledgers-again : (map ledger_row (campaign_of xs).ledgers ≡ ledger_rows xs) × (join_of (λ l. l.points) (campaign_of xs).ledgers ≡ points xs)
  unfolding campaign_of
  ledgers-again = ledgers-dealt (ledger_rows xs) (points xs) (totals.points ∙ sym many-points)

  -- As many strings as the head says.
  many-strings : (at n : ℕ) → strings_end xs at n ≤ length xs → length (strings_from xs at n) ≡ n
  unfolding strings_from strings_end
  many-strings at zero e = refl
  many-strings at (suc n) e =
      let next : ℕ = at + 1 + get_or xs at 0 in
      let whole : next ≤ length xs = omega (arith, e, strings-end-grows xs next n) in
      simp (le-leb _ _ whole) (ap suc (many-strings next n e))

  -- The head that the campaign has.
  head-again : head_for h.version (campaign_of xs) ≡ h
  unfolding head_for campaign_of
  head-again =
      let k : length (campaign_of xs).countries ≡ h.countries = countries-length (country_rows xs) (previous_tags xs) (switch_rows xs) ∙ many-countries in
      let p : length (campaign_of xs).provinces ≡ h.provinces = provinces-length (province_rows xs) (owner_events xs) ∙ many-provinces in
      let a : length (join_of (λ k. k.previous) (campaign_of xs).countries) ≡ h.previous = ap length countries-again.1 ∙ many-previous in
      let b : length (join_of (λ k. k.switches) (campaign_of xs).countries) ≡ h.switches = ap length countries-again.2 ∙ many-switches in
      let e : length (join_of (λ p. p.events) (campaign_of xs).provinces) ≡ h.events = ap length provinces-again.1 ∙ many-events in
      let n : length (campaign_of xs).strings ≡ h.strings = many-strings (strings_at h) h.strings facts.inside in
      let w : length (campaign_of xs).wars ≡ h.wars = wars-length (war_rows xs) (war_events xs) ∙ many-wars in
      let v : length (join_of (λ es. es) (campaign_of xs).wars) ≡ h.war_events = ap length wars-again.1 ∙ many-war-events in
      let g : length (campaign_of xs).ledgers ≡ h.ledgers = ledgers-length (ledger_rows xs) (points xs) ∙ many-ledgers in
      let y : length (join_of (λ l. l.points) (campaign_of xs).ledgers) ≡ h.points = ap length ledgers-again.1 ∙ many-points in
      let fl = flags-two h.flags facts.head_flags in
      λ i. record {
        version = h.version;
        flags = fl i;
        start = h.start;
        current = h.current;
        countries = k i;
        provinces = p i;
        previous = a i;
        switches = b i;
        events = e i;
        strings = n i;
        wars = w i;
        war_events = v i;
        ledgers = g i;
        points = y i;
      }

  -- From each section on.
  abbrev pub to_tail : List ℕ
  to_tail = tail_of xs

  from-strings : join_of string_packed (strings xs) ++ to_tail ≡ drop (strings_at h) xs
  from-strings = strings-forth xs (strings_at h) h.strings facts.inside

  -- A section before what is told already.
  before : {A : Type 0} (w : ℕ) (read : List ℕ → ℕ → A) → Reads w read → (put : A → List ℕ) → ((row : List ℕ) → length row ≡ w → Bytes row → put (read row 0) ≡ row)
      → (at n : ℕ) (rest : List ℕ) → at + w * n ≤ length xs → rest ≡ drop (at + w * n) xs → join_of put (rows_at (read xs) w xs at n) ++ rest ≡ drop at xs
  before w read reads put forth at n rest i e =
      ap (λ (l : List ℕ). join_of put (rows_at (read xs) w xs at n) ++ l) e ∙ rows-forth w read reads put forth xs at n i q

  -- The bytes from each section on.
  abbrev to_strings : List ℕ
  to_strings = join_of string_packed (strings xs) ++ to_tail

  abbrev to_points : List ℕ
  to_points = join_of point_packed (points xs) ++ to_strings

  abbrev to_ledgers : List ℕ
  to_ledgers = join_of ledger_packed (ledger_rows xs) ++ to_points

  abbrev to_war_events : List ℕ
  to_war_events = join_of war_event_packed (war_events xs) ++ to_ledgers

  abbrev to_wars : List ℕ
  to_wars = join_of war_packed (war_rows xs) ++ to_war_events

  abbrev to_events : List ℕ
  to_events = join_of owner_event_packed (owner_events xs) ++ to_wars

  abbrev to_provinces : List ℕ
  to_provinces = join_of province_packed (province_rows xs) ++ to_events

  abbrev to_switches : List ℕ
  to_switches = join_of switch_packed (switch_rows xs) ++ to_provinces

  abbrev to_previous : List ℕ
  to_previous = join_of tag_packed (previous_tags xs) ++ to_switches

  abbrev to_countries : List ℕ
  to_countries = join_of country_packed (country_rows xs) ++ to_previous

  from-points : to_points ≡ drop (points_at h) xs
  from-points = before point_bytes point_at reads-point point_packed point-forth (points_at h) h.points to_strings (omega (arith, inside)) from-strings

  from-ledgers : to_ledgers ≡ drop (ledgers_at h) xs
  from-ledgers = before ledger_bytes ledger_at reads-ledger ledger_packed ledger-forth (ledgers_at h) h.ledgers to_points (omega (arith, inside)) from-points

  from-war-events : to_war_events ≡ drop (war_events_at h) xs
  from-war-events = before war_event_bytes war_event_at reads-war-event war_event_packed war-event-forth (war_events_at h) h.war_events to_ledgers (omega (arith, inside)) from-ledgers

  from-wars : to_wars ≡ drop (wars_at h) xs
  from-wars = before war_bytes le16 reads-le16 war_packed war-forth (wars_at h) h.wars to_war_events (omega (arith, inside)) from-war-events

  from-events : to_events ≡ drop (events_at h) xs
  from-events = before owner_event_bytes owner_event_at reads-owner-event owner_event_packed owner-event-forth (events_at h) h.events to_wars (omega (arith, inside)) from-wars

  from-provinces : to_provinces ≡ drop (provinces_at h) xs
  from-provinces = before province_bytes province_at reads-province province_packed province-forth (provinces_at h) h.provinces to_events (omega (arith, inside)) from-events

  from-switches : to_switches ≡ drop (switches_at h) xs
  from-switches = before switch_bytes switch_at reads-switch switch_packed switch-forth (switches_at h) h.switches to_provinces (omega (arith, inside)) from-provinces

  from-previous : to_previous ≡ drop (previous_at h) xs
  from-previous = before previous_bytes tag_at reads-tag tag_packed tag-forth (previous_at h) h.previous to_switches (omega (arith, inside)) from-switches

  from-countries : to_countries ≡ drop (countries_at h) xs
  from-countries = before country_bytes country_at reads-country country_packed country-forth (countries_at h) h.countries to_previous (omega (arith, inside)) from-previous

  -- The head's bytes.
  head-again-bytes : head_packed h ≡ take head_bytes xs
  unfolding opens
  head-again-bytes =
      let row : List ℕ = take head_bytes xs in
      let rest : List ℕ = drop head_bytes xs in
      let long : length row ≡ head_bytes = omega (arith, length-take head_bytes xs, inside) in
      let split : drop 0 xs ≡ row ++ rest = sym (take-append-drop head_bytes xs) in
      let whole = leb head_bytes (length xs) in
      let a = eqb (get_or xs 0 0) 65 in
      let t = eqb (get_or xs 1 0) 84 in
      let l = eqb (get_or xs 2 0) 76 in
      let letters = both whole (a && t && l) facts.opened in
      let at = both (a && t) l letters.1 in
      let both_at = both a t at.0 in
      let byte : (k : ℕ) → k < head_bytes → get_or row k 0 ≡ get_or xs k 0 = λ k m. get_or-take head_bytes xs k 0 m in
      ap head_packed (head-same xs row (front-same head_bytes xs 0 row rest long split))
      ∙ head-forth row long (all_take Byte head_bytes xs q).0
      (byte 0 (omega arith) ∙ eqb-true _ _ both_at.0) (byte 1 (omega arith) ∙ eqb-true _ _ both_at.1) (byte 2 (omega arith) ∙ eqb-true _ _ at.1)

  strings-same : (campaign_of xs).strings ≡ strings xs
  unfolding campaign_of
  strings-same = refl

  -- Such bytes are what their campaign is packed into, in their edition and with what that appends.
  pub packed-again : pack_with h.version (campaign_of xs) to_tail ≡ xs
  unfolding pack_with
  packed-again =
      rw (head-again, countries-again.0, countries-again.1, countries-again.2, provinces-again.0, provinces-again.1, wars-again.0, wars-again.1, ledgers-again.0, ledgers-again.1, strings-same)
      (ap₂ (λ (f l : List ℕ). f ++ l) head-again-bytes from-countries ∙ take-append-drop head_bytes xs)

-- An accepted record of the first edition is what its campaign is packed into.
pub accepted-packed : (xs : List ℕ) → Bytes xs → refusal xs ≡ 0 → pack (campaign_of xs) ≡ xs
unfolding sizes_agree length_agrees
accepted-packed xs q z =
    let a = accepted xs z in
    let l = both (within_limits (head_of xs) && totals_agree xs) (length_agrees xs) a.sizes in
    let end : drop (tail_at xs) xs ≡ [] = drop_all (tail_at xs) xs (omega (arith, eqb-true _ _ l.1)) in
    sym (ap₂ (λ (v : ℕ) (tail : List ℕ). pack_with v (campaign_of xs) tail) a.version end) ∙ packed-again xs q (framed xs z)

-- So no two accepted records tell one campaign.
pub told-once : (xs ys : List ℕ) → Bytes xs → Bytes ys → refusal xs ≡ 0 → refusal ys ≡ 0 → campaign_of xs ≡ campaign_of ys → xs ≡ ys
told-once xs ys p q x y e = sym (accepted-packed xs p x) ∙ ap pack e ∙ accepted-packed ys q y
