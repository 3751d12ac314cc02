-- How large the words of a sound campaign's rows are, for whoever keeps them in cells and keys.
use mathlib.Core.Path.{◌≡◌, refl}
use mathlib.Core.Bool.{◌&&◌}
use mathlib.Core.List.{List}
use Prim.Native.Nat.{ℕ, ◌+◌, ◌*◌, ◌/◌, ◌%◌, ◌<◌, ◌≤◌}
use native.Mathlib.Nat.{div-div-eq-div-mul, div-add-mod}
use native.Mathlib.Decide.{dec_le}
use native.Mathlib.Omega.{arith}
use borrow.Author.Tests.{leb-true}
use lib.Dec.{leb}
use lib.ListN.{length, get_or-eq_default}
use Rattle.lists.specs.Lists.{All, join_of, sum_of}
use Rattle.lists.proofs.BoolLaws.{both}
use Rattle.lists.proofs.ListLaws.{all_map, length-joined}
use Rattle.lists.proofs.TableLaws.{entry}
use Rattle.format.specs.declared.tag.CountryTag.{CountryTag}
use Rattle.format.specs.declared.date.Eu4Date.{Eu4Date}
use Rattle.format.specs.declared.rows.OwnerEvent.{OwnerEvent}
use Rattle.format.specs.Dates.{good_date, year, month, day, month_table, month_days}
use Rattle.format.specs.Head.{head_of, countries_at, switches_at, events_at, country_bytes, switch_bytes, owner_event_bytes}
use Rattle.format.specs.Rows.{country_at, switch_at, owner_event_at}
use Rattle.format.specs.Campaign.{Province, country_rows, previous_tags, switch_rows, province_rows, owner_events, campaign_of}
use Rattle.format.specs.RecordNumber.{refusal}
use Rattle.format.specs.Sound.{GoodTag, GoodDate, GoodOwnerEvent, GoodProvince}
use Rattle.format.proofs.AcceptLaws.{accepted, accepted-laid}
use Rattle.format.proofs.RowLaws.{rows-counted}
use Rattle.format.proofs.CampaignLaws.{countries-length, switches-owned, events-owned}
use Rattle.format.proofs.TagLaws.{tag-bytes}
use Rattle.format.proofs.SoundLaws.{sound}

-- ## One word

pub tag_small : (t : CountryTag) → GoodTag t → t.0 < 16777216
tag_small t h = let b = tag-bytes t h in omega (arith, b.first.most)

-- A month with a day is one of twelve, and none has more than 31.
month-days : (m d : ℕ) → 1 ≤ d → d ≤ month_days m → (m ≤ 12) × (d ≤ 31)
month-days m d first last =
    elim (dec_le m 12) as (λ _. (m ≤ 12) × (d ≤ 31)) [
      | yes h ↦ (h, omega (arith, leb-true (month_days m) 31 (entry (λ _ n. leb n 31) month_table refl m (omega arith))))
      | no h ↦ let none : month_days m ≡ 0 = get_or-eq_default month_table 0 {n = m} (omega arith) in absurd (omega arith)
    ]

digits-most : (w : ℕ) → w / 10000 ≤ 9999 → w / 100 % 100 ≤ 12 → w % 100 ≤ 31 → w ≤ 99991231
digits-most w y m d =
    let years : w / 100 / 100 ≡ w / 10000 = div-div-eq-div-mul w 100 100 in
    omega (arith, years, div-add-mod w 100, div-add-mod (w / 100) 100)

pub date-most : (d : Eu4Date) → GoodDate d → d.0 ≤ 99991231
unfolding good_date
date-most d h =
    let from = leb 1 (year d) in
    let to = leb (year d) 9999 in
    let first = leb 1 (day d) in
    let last = leb (day d) (month_days (month d)) in
    let parts = both (from && to) (first && last) h in
    let days = both first last parts.1 in
    let small = month-days (month d) (day d) (leb-true 1 (day d) days.0) (leb-true (day d) (month_days (month d)) days.1) in
    digits-most d.0 (leb-true (year d) 9999 (both from to parts.0).1) small.0 small.1

pub date-small : (d : Eu4Date) → GoodDate d → d.0 < 134217728
date-small d h = omega (arith, date-most d h)

-- ## The provinces of an accepted record

pub record SmallEvent (e : OwnerEvent) : Type 0 where
  pub date : e.date.0 < 134217728
  pub tag : e.tag.0 < 16777216

event-small : (e : OwnerEvent) → GoodOwnerEvent e → SmallEvent e
event-small e g = record { date = date-small e.date g.date; tag = tag_small e.tag g.tag }

pub record SmallProvince (p : Province) : Type 0 where
  pub id : p.id.0 ≤ 8000
  pub owner : p.owner.0 < 16777216
  pub events : All SmallEvent p.events

province-small : (top : ℕ) → top ≤ 8000 → (p : Province) → GoodProvince top p → SmallProvince p
province-small top h p g =
    record {
      id = omega (arith, g.id);
      owner = tag_small p.owner g.owner;
      events = all_map event-small p.events g.events;
    }

pub small-provinces : (xs : List ℕ) → refusal xs ≡ 0 → All SmallProvince (campaign_of xs).provinces
small-provinces xs h = let s = sound xs h in all_map (province-small _ s.few_provinces) (campaign_of xs).provinces s.provinces

-- At most 60,000 owner events in all.
pub few-events : (xs : List ℕ) → refusal xs ≡ 0 → sum_of (λ p. length p.events) (campaign_of xs).provinces ≤ 60000
few-events xs h = omega (arith, length-joined (λ (p : Province). p.events) (campaign_of xs).provinces, (sound xs h).few_events)

-- ## How many bytes rows take

-- An owner event takes its bytes of the record.
pub events-bytes : (xs : List ℕ) → refusal xs ≡ 0 → owner_event_bytes * sum_of (λ p. length p.events) (campaign_of xs).provinces ≤ length xs
unfolding campaign_of
events-bytes xs h =
    let joined = length-joined (λ (p : Province). p.events) (campaign_of xs).provinces in
    let owned = events-owned (province_rows xs) (owner_events xs) in
    let counted = rows-counted (owner_event_at xs) owner_event_bytes xs (events_at (head_of xs)) (head_of xs).events in
    omega (arith, (accepted-laid xs (accepted xs h)).inside)

-- A switch takes its bytes, and a country more.
pub switches-bytes : (xs : List ℕ) → refusal xs ≡ 0
    → switch_bytes * (length (campaign_of xs).countries + length (join_of (λ k. k.switches) (campaign_of xs).countries)) ≤ length xs
unfolding campaign_of
switches-bytes xs h =
    let owned = switches-owned (country_rows xs) (previous_tags xs) (switch_rows xs) in
    let switches = rows-counted (switch_at xs) switch_bytes xs (switches_at (head_of xs)) (head_of xs).switches in
    let grouped = countries-length (country_rows xs) (previous_tags xs) (switch_rows xs) in
    let countries = rows-counted (country_at xs) country_bytes xs (countries_at (head_of xs)) (head_of xs).countries in
    omega (arith, (accepted-laid xs (accepted xs h)).inside)
