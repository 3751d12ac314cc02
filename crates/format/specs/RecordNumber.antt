-- Rules 2: the numbers for a bad record, and which of them a record with several faults gets: 1, 2 and 3 in turn; of 4, 5, 6 and 9 that of the
-- first bad field in file order; last 7 and 8.
use Rattle.std.specs.Prelude.{Bool, cond, ◌&&◌, ◌||◌, List, [], ◌∷◌, map, ℕ, zero, suc, leb, ltb, eqb, length}
use Rattle.lists.specs.Lists.{any_of, sum_of, twice}
use Rattle.format.specs.declared.tag.CountryTag.{CountryTag}
use Rattle.format.specs.declared.date.Eu4Date.{Eu4Date}
use Rattle.format.specs.declared.head.Head.{Head}
use Rattle.format.specs.declared.rows.Switch.{Switch}
use Rattle.format.specs.declared.rows.OwnerEvent.{OwnerEvent}
use Rattle.format.specs.declared.rows.WarEvent.{WarEvent}
use Rattle.format.specs.Tags.{is_tag}
use Rattle.format.specs.Dates.{good_date, earlier}
use Rattle.format.specs.Bytes.{byte_at}
use Rattle.format.specs.Head.{head_of, within_limits, strings_at, head_bytes}
use Rattle.format.specs.Rows.{PackedCountry, strings_end}
use Rattle.format.specs.Campaign.{country_rows, previous_tags, switch_rows, province_rows, owner_events, war_rows, war_events, ledger_rows, points}

-- The first of some numbers that refuses; 0 refuses nothing. (Rules 2.12)
unfoldable pub first_of : List ℕ → ℕ
first_of [] = 0
first_of (zero ∷ ns) = first_of ns
first_of (suc n ∷ ns) = suc n

-- The number of the first row that is refused. (Rules 2.12)
unfoldable pub first_in : {A : Type 0} → (A → ℕ) → List A → ℕ
first_in number rows = first_of (map number rows)

-- A head's 44 bytes, opening with `ATL`. (Rules 2.3)
unfoldable pub opens : List ℕ → Bool
opens xs = leb head_bytes (length xs) && (eqb (byte_at xs 0) 65 && eqb (byte_at xs 1) 84 && eqb (byte_at xs 2) 76)

-- 1: there is no such head. (Rules 2.3)
abbrev pub opening_number : List ℕ → ℕ
opening_number xs = cond (opens xs) 0 1

-- 2: version other than 1. (Rules 2.4)
abbrev pub version_number : List ℕ → ℕ
version_number xs = cond (eqb (head_of xs).version 1) 0 2

-- The counts of the rows that own others add up to the head's totals. (Rules 2.5)
unfoldable pub totals_agree : List ℕ → Bool
totals_agree xs =
    eqb (sum_of (λ r. r.previous) (country_rows xs)) (head_of xs).previous
    && eqb (sum_of (λ r. r.switches) (country_rows xs)) (head_of xs).switches
    && eqb (sum_of (λ r. r.events) (province_rows xs)) (head_of xs).events
    && eqb (sum_of (λ n. n) (war_rows xs)) (head_of xs).war_events
    && eqb (sum_of (λ r. r.points) (ledger_rows xs)) (head_of xs).points

-- The rows need exactly the bytes that are there. (Rules 2.5)
unfoldable pub length_agrees : List ℕ → Bool
length_agrees xs = eqb (strings_end xs (strings_at (head_of xs)) (head_of xs).strings) (length xs)

-- Counts within their limits, totals that agree, and the length that the rows need. (Rules 2.5)
unfoldable pub sizes_agree : List ℕ → Bool
sizes_agree xs = within_limits (head_of xs) && totals_agree xs && length_agrees xs

-- 3: they do not agree. (Rules 2.5)
abbrev pub sizes_number : List ℕ → ℕ
sizes_number xs = cond (sizes_agree xs) 0 3

-- 4: a word that is no tag's. (Rules 2.6)
abbrev pub tag_number : CountryTag → ℕ
tag_number t = cond (is_tag t) 0 4

-- 5: a bad date. (Rules 2.7)
abbrev pub date_number : Eu4Date → ℕ
date_number d = cond (good_date d) 0 5

-- 6: an undefined flag bit. The head defines bits 0 and 1, a country bits 0 to 2. (Rules 2.8)
abbrev pub head_flags_number : ℕ → ℕ
head_flags_number flags = cond (ltb flags 4) 0 6

abbrev pub country_flags_number : ℕ → ℕ
country_flags_number flags = cond (ltb flags 8) 0 6

-- 6: an undefined kind. War events have kinds 0 to 4. (Rules 2.8)
abbrev pub kind_number : ℕ → ℕ
kind_number kind = cond (leb kind 4) 0 6

-- 9: a ledger year above 9999. (Rules 2.9)
abbrev pub year_number : ℕ → ℕ
year_number y = cond (leb y 9999) 0 9

-- The fields of each row, and of the head, in the order of their offsets. (Rules 2.12)
unfoldable pub country_number : PackedCountry → ℕ
country_number r = first_of (tag_number r.tag ∷ country_flags_number r.flags ∷ [])

unfoldable pub switch_number : Switch → ℕ
switch_number s = first_of (date_number s.date ∷ tag_number s.from ∷ [])

unfoldable pub owner_event_number : OwnerEvent → ℕ
owner_event_number e = first_of (date_number e.date ∷ tag_number e.tag ∷ [])

unfoldable pub war_event_number : WarEvent → ℕ
war_event_number e = first_of (date_number e.date ∷ kind_number e.kind ∷ tag_number e.tag ∷ [])

unfoldable pub head_number : Head → ℕ
head_number h = first_of (head_flags_number h.flags ∷ date_number h.start ∷ date_number h.current ∷ [])

-- 4, 5, 6 or 9: the number of the first bad field in file order, the head before the rows. (Rules 2.12)
unfoldable pub fields_number : List ℕ → ℕ
fields_number xs =
    first_of
    (head_number (head_of xs)
    ∷ first_in country_number (country_rows xs)
    ∷ first_in (λ t. tag_number t) (previous_tags xs)
    ∷ first_in switch_number (switch_rows xs)
    ∷ first_in (λ r. tag_number r.owner) (province_rows xs)
    ∷ first_in owner_event_number (owner_events xs)
    ∷ first_in war_event_number (war_events xs)
    ∷ first_in (λ r. tag_number r.tag) (ledger_rows xs)
    ∷ first_in (λ p. year_number p.year) (points xs)
    ∷ [])

-- A country tag stands twice. (Rules 2.10)
unfoldable pub tag_twice : List ℕ → Bool
tag_twice xs = twice (map (λ r. r.tag.0) (country_rows xs))

-- A province id stands twice, or is above P. (Rules 2.10)
unfoldable pub id_twice_or_above : List ℕ → Bool
id_twice_or_above xs =
    twice (map (λ r. r.id.0) (province_rows xs)) || any_of (λ r. ltb (head_of xs).provinces r.id.0) (province_rows xs)

-- 7: either of the two. (Rules 2.10)
abbrev pub repeats_number : List ℕ → ℕ
repeats_number xs = cond (tag_twice xs || id_twice_or_above xs) 7 0

-- 8: current date before start date. (Rules 2.11)
abbrev pub order_number : List ℕ → ℕ
order_number xs = cond (earlier (head_of xs).current (head_of xs).start) 8 0

-- The record's refusal number, 0 when it is accepted. (Rules 2.12)
unfoldable pub refusal : List ℕ → ℕ
refusal xs =
    first_of
    (opening_number xs
    ∷ version_number xs
    ∷ sizes_number xs
    ∷ fields_number xs
    ∷ repeats_number xs
    ∷ order_number xs
    ∷ [])
