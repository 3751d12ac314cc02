-- A sound campaign whose numbers and texts fit is packed into bytes.
use mathlib.Core.Bool.{Bool, true, false}
use mathlib.Core.List.{List, [], ◌∷◌, ◌++◌, map}
use Prim.Native.Nat.{ℕ, ◌+◌, ◌*◌, ◌/◌, ◌%◌, ◌<◌, ◌≤◌}
use lib.IntN.{ℤ, pos, negsuc}
use native.Mathlib.Omega.{arith}
use lib.ListN.{length, length-append}
use Rattle.lists.specs.Lists.{All, join_of, one}
use Rattle.lists.proofs.ListLaws.{all_map, all_both, all_append, all_join, all_of_map}
use Rattle.format.specs.declared.tag.CountryTag.{CountryTag}
use Rattle.format.specs.declared.date.Eu4Date.{Eu4Date}
use Rattle.format.specs.declared.rows.Switch.{Switch}
use Rattle.format.specs.declared.rows.OwnerEvent.{OwnerEvent}
use Rattle.format.specs.declared.rows.WarEvent.{WarEvent}
use Rattle.format.specs.declared.rows.Point.{Point}
use Rattle.format.specs.Campaign.{Country, Province, Ledger, Campaign}
use Rattle.format.specs.Sound.{GoodTag, GoodDate, GoodSwitch, GoodCountry, GoodOwnerEvent, GoodProvince, GoodWarEvent, GoodPoint, GoodLedger, Sound}
use Rattle.format.proofs.BoundLaws.{tag_small, date-small}
use Rattle.packing.specs.Bounds.{Byte, Signed, StringFits, Fits}
use Rattle.packing.specs.Packing.{word_of, country_packed, tag_packed, switch_packed, province_packed, owner_event_packed, war_packed, war_event_packed, ledger_packed, point_packed, string_packed, head_packed, country_row, province_row, ledger_row, head_for, pack_with}
use Rattle.packing.proofs.CampaignBackLaws.{from_countries, from_previous, from_switches, from_provinces, from_events, from_wars, from_war_events, from_ledgers, from_points, from_strings}
use Rattle.packing.proofs.WriteLaws.{Bytes}

-- ## Numbers

low : (n : ℕ) → n % 256 < 256
low n = omega arith

-- The bytes of a number, before what stands behind them.
two-before : {R : Type 0} (n : ℕ) → n < 65536 → R → Byte (n % 256) × (Byte (n / 256) × R)
two-before n h rest = (low n, (omega (arith, h), rest))

four-before : {R : Type 0} (n : ℕ) → n < 4294967296 → R → Byte (n % 256) × (Byte (n / 256 % 256) × (Byte (n / 65536 % 256) × (Byte (n / 16777216) × R)))
four-before n h rest = (low n, (low (n / 256), (low (n / 65536), (omega (arith, h), rest))))

tag-before : {R : Type 0} (t : CountryTag) → GoodTag t → R → Byte (t.0 / 65536) × (Byte (t.0 / 256 % 256) × (Byte (t.0 % 256) × R))
tag-before t g rest = (omega (arith, tag_small t g), (low (t.0 / 256), (low t.0, rest)))

date-before : {R : Type 0} (d : Eu4Date) → GoodDate d → R → Byte (d.0 % 256) × (Byte (d.0 / 256 % 256) × (Byte (d.0 / 65536 % 256) × (Byte (d.0 / 16777216) × R)))
date-before d g rest = four-before d.0 (omega (arith, date-small d g)) rest

signed-small : (z : ℤ) → Signed z → word_of z < 4294967296
signed-small (pos n) h = omega (arith, h)
signed-small (negsuc n) h = omega arith

flags-three : (a b c : Bool) → one a + 2 * one b + 4 * one c < 256
flags-three true true true = omega arith
flags-three true true false = omega arith
flags-three true false true = omega arith
flags-three true false false = omega arith
flags-three false true true = omega arith
flags-three false true false = omega arith
flags-three false false true = omega arith
flags-three false false false = omega arith

flags-two : (a b : Bool) → one a + 2 * one b < 256
flags-two true true = omega arith
flags-two true false = omega arith
flags-two false true = omega arith
flags-two false false = omega arith

joined : (xs ys : List ℕ) → Bytes xs → Bytes ys → Bytes (xs ++ ys)
joined xs ys p q = all_append Byte xs ys p q

-- No owner has more than all together.
own-few : {A B : Type 0} (own : A → List B) (most : ℕ) (xs : List A) → length (join_of own xs) ≤ most → All (λ x. length (own x) ≤ most) xs
own-few own most [] h = tt
own-few own most (x ∷ xs) h =
    let all = length-append (own x) (join_of own xs) in (omega (arith, h, all), own-few own most xs (omega (arith, h, all)))

-- ## Rows

record CountryFits (k : Country) : Type 0 where
  good : GoodCountry k
  cities : Signed k.cities
  previous : length k.previous ≤ 20000
  switches : length k.switches ≤ 20000

country-bytes : (k : Country) → CountryFits k → Bytes (country_packed (country_row k))
unfolding country_packed
country-bytes k f =
    tag-before k.tag f.good.tag (
      flags-three k.human k.was_player k.has_switched_nation,
      four-before (word_of k.cities) (signed-small k.cities f.cities)
          (two-before (length k.previous) (omega (arith, f.previous)) (two-before (length k.switches) (omega (arith, f.switches)) tt)),
    )

tag-bytes : (t : CountryTag) → GoodTag t → Bytes (tag_packed t)
unfolding tag_packed
tag-bytes t g = tag-before t g tt

switch-bytes : (s : Switch) → GoodSwitch s → Bytes (switch_packed s)
unfolding switch_packed
switch-bytes s g = date-before s.date g.date (tag-before s.from g.from tt)

province-bytes : (most : ℕ) → most ≤ 8000 → (p : Province) → GoodProvince most p × (length p.events ≤ 60000) → Bytes (province_packed (province_row p))
unfolding province_packed
province-bytes most h p g =
    two-before p.id.0 (omega (arith, h, g.0.id)) (tag-before p.owner g.0.owner (two-before (length p.events) (omega (arith, g.1)) tt))

owner-event-bytes : (e : OwnerEvent) → GoodOwnerEvent e → Bytes (owner_event_packed e)
unfolding owner_event_packed
owner-event-bytes e g = date-before e.date g.date (tag-before e.tag g.tag tt)

war-bytes : (es : List WarEvent) → length es < 65536 → Bytes (war_packed (length es))
unfolding war_packed
war-bytes es h = two-before (length es) h tt

war-event-bytes : (e : WarEvent) → GoodWarEvent e → Bytes (war_event_packed e)
unfolding war_event_packed
war-event-bytes e g = date-before e.date g.date (omega (arith, g.kind), tag-before e.tag g.tag tt)

ledger-bytes : (l : Ledger) → GoodLedger l × (length l.points < 65536) → Bytes (ledger_packed (ledger_row l))
unfolding ledger_packed
ledger-bytes l g = tag-before l.tag g.0.tag (two-before (length l.points) g.1 tt)

point-bytes : (p : Point) → GoodPoint p × (p.value < 4294967296) → Bytes (point_packed p)
unfolding point_packed
point-bytes p g = two-before p.year (omega (arith, g.0)) (four-before p.value g.1 tt)

string-bytes : (s : List ℕ) → StringFits s → Bytes (string_packed s)
unfolding string_packed
string-bytes s f = (f.short, f.bytes)

-- ## The record

module _ (edition : ℕ) (c : Campaign) (tail : List ℕ) (few : edition < 65536) (s : Sound c) (f : Fits c) (q : Bytes tail) where
  head-bytes : Bytes (head_packed (head_for edition c))
  unfolding head_packed head_for
  head-bytes = (
    omega arith,
    (
      omega arith,
      (
        omega arith,
        two-before edition few (
          flags-two c.ironman c.multiplayer,
          date-before c.start s.start
              (date-before c.current s.current
              (two-before (length c.countries) (omega (arith, s.few_countries))
              (two-before (length c.provinces) (omega (arith, s.few_provinces))
              (four-before (length (join_of (λ k. k.previous) c.countries)) (omega (arith, s.few_previous))
              (four-before (length (join_of (λ k. k.switches) c.countries)) (omega (arith, s.few_switches))
              (four-before (length (join_of (λ p. p.events) c.provinces)) (omega (arith, s.few_events))
              (two-before (length c.strings) (omega (arith, s.few_strings))
              (two-before (length c.wars) (omega (arith, s.few_wars))
              (four-before (length (join_of (λ es. es) c.wars)) (omega (arith, s.few_war_events))
              (two-before (length c.ledgers) (omega (arith, s.few_ledgers))
              (four-before (length (join_of (λ l. l.points) c.ledgers)) (omega (arith, s.few_points)) tt))))))))))),
        ),
      ),
    ),
  )

  countries-fit : All CountryFits c.countries
  countries-fit =
      all_map (λ k h. record { good = h.0; cities = h.1.0; previous = h.1.1.0; switches = h.1.1.1 }) c.countries
      (all_both GoodCountry (λ k. Signed k.cities × ((length k.previous ≤ 20000) × (length k.switches ≤ 20000))) c.countries s.countries
      (all_both (λ k. Signed k.cities) (λ k. (length k.previous ≤ 20000) × (length k.switches ≤ 20000)) c.countries f.cities
      (all_both (λ k. length k.previous ≤ 20000) (λ k. length k.switches ≤ 20000) c.countries
      (own-few (λ k. k.previous) 20000 c.countries s.few_previous) (own-few (λ k. k.switches) 20000 c.countries s.few_switches))))

  -- A section of rows, one for each owner.
  rows : {A B : Type 0} (P : A → Type 0) (put : B → List ℕ) (row : A → B) → ((a : A) → P a → Bytes (put (row a))) → (as' : List A) → All P as' → Bytes (join_of put (map row as'))
  rows P put row bytes as' h = all_join {P = λ b. Bytes (put b)} Byte put (λ b g. g) (map row as') (all_of_map (λ b. Bytes (put b)) row bytes as' h)

  -- A section of what they own.
  owned : {A B : Type 0} (P : A → Type 0) (Q : B → Type 0) (own : A → List B) (put : B → List ℕ) → ((a : A) → P a → All Q (own a)) → ((b : B) → Q b → Bytes (put b)) → (as' : List A) → All P as'
      → Bytes (join_of put (join_of own as'))
  owned P Q own put good bytes as' h = all_join {P = Q} Byte put bytes (join_of own as') (all_join {P = P} Q own good as' h)

  pub pack-bytes : Bytes (pack_with edition c tail)
  unfolding pack_with
  pack-bytes =
      joined (head_packed (head_for edition c)) (from_countries c tail) head-bytes
      (joined (join_of country_packed (map country_row c.countries)) (from_previous c tail) (rows CountryFits country_packed country_row country-bytes c.countries countries-fit)
      (joined (join_of tag_packed (join_of (λ k. k.previous) c.countries)) (from_switches c tail) (owned GoodCountry GoodTag (λ k. k.previous) tag_packed (λ k g. g.previous) tag-bytes c.countries s.countries)
      (joined (join_of switch_packed (join_of (λ k. k.switches) c.countries)) (from_provinces c tail) (owned GoodCountry GoodSwitch (λ k. k.switches) switch_packed (λ k g. g.switches) switch-bytes c.countries s.countries)
      (joined (join_of province_packed (map province_row c.provinces)) (from_events c tail)
      (rows (λ p. GoodProvince (length c.provinces) p × (length p.events ≤ 60000)) province_packed province_row (province-bytes (length c.provinces) s.few_provinces) c.provinces
      (all_both (GoodProvince (length c.provinces)) (λ p. length p.events ≤ 60000) c.provinces s.provinces (own-few (λ p. p.events) 60000 c.provinces s.few_events)))
      (joined (join_of owner_event_packed (join_of (λ p. p.events) c.provinces)) (from_wars c tail)
      (owned (GoodProvince (length c.provinces)) GoodOwnerEvent (λ p. p.events) owner_event_packed (λ p g. g.events) owner-event-bytes c.provinces s.provinces)
      (joined (join_of war_packed (map length c.wars)) (from_war_events c tail) (rows (λ es. length es < 65536) war_packed length war-bytes c.wars f.wars)
      (joined (join_of war_event_packed (join_of (λ es. es) c.wars)) (from_ledgers c tail) (owned (All GoodWarEvent) GoodWarEvent (λ es. es) war_event_packed (λ es g. g) war-event-bytes c.wars s.wars)
      (joined (join_of ledger_packed (map ledger_row c.ledgers)) (from_points c tail)
      (rows (λ l. GoodLedger l × (length l.points < 65536)) ledger_packed ledger_row ledger-bytes c.ledgers (all_both GoodLedger (λ l. length l.points < 65536) c.ledgers s.ledgers f.ledgers))
      (joined (join_of point_packed (join_of (λ l. l.points) c.ledgers)) (from_strings c tail)
      (owned (λ l. GoodLedger l × All (λ p. p.value < 4294967296) l.points) (λ p. GoodPoint p × (p.value < 4294967296)) (λ l. l.points) point_packed
      (λ l g. all_both GoodPoint (λ p. p.value < 4294967296) l.points g.0.points g.1) point-bytes c.ledgers
      (all_both GoodLedger (λ l. All (λ p. p.value < 4294967296) l.points) c.ledgers s.ledgers f.values))
      (joined (join_of string_packed c.strings) tail (all_join {P = StringFits} Byte string_packed string-bytes c.strings f.strings) q))))))))))
