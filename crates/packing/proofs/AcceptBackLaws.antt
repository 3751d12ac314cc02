-- The packed record of a sound campaign is accepted.
use mathlib.Core.Path.{◌≡◌, refl, sym, ap₂, ◌∙◌}
use mathlib.Core.Bool.{Bool, true, false}
use mathlib.Core.List.{List, [], ◌∷◌, map}
use Prim.Native.Nat.{ℕ, zero, suc, ◌+◌, ◌*◌}
use native.Mathlib.Omega.{arith}
use borrow.Author.Tests.{le-leb, le-ltb, eq-eqb}
use lib.Dec.{ltb}
use lib.ListN.{length, length-append}
use Rattle.lists.specs.Lists.{All, join_of, sum_of, any_of, one}
use Rattle.lists.proofs.ListLaws.{all_of_map, all_join, any-map, map-then}
use Rattle.format.specs.declared.tag.CountryTag.{CountryTag}
use Rattle.format.specs.declared.date.Eu4Date.{Eu4Date}
use Rattle.format.specs.declared.rows.Switch.{Switch}
use Rattle.format.specs.declared.rows.OwnerEvent.{OwnerEvent}
use Rattle.format.specs.declared.rows.WarEvent.{WarEvent}
use Rattle.format.specs.declared.rows.Point.{Point}
use Rattle.format.specs.Head.{head_of, within_limits, strings_at}
use Rattle.format.specs.Rows.{strings_end}
use Rattle.format.specs.Campaign.{Country, Campaign}
use Rattle.format.specs.RecordNumber.{first_of, first_in, totals_agree, length_agrees, sizes_agree, tag_number, date_number, country_flags_number, head_flags_number, kind_number, year_number, country_number, switch_number, owner_event_number, war_event_number, head_number, fields_number, tag_twice, id_twice_or_above, refusal}
use Rattle.format.specs.Sound.{GoodTag, GoodDate, GoodSwitch, GoodCountry, GoodOwnerEvent, GoodProvince, GoodWarEvent, GoodPoint, GoodLedger, Sound}
use Rattle.packing.specs.Bounds.{CitiesFit}
use Rattle.packing.specs.Packing.{country_row, province_row, ledger_row, head_for, pack}
use Rattle.packing.proofs.CampaignBackLaws.{Placed, placed, told-countries, told-previous, told-switches, told-provinces, told-events, told-wars, told-war-events, told-ledgers, told-points, told-strings}

-- ## Numbers that refuse nothing

none : (ns : List ℕ) → All (λ n. n ≡ 0) ns → first_of ns ≡ 0
unfolding first_of
none [] q = refl
none (zero ∷ ns) q = none ns q.1
none (suc n ∷ ns) q = absurd (omega (arith, q.0))

module _ {A : Type 0} (number : A → ℕ) (P : A → Type 0) (good : (a : A) → P a → number a ≡ 0) where
  rows-none : (rows : List A) → All P rows → first_in number rows ≡ 0
  unfolding first_in
  rows-none rows q = none (map number rows) (all_of_map (λ n. n ≡ 0) number good rows q)

module _ {A B : Type 0} (number : B → ℕ) (row : A → B) (P : A → Type 0) (good : (a : A) → P a → number (row a) ≡ 0) where
  rows-of : (xs : List A) → All P xs → first_in number (map row xs) ≡ 0
  rows-of xs q = rows-none number (λ b. number b ≡ 0) (λ b h. h) (map row xs) (all_of_map (λ b. number b ≡ 0) row good xs q)

none-fits : {A : Type 0} (p : A → Bool) (P : A → Type 0) → ((a : A) → P a → p a ≡ false) → (xs : List A) → All P xs → any_of p xs ≡ false
none-fits p P f [] q = refl
none-fits p P f (x ∷ xs) q = simp (f x q.0, none-fits p P f xs q.1)

tag-none : (t : CountryTag) → GoodTag t → tag_number t ≡ 0
tag-none t h = simp h

date-none : (d : Eu4Date) → GoodDate d → date_number d ≡ 0
date-none d h = simp h

flags-few : (a b c : Bool) → country_flags_number (one a + 2 * one b + 4 * one c) ≡ 0
flags-few true true true = refl
flags-few true true false = refl
flags-few true false true = refl
flags-few true false false = refl
flags-few false true true = refl
flags-few false true false = refl
flags-few false false true = refl
flags-few false false false = refl

head-flags-few : (a b : Bool) → head_flags_number (one a + 2 * one b) ≡ 0
head-flags-few true true = refl
head-flags-few true false = refl
head-flags-few false true = refl
head-flags-few false false = refl

country-none : (k : Country) → GoodCountry k → country_number (country_row k) ≡ 0
unfolding country_number
country-none k g = none _ (tag-none k.tag g.tag, (flags-few k.human k.was_player k.has_switched_nation, tt))

switch-none : (s : Switch) → GoodSwitch s → switch_number s ≡ 0
unfolding switch_number
switch-none s g = none _ (date-none s.date g.date, (tag-none s.from g.from, tt))

event-none : (e : OwnerEvent) → GoodOwnerEvent e → owner_event_number e ≡ 0
unfolding owner_event_number
event-none e g = none _ (date-none e.date g.date, (tag-none e.tag g.tag, tt))

war-event-none : (e : WarEvent) → GoodWarEvent e → war_event_number e ≡ 0
unfolding war_event_number
war-event-none e g = let kind : kind_number e.kind ≡ 0 = simp (le-leb e.kind 4 g.kind) in none _ (date-none e.date g.date, (kind, (tag-none e.tag g.tag, tt)))

point-none : (p : Point) → GoodPoint p → year_number p.year ≡ 0
point-none p h = simp (le-leb p.year 9999 h)

-- ## Sums

-- Rows count as many as they own.
counted : {A B C : Type 0} (n : B → ℕ) (f : A → B) (own : A → List C) → ((a : A) → n (f a) ≡ length (own a)) → (xs : List A)
    → sum_of n (map f xs) ≡ length (join_of own xs)
counted n f own e [] = refl
counted n f own e (x ∷ xs) = ap₂ (λ (a b : ℕ). a + b) (e x) (counted n f own e xs) ∙ sym (length-append (own x) (join_of own xs))

-- ## The record

module _ (c : Campaign) (s : Sound c) (q : CitiesFit c) (xs : List ℕ) (p : Placed 1 c [] xs) where
  limits-met : within_limits (head_of xs) ≡ true
  unfolding within_limits head_for
  limits-met =
      rw (
        p.head,
        le-leb (length c.countries) 2000 s.few_countries,
        le-leb (length c.provinces) 8000 s.few_provinces,
        le-leb (length (join_of (λ k. k.previous) c.countries)) 20000 s.few_previous,
        le-leb (length (join_of (λ k. k.switches) c.countries)) 20000 s.few_switches,
        le-leb (length (join_of (λ p. p.events) c.provinces)) 60000 s.few_events,
        le-leb (length c.strings) 1000 s.few_strings,
        le-leb (length c.wars) 5000 s.few_wars,
        le-leb (length (join_of (λ es. es) c.wars)) 100000 s.few_war_events,
        le-leb (length c.ledgers) 2000 s.few_ledgers,
        le-leb (length (join_of (λ l. l.points) c.ledgers)) 1000000 s.few_points,
      )
      refl

  totals-met : totals_agree xs ≡ true
  unfolding totals_agree head_for
  totals-met =
      rw (
        told-countries 1 c [] xs p q,
        told-provinces 1 c [] xs p,
        told-wars 1 c [] xs p,
        told-ledgers 1 c [] xs p,
        p.head,
        eq-eqb _ _ (counted (λ r. r.previous) country_row (λ k. k.previous) (λ k. refl) c.countries),
        eq-eqb _ _ (counted (λ r. r.switches) country_row (λ k. k.switches) (λ k. refl) c.countries),
        eq-eqb _ _ (counted (λ r. r.events) province_row (λ p. p.events) (λ p. refl) c.provinces),
        eq-eqb _ _ (counted (λ n. n) length (λ es. es) (λ es. refl) c.wars),
        eq-eqb _ _ (counted (λ r. r.points) ledger_row (λ l. l.points) (λ l. refl) c.ledgers),
      )
      refl

  end-met : strings_end xs (strings_at (head_of xs)) (head_of xs).strings ≡ length xs
  end-met = omega (arith, (told-strings 1 c [] xs p).1)

  sizes-met : sizes_agree xs ≡ true
  unfolding sizes_agree length_agrees
  sizes-met = rw (limits-met, totals-met, eq-eqb _ _ end-met) refl

  head-none : head_number (head_of xs) ≡ 0
  unfolding head_number head_for
  head-none = rw p.head (none _ (head-flags-few c.ironman c.multiplayer, (date-none c.start s.start, (date-none c.current s.current, tt))))

  fields-none : fields_number xs ≡ 0
  unfolding fields_number
  fields-none =
      rw (
        told-countries 1 c [] xs p q,
        told-previous 1 c [] xs p,
        told-switches 1 c [] xs p,
        told-provinces 1 c [] xs p,
        told-events 1 c [] xs p,
        told-war-events 1 c [] xs p,
        told-ledgers 1 c [] xs p,
        told-points 1 c [] xs p,
      )
      (none _ (
        head-none,
        (
          rows-of country_number country_row GoodCountry country-none c.countries s.countries,
          (
            rows-none (λ t. tag_number t) GoodTag tag-none (join_of (λ k. k.previous) c.countries) (all_join GoodTag (λ k. k.previous) (λ k g. g.previous) c.countries s.countries),
            (
              rows-none switch_number GoodSwitch switch-none (join_of (λ k. k.switches) c.countries) (all_join GoodSwitch (λ k. k.switches) (λ k g. g.switches) c.countries s.countries),
              (
                rows-of (λ r. tag_number r.owner) province_row (GoodProvince (length c.provinces)) (λ p g. tag-none p.owner g.owner) c.provinces s.provinces,
                (
                  rows-none owner_event_number GoodOwnerEvent event-none (join_of (λ p. p.events) c.provinces) (all_join GoodOwnerEvent (λ p. p.events) (λ p g. g.events) c.provinces s.provinces),
                  (
                    rows-none war_event_number GoodWarEvent war-event-none (join_of (λ es. es) c.wars) (all_join GoodWarEvent (λ es. es) (λ es g. g) c.wars s.wars),
                    (
                      rows-of (λ r. tag_number r.tag) ledger_row GoodLedger (λ l g. tag-none l.tag g.tag) c.ledgers s.ledgers,
                      (
                        rows-none (λ p. year_number p.year) GoodPoint point-none (join_of (λ l. l.points) c.ledgers) (all_join GoodPoint (λ l. l.points) (λ l g. g.points) c.ledgers s.ledgers),
                        tt,
                      ),
                    ),
                  ),
                ),
              ),
            ),
          ),
        ),
      ))

  once : (tag_twice xs ≡ false) × (id_twice_or_above xs ≡ false)
  unfolding tag_twice id_twice_or_above head_for
  once =
      let tags : map (λ r. r.tag.0) (map country_row c.countries) ≡ map (λ k. k.tag.0) c.countries = map-then country_row (λ r. r.tag.0) c.countries in
      let ids : map (λ r. r.id.0) (map province_row c.provinces) ≡ map (λ p. p.id.0) c.provinces = map-then province_row (λ r. r.id.0) c.provinces in
      let inside : any_of (λ r. ltb (length c.provinces) r.id.0) (map province_row c.provinces) ≡ false =
      any-map (λ r. ltb (length c.provinces) r.id.0) province_row c.provinces
      ∙ none-fits (λ p. ltb (length c.provinces) p.id.0) (GoodProvince (length c.provinces)) (λ p g. le-ltb (length c.provinces) p.id.0 g.id) c.provinces s.provinces in (
        rw (told-countries 1 c [] xs p q, tags) s.tags_once,
        rw (told-provinces 1 c [] xs p, p.head, ids, s.ids_once, inside) refl,
      )

  pub accepted-back : refusal xs ≡ 0
  unfolding refusal head_for
  accepted-back =
      none _ (
        simp p.opened,
        (
          rw p.head refl,
          (
            simp sizes-met,
            (
              fields-none,
              (
                rw (once.0, once.1) refl,
                (rw (p.head, le-ltb c.current.0 c.start.0 s.order) refl, tt),
              ),
            ),
          ),
        ),
      )

-- What was packed is accepted, and tells its campaign.
pub pack-accepted : (c : Campaign) → Sound c → CitiesFit c → refusal (pack c) ≡ 0
pack-accepted c s q = accepted-back c s q (pack c) (placed 1 c [])
