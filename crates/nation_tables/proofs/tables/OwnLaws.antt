-- Countries with a switch more, from the own tag and behind every date, settle changes as they do without: and where a change settles to its own
-- tag, that switch tells the row of the country with it.
use mathlib.Core.Path.{◌≡◌, refl, sym, ap, ap₂, subst, ◌∙◌}
use mathlib.Core.Bool.{Bool, true, false, not, ◌&&◌}
use mathlib.Core.List.{List, [], ◌∷◌, ◌++◌, map, append-nil}
use mathlib.Core.Option
use mathlib.Core.Option.{Option, none, some}
use Prim.Native.Nat.{ℕ, suc, ◌+◌, ◌<◌}
use native.Mathlib.Omega.{arith}
use borrow.Author.Tests.{eqb-true, eqb-false, ltb-true, ltb-false, lt-ltb, le-leb, lt-leb}
use lib.Dec.{eqb, leb, ltb}
use lib.ListN.{length, get_elem?, length-map}
use Rattle.lists.specs.Lists.{All, all_of, keep, join_of, first_or, twice}
use Rattle.lists.proofs.BoolLaws.{cases, both, clash}
use Rattle.lists.proofs.ElementLaws.{at-end, at-inside, keep_all, keep-both, keep-either}
use Rattle.lists.proofs.ListLaws.{all_map, all_append, all_keep, all_of_map, all-all_of, keep_append, map-append, map_at}
use Rattle.lists.proofs.EachLaws.{all_of-all}
use Rattle.sorting.specs.Sort.{sort_by}
use Rattle.sorting.proofs.SortLaws.{all-sort, all-kept, keep-sort, split-sort, leb-total, leb-trans}
use Rattle.format.specs.declared.tag.CountryTag.{CountryTag}
use Rattle.format.specs.declared.date.Eu4Date.{Eu4Date}
use Rattle.format.specs.declared.rows.Switch.{Switch}
use Rattle.format.specs.Tags.{same_tag}
use Rattle.format.specs.Dates.{not_after}
use Rattle.format.specs.Campaign.{Country}
use Rattle.format.specs.declared.values.OwnerChange.{OwnerChange}
use Rattle.rules.specs.Nations.{CountrySwitch, own_switches, all_switches, settles}
use Rattle.nation_tables.specs.Layout.{key_dates, key_tags, last_date, row_number}
use Rattle.nation_tables.specs.Lookup.{no_row}
use Rattle.nation_tables.specs.Countries.{tag_at_row, words_of_tags, places_of, row_of, small_switch, own_switch, with_own, settling_keys, Keyed, OwnLast}
use Rattle.nation_tables.specs.Settling.{or_tag, settling_row, settled_row, Settled}
use Rattle.nation_tables.specs.Switches.{PlacedSwitch, placed, own_placed, all_placed}
use Rattle.nation_tables.proofs.tables.MappedLaws.{row-single}
use Rattle.nation_tables.proofs.tables.PlacedLaws.{own-append}
use Rattle.nation_tables.proofs.tables.SettlingLaws.{switch_asked, none-asked, settled-row}

-- ## The countries with it

own-tags : (ks : List Country) (row : ℕ) → tag_at_row (map with_own ks) row ≡ tag_at_row ks row
own-tags ks row = ap (Option.map (λ k. k.tag)) (map_at with_own ks row) ∙ same (get_elem? ks row)
  where
    same : (o : Option Country) → Option.map (λ k. k.tag) (Option.map with_own o) ≡ Option.map (λ k. k.tag) o
    same none = refl
    same (some k) = refl

-- Their keys have room.
pub keyed-own : (ks : List Country) → Keyed ks → OwnLast ks → Keyed (map with_own ks)
keyed-own ks q own =
    record {
      few = let l = q.few in omega (arith, length-map ks with_own);
      switches =
          all-all_of (λ k. all_of small_switch k.switches ≡ true) (λ k. all_of small_switch k.switches) (λ k h. h) (map with_own ks)
          (all_of_map {P = λ k. (all_of small_switch k.switches ≡ true) × (k.tag.0 < key_tags)} (λ k. all_of small_switch k.switches ≡ true) with_own
          (λ k h. small-more k.switches (own_switch k) h.0 (simp (lt-ltb k.tag.0 key_tags h.1)))
          ks (all_two ks (all_of-all (λ k. all_of small_switch k.switches) ks q.switches) own.tags));
    }
  where
    small-more : (ss : List Switch) (x : Switch) → all_of small_switch ss ≡ true → small_switch x ≡ true → all_of small_switch (ss ++ (x ∷ [])) ≡ true
    small-more ss x h g =
        all-all_of (λ y. small_switch y ≡ true) small_switch (λ y e. e) (ss ++ (x ∷ []))
        (all_append (λ y. small_switch y ≡ true) ss (x ∷ []) (all_of-all small_switch ss h) (g, tt))

    all_two : (l : List Country) → All (λ k. all_of small_switch k.switches ≡ true) l → All (λ k. k.tag.0 < key_tags) l
        → All (λ k. (all_of small_switch k.switches ≡ true) × (k.tag.0 < key_tags)) l
    all_two [] a b = tt
    all_two (k ∷ l) a b = ((a.0, b.0), all_two l a.1 b.1)

-- ## Whom they settle to

-- Dated before the last date: those switches that are the record's.
abbrev early : CountrySwitch → Bool
early s = ltb s.date.0 last_date

abbrev by_dates : CountrySwitch → CountrySwitch → Bool
by_dates a b = not_after a.date b.date

abbrev with_tag : CountryTag → Switch → CountrySwitch
with_tag t s = record { date = s.date; from = s.from; country = t }

-- The others are from the country's own tag.
abbrev Own : CountrySwitch → Type 0
Own s = early s ≡ false → s.country ≡ s.from

own-switches : (k : Country) → own_switches (with_own k) ≡ own_switches k ++ (with_tag k.tag (own_switch k) ∷ [])
own-switches k = map-append (with_tag k.tag) k.switches (own_switch k ∷ [])

all-early : (t : CountryTag) (ss : List Switch) → All (λ x. x.date.0 < last_date) ss → All (λ s. early s ≡ true) (map (with_tag t) ss)
all-early t ss q = all_of_map {P = λ x. x.date.0 < last_date} (λ s. early s ≡ true) (with_tag t) (λ x l. lt-ltb x.date.0 last_date l) ss q

-- Without them the switches are those of the countries.
early-ones : (ks : List Country) → All (λ k. All (λ x. x.date.0 < last_date) k.switches) ks
    → keep early (join_of own_switches (map with_own ks)) ≡ join_of own_switches ks
early-ones [] q = refl
early-ones (k ∷ ks) q =
    let own = own_switches k in
    let late = with_tag k.tag (own_switch k) in
    keep_append early (own_switches (with_own k)) (join_of own_switches (map with_own ks))
    ∙ ap₂ ◌++◌
    (ap (keep early) (own-switches k)
    ∙ keep_append early own (late ∷ [])
    ∙ append-nil (keep early own)
    ∙ keep_all early own (all-early k.tag k.switches q.0))
    (early-ones ks q.1)

others-own : (ks : List Country) → All (λ k. All (λ x. x.date.0 < last_date) k.switches) ks → All Own (join_of own_switches (map with_own ks))
others-own [] q = tt
others-own (k ∷ ks) q =
    all_append Own (own_switches (with_own k)) (join_of own_switches (map with_own ks))
    (subst (λ (l : List CountrySwitch). All Own l) (sym (own-switches k))
    (all_append Own (own_switches k) (with_tag k.tag (own_switch k) ∷ [])
    (all_map (λ s e h. clash (early s) e h) (own_switches k) (all-early k.tag k.switches q.0)) ((λ h. refl), tt)))
    (others-own ks q.1)

-- What stands behind a list and tells nothing new.
first-behind : (d : CountryTag) (xs ys : List CountrySwitch) → All (λ s. s.country ≡ d) ys
    → first_or d (map (λ s. s.country) (xs ++ ys)) ≡ first_or d (map (λ s. s.country) xs)
first-behind d [] [] q = refl
first-behind d [] (y ∷ ys) q = q.0
first-behind d (x ∷ xs) ys q = refl

-- The tag of a word.
abbrev word_tag : ℕ → CountryTag
word_tag w = record { 0 = w }

pub settles-own : (ks : List Country) → OwnLast ks → (x : OwnerChange) → settles (all_switches (map with_own ks)) x ≡ settles (all_switches ks) x
unfolding settles all_switches
settles-own ks own x =
    let asked : CountrySwitch → Bool = λ s. same_tag s.from x.to && not_after x.date s.date in
    let all = join_of own_switches (map with_own ks) in
    let kept = keep asked all in
    let total : (a b : CountrySwitch) → by_dates a b ≡ false → by_dates b a ≡ true = λ a b. leb-total a.date.0 b.date.0 in
    let trans : (a b c : CountrySwitch) → by_dates a b ≡ true → by_dates b c ≡ true → by_dates a c ≡ true =
    λ a b c. leb-trans a.date.0 b.date.0 c.date.0 in
    let ours : keep early kept ≡ keep asked (join_of own_switches ks) =
    sym (keep-both asked early all) ∙ keep-either asked early all ∙ ap (keep asked) (early-ones ks own.dates) in
    let theirs : All (λ s. s.country ≡ x.to) (sort_by by_dates (keep (λ s. not (early s)) kept)) =
    all-sort by_dates (λ s. s.country ≡ x.to) (keep (λ s. not (early s)) kept)
    (to-own kept (all-kept asked all) (all_keep Own asked all (others-own ks own.dates))) in
    ap (λ (l : List CountrySwitch). first_or x.to (map (λ s. s.country) l))
    (keep-sort by_dates total trans asked all
    ∙ split-sort by_dates early
    (λ a b f g. let l = ltb-true a.date.0 last_date f in let m = ltb-false b.date.0 last_date g in le-leb a.date.0 b.date.0 (omega arith))
    (λ a b f g. let l = ltb-false a.date.0 last_date f in let m = ltb-true b.date.0 last_date g in lt-leb a.date.0 b.date.0 (omega arith))
    kept)
    ∙ first-behind x.to (sort_by by_dates (keep early kept)) (sort_by by_dates (keep (λ s. not (early s)) kept)) theirs
    ∙ ap (λ (l : List CountrySwitch). first_or x.to (map (λ s. s.country) l))
    (ap (sort_by by_dates) ours ∙ sym (keep-sort by_dates total trans asked (join_of own_switches ks)))
  where
    to-own : (l : List CountrySwitch) → All (λ s. same_tag s.from x.to && not_after x.date s.date ≡ true) l → All Own l
        → All (λ s. s.country ≡ x.to) (keep (λ s. not (early s)) l)
    to-own [] a b = tt
    to-own (s ∷ l) a b =
        cases (early s)
        (λ e. simp e (to-own l a.1 b.1))
        (λ e. let from = eqb-true s.from.0 x.to.0 (both (same_tag s.from x.to) (not_after x.date s.date) a.0).0 in
        simp e (b.0 e ∙ ap word_tag from, to-own l a.1 b.1))

-- ## A tag that no row is found for

module _ (to : CountryTag) (date : Eu4Date) (few : date.0 < key_dates) where
  none-own : (row k : ℕ) (ks : List Country) → keep (switch_asked to date few) (all_placed row k (map with_own ks)) ≡ []
      → places_of to.0 row (words_of_tags ks) ≡ []
  unfolding all_placed places_of
  none-own row k [] e = refl
  none-own row k (x ∷ ks) e =
      let asked = switch_asked to date few in
      let next = k + length (x.switches ++ (own_switch x ∷ [])) in
      let own = own_placed row k x.switches in
      let last = placed row (k + length x.switches) (own_switch x) in
      let others = all_placed (suc row) next (map with_own ks) in
      let split : keep asked (own_placed row k (x.switches ++ (own_switch x ∷ []))) ++ keep asked others ≡ [] =
      sym (keep_append asked (own_placed row k (x.switches ++ (own_switch x ∷ []))) others) ∙ e in
      let ends = neither (keep asked (own_placed row k (x.switches ++ (own_switch x ∷ [])))) (keep asked others) split in
      let mine : keep asked own ++ keep asked (last ∷ []) ≡ [] =
      sym (keep_append asked own (last ∷ [])) ∙ ap (keep asked) (sym (own-append row k x.switches (own_switch x))) ∙ ends.0 in
      let alone = (neither (keep asked own) (keep asked (last ∷ [])) mine).1 in
      cases (eqb x.tag.0 to.0)
      (λ g. let late : leb date.0 last_date ≡ true = le-leb date.0 last_date (omega arith) in
      absurd (some-kept last (simp (g, late) at alone)))
      (λ g. simp g (none-own (suc row) next ks ends.1))
    where
      neither : (a b : List PlacedSwitch) → a ++ b ≡ [] → (a ≡ []) × (b ≡ [])
      neither [] b h = (refl, h)
      neither (y ∷ a) b h = absurd (let l = ap length h in omega arith)

      some-kept : (p : PlacedSwitch) → p ∷ [] ≡ [] → ⊥
      some-kept p h = let l = ap length h in omega arith

-- ## What the keys find

-- The row of the country that holds the slot after a change, by the keys that changes settle by; the holder is the country in that row, or
-- where there is none the change's `to`.
pub record RowHolds (keys : List ℕ) (to : CountryTag) (date : Eu4Date) : Type 0 where
  pub holds : (ks : List Country) (x : OwnerChange) → Keyed ks → OwnLast ks → twice (words_of_tags ks) ≡ false → keys ≡ settling_keys ks
      → x.to ≡ to → x.date ≡ date → date.0 < key_dates → row_number (settling_row keys to date) ≡ row_of ks (settles (all_switches ks) x)
  pub holder : (ks : List Country) (x : OwnerChange) → Keyed ks → OwnLast ks → twice (words_of_tags ks) ≡ false → keys ≡ settling_keys ks
      → x.to ≡ to → x.date ≡ date → date.0 < key_dates → settles (all_switches ks) x ≡ or_tag x.to (tag_at_row ks (row_number (settling_row keys to date)))

module _ (keys : List ℕ) (to : CountryTag) (date : Eu4Date) where
  abbrev row : ℕ
  row = row_number (settling_row keys to date)

  told : (ks : List Country) (x : OwnerChange) → Keyed ks → OwnLast ks → keys ≡ settling_keys ks → x.to ≡ to → x.date ≡ date → date.0 < key_dates
      → Settled (map with_own ks) x row
  told ks x keyed own q t d few =
      let early : x.date.0 < key_dates = rw d few in
      let same : row ≡ settled_row (map with_own ks) x.to x.date = rw (q, t, d) refl in
      rw same (settled-row (map with_own ks) (keyed-own ks keyed own) x early)

  holder : (ks : List Country) (x : OwnerChange) → Keyed ks → OwnLast ks → twice (words_of_tags ks) ≡ false → keys ≡ settling_keys ks
      → x.to ≡ to → x.date ≡ date → date.0 < key_dates → settles (all_switches ks) x ≡ or_tag x.to (tag_at_row ks row)
  holder ks x keyed own once q t d few =
      sym (settles-own ks own x) ∙ (told ks x keyed own q t d few).holder ∙ ap (or_tag x.to) (own-tags ks row)

  -- the country of a switch, or the own one
  one-there : (ks : List Country) (x : OwnerChange) → Keyed ks → OwnLast ks → twice (words_of_tags ks) ≡ false → keys ≡ settling_keys ks
      → x.to ≡ to → x.date ≡ date → date.0 < key_dates → (row ≡ no_row → ⊥) → row ≡ row_of ks (settles (all_switches ks) x)
  one-there ks x keyed own once q t d few there =
      let inside = (told ks x keyed own q t d few).inside there in
      let k = at-inside ks row (omega (arith, length-map ks with_own)) in
      let whom : settles (all_switches ks) x ≡ k.0.tag =
      holder ks x keyed own once q t d few ∙ ap (λ (o : Option Country). or_tag x.to (Option.map (λ y. y.tag) o)) k.1 in
      sym (ap (row_of ks) whom ∙ row-single ks keyed.few once row k.0 k.1)

  none-there : (ks : List Country) (x : OwnerChange) → Keyed ks → OwnLast ks → twice (words_of_tags ks) ≡ false → keys ≡ settling_keys ks
      → x.to ≡ to → x.date ≡ date → date.0 < key_dates → row ≡ no_row → row ≡ row_of ks (settles (all_switches ks) x)
  none-there ks x keyed own once q t d few gone =
      let found : settled_row (map with_own ks) to date ≡ row = rw q refl in
      let places = none-own to date few 0 0 ks (none-asked to date few (map with_own ks) (keyed-own ks keyed own) (found ∙ gone)) in
      let nobody : get_elem? ks row ≡ none = at-end ks row (let l = keyed.few in omega arith) in
      let whom : settles (all_switches ks) x ≡ to =
      holder ks x keyed own once q t d few ∙ ap (λ (o : Option Country). or_tag x.to (Option.map (λ y. y.tag) o)) nobody ∙ t in
      gone ∙ sym (ap (row_of ks) whom ∙ ap (first_or no_row) places)

  pub row-holds : RowHolds keys to date
  row-holds =
      record {
        holds = λ ks x keyed own once q t d few.
            cases (eqb row no_row)
            (λ g. none-there ks x keyed own once q t d few (eqb-true row no_row g))
            (λ g. one-there ks x keyed own once q t d few (eqb-false row no_row g));
        holder = holder;
      }
