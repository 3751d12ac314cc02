-- Among keys of switches in order, those from a tag and a date on and below the next tag are the switches from that tag not dated before the
-- date, by date, ties in row order: so the first of them is the one that a change settles by.
use mathlib.Core.Path.{◌≡◌, refl, sym, ap, ap₂, ◌∙◌}
use mathlib.Core.Bool.{Bool, true, ◌&&◌}
use mathlib.Core.List.{List, [], ◌∷◌, ◌++◌, map}
use mathlib.Core.Option
use mathlib.Core.Option.{Option}
use Prim.Native.Nat.{ℕ, suc, ◌+◌, ◌≤◌, ◌<◌}
use native.Mathlib.Omega.{arith}
use borrow.Author.Tests.{eqb-true, eqb-false, leb-true, leb-false, lt-ltb, le-ltb, le-leb, lt-leb}
use lib.Dec.{eqb, leb}
use lib.ListN.{length, drop}
use Rattle.lists.specs.Lists.{All, keep, join_of, first_or}
use Rattle.lists.proofs.BoolLaws.{cases, both}
use Rattle.lists.proofs.ElementLaws.{first-map, first-has, at_drop, at-end, keep-map, map_same, keep_same, order-keep}
use Rattle.lists.proofs.ListLaws.{all_both, all_map, all_keep, all_of_map, map-append, map-then}
use Rattle.sorting.specs.Sort.{sort_by}
use Rattle.sorting.proofs.SortedKeyLaws.{agrees-always}
use Rattle.sorting.proofs.SortLaws.{length-sort, all-sort, all-kept, keep-sort, map-sort, leb-total, leb-trans}
use Rattle.format.specs.declared.tag.CountryTag.{CountryTag}
use Rattle.format.specs.declared.date.Eu4Date.{Eu4Date}
use Rattle.format.specs.declared.rows.Switch.{Switch}
use Rattle.format.specs.Tags.{same_tag}
use Rattle.format.specs.Dates.{not_after}
use Rattle.format.specs.Campaign.{Country}
use Rattle.format.specs.declared.values.OwnerChange.{OwnerChange}
use Rattle.rules.specs.Nations.{CountrySwitch, own_switches, all_switches, settles}
use Rattle.nation_tables.specs.Layout.{key_rows, key_dates}
use Rattle.nation_tables.specs.Keys.{row_in, settling_key}
use Rattle.nation_tables.specs.Lookup.{no_row, in_range}
use Rattle.nation_tables.proofs.tables.LookupLaws.{first-number}
use Rattle.nation_tables.specs.Countries.{tag_at_row, switch_keys_from, switch_keys, small_switch, Keyed}
use Rattle.nation_tables.specs.Settling.{or_tag, settled_row, Settled}
use Rattle.nation_tables.specs.Switches.{PlacedSwitch, own_placed, all_placed, from_key}
use Rattle.sorting.proofs.AgreeLaws.{agrees-in-order}
use Rattle.nation_tables.proofs.tables.PlacedLaws.{placed_by_date, small-date, switches-small, placed-all, rows-rise, from-keys}

-- ## The switches and the countries that made them

module _ (all : List Country) (d : CountryTag) where
  abbrev with_country : PlacedSwitch → CountrySwitch
  with_country p = record { date = p.made.date; from = p.made.from; country = or_tag d (tag_at_row all p.row) }

  own-countries : (row k : ℕ) (t : CountryTag) (ss : List Switch) → or_tag d (tag_at_row all row) ≡ t
      → map (λ s. record { date = s.date; from = s.from; country = t }) ss ≡ map with_country (own_placed row k ss)
  unfolding own_placed
  own-countries row k t [] e = refl
  own-countries row k t (x ∷ ss) e = simp (e, own-countries row (suc k) t ss e)

  row-countries : (row k : ℕ) (ks : List Country) → drop row all ≡ ks → join_of own_switches ks ≡ map with_country (all_placed row k ks)
  unfolding all_placed
  row-countries row k [] e = refl
  row-countries row k (x ∷ ks) e =
      let here = at_drop all row x ks e in
      let country : or_tag d (tag_at_row all row) ≡ x.tag = ap (λ (o : Option Country). or_tag d (Option.map (λ y. y.tag) o)) here.0 in
      ap₂ ◌++◌ (own-countries row k x.tag x.switches country) (row-countries (suc row) (k + length x.switches) ks here.1)
      ∙ sym (map-append with_country (own_placed row k x.switches) (all_placed (suc row) (k + length x.switches) ks))

-- The date has room in a key, and the row is below a bound.
abbrev Fit : ℕ → PlacedSwitch → Type 0
Fit bound p = (p.made.date.0 < key_dates) × (p.row < bound)

placed-fit : (bound : ℕ) (ks : List Country) → Keyed ks → length ks ≤ bound → All (Fit bound) (all_placed 0 0 ks)
placed-fit bound ks q h =
    placed-all (Fit bound) (λ x. small_switch x ≡ true) bound (length (all_placed 0 0 ks)) (λ row i x a b s. (small-date x s, a)) 0 0 ks
    (omega arith) (omega arith) (switches-small ks q)

-- ## The keys from a tag and a date on

module _ (to : CountryTag) (date : Eu4Date) (early : date.0 < key_dates) where
  abbrev low : ℕ
  low = settling_key to.0 date.0 0

  abbrev high : ℕ
  high = settling_key (to.0 + 1) 0 0

  abbrev pub switch_asked : PlacedSwitch → Bool
  switch_asked r = same_tag r.made.from to && not_after date r.made.date

  -- The test of the key is the test of the switch.
  in-range-asked : (r : PlacedSwitch) → Fit key_rows r → in_range low high (from_key r) ≡ switch_asked r
  in-range-asked r h =
      cases (eqb r.made.from.0 to.0)
      (λ g. let e = eqb-true r.made.from.0 to.0 g in
      cases (leb date.0 r.made.date.0)
      (λ a. let l = leb-true date.0 r.made.date.0 a in
      simp (g, a, le-leb low (from_key r) (omega arith), lt-ltb (from_key r) high (omega arith)))
      (λ a. let l = leb-false date.0 r.made.date.0 a in simp (g, a, lt-leb low (from_key r) (omega arith))))
      (λ g. let e = eqb-false r.made.from.0 to.0 g in
      cases (leb low (from_key r))
      (λ a. let l = leb-true low (from_key r) a in simp (g, a, le-ltb (from_key r) high (omega arith)))
      (λ a. simp (g, a)))

  -- Of two switches from the tag the keys compare as the dates, if the later one's row is not smaller.
  dates-agree : (a b : PlacedSwitch) → Fit key_rows a × (switch_asked a ≡ true) → Fit key_rows b × (switch_asked b ≡ true) → a.row ≤ b.row
      → placed_by_date a b ≡ leb (from_key a) (from_key b)
  dates-agree a b f g l =
      let d = eqb-true a.made.from.0 to.0 (both (same_tag a.made.from to) (not_after date a.made.date) f.1).0 in
      let e = eqb-true b.made.from.0 to.0 (both (same_tag b.made.from to) (not_after date b.made.date) g.1).0 in
      cases (leb a.made.date.0 b.made.date.0)
      (λ h. let m = leb-true a.made.date.0 b.made.date.0 h in h ∙ sym (le-leb (from_key a) (from_key b) (omega arith)))
      (λ h. let m = leb-false a.made.date.0 b.made.date.0 h in h ∙ sym (lt-leb (from_key a) (from_key b) (omega arith)))

  module _ (ks : List Country) (keyed : Keyed ks) where
    abbrev rows : List PlacedSwitch
    rows = all_placed 0 0 ks

    -- The switches from the tag, not dated before the date: in row order, and by date.
    abbrev fitting : List PlacedSwitch
    fitting = keep switch_asked rows

    abbrev first-ones : List PlacedSwitch
    first-ones = sort_by placed_by_date fitting

    fit : All (Fit key_rows) rows
    fit = placed-fit key_rows ks keyed keyed.few

    kept-keys : keep (in_range low high) (switch_keys_from 0 ks) ≡ map from_key fitting
    kept-keys =
        ap (keep (in_range low high)) (from-keys 0 0 ks)
        ∙ keep-map (in_range low high) from_key rows
        ∙ ap (map from_key) (keep_same (λ r. in_range low high (from_key r)) switch_asked rows (all_map (λ r h. in-range-asked r h) rows fit))

    sorted-keys : keep (in_range low high) (switch_keys ks) ≡ map from_key first-ones
    sorted-keys =
        keep-sort leb leb-total leb-trans (in_range low high) (switch_keys_from 0 ks)
        ∙ ap (sort_by leb) kept-keys
        ∙ sym (map-sort placed_by_date leb from_key fitting
        (agrees-in-order placed_by_date leb from_key (λ r. Fit key_rows r × (switch_asked r ≡ true)) (λ r. r.row) dates-agree fitting
        (order-keep (λ r. r.row) switch_asked rows (rows-rise 0 0 ks).1)
        (all_both (Fit key_rows) (λ r. switch_asked r ≡ true) fitting (all_keep (Fit key_rows) switch_asked rows fit) (all-kept switch_asked rows))))

    sorted-fit : All (Fit key_rows) first-ones
    sorted-fit = all-sort placed_by_date (Fit key_rows) fitting (all_keep (Fit key_rows) switch_asked rows fit)

    settled-first : settled_row ks to date ≡ first_or no_row (map (λ r. r.row) first-ones)
    settled-first =
        first-number low high (switch_keys ks)
        ∙ ap (λ (l : List ℕ). first_or no_row (map row_in l)) sorted-keys
        ∙ ap (first_or no_row)
        (map-then from_key row_in first-ones ∙ map_same (λ r. row_in (from_key r)) (λ r. r.row) first-ones (all_map (λ r h. omega arith) first-ones sorted-fit))

    -- Where no row is found there is no such switch.
    no-row : (l : List PlacedSwitch) → All (Fit key_rows) l → first_or no_row (map (λ r. r.row) l) ≡ no_row → l ≡ []
    no-row [] q h = refl
    no-row (r ∷ l) q h = let few = q.0.1 in absurd (omega arith)

    pub none-asked : settled_row ks to date ≡ no_row → keep switch_asked (all_placed 0 0 ks) ≡ []
    none-asked h =
        let none = no-row first-ones sorted-fit (sym settled-first ∙ h) in
        nothing fitting (sym (length-sort placed_by_date fitting) ∙ ap length none)
      where
        nothing : (l : List PlacedSwitch) → length l ≡ 0 → l ≡ []
        nothing [] e = refl
        nothing (r ∷ l) e = absurd (omega arith)

    -- The switches that the definition asks, in its order.
    asked-switches : keep (λ x. same_tag x.from to && not_after date x.date) (all_switches ks) ≡ map (with_country ks to) first-ones
    unfolding all_switches
    asked-switches =
        let earlier : CountrySwitch → CountrySwitch → Bool = λ a b. not_after a.date b.date in
        let test : CountrySwitch → Bool = λ x. same_tag x.from to && not_after date x.date in
        ap (λ (l : List CountrySwitch). keep test (sort_by earlier l)) (row-countries ks to 0 0 ks refl)
        ∙ ap (keep test) (sym (map-sort placed_by_date earlier (with_country ks to) rows (agrees-always placed_by_date earlier (with_country ks to) (λ a b. refl) rows)))
        ∙ keep-map test (with_country ks to) (sort_by placed_by_date rows)
        ∙ ap (map (with_country ks to)) (keep-sort placed_by_date (λ a b. leb-total a.made.date.0 b.made.date.0) (λ a b c. leb-trans a.made.date.0 b.made.date.0 c.made.date.0) switch_asked rows)

    first-country : first_or to (map (λ x. x.country) (keep (λ x. same_tag x.from to && not_after date x.date) (all_switches ks)))
        ≡ or_tag to (tag_at_row ks (settled_row ks to date))
    first-country =
        let tag : ℕ → CountryTag = λ n. or_tag to (tag_at_row ks n) in
        let nobody : tag no_row ≡ to =
        ap (λ (o : Option Country). or_tag to (Option.map (λ k. k.tag) o)) (at-end ks no_row (let l = keyed.few in omega arith)) in
        ap (λ (l : List CountrySwitch). first_or to (map (λ x. x.country) l)) asked-switches
        ∙ ap (first_or to) (map-then (with_country ks to) (λ x. x.country) first-ones ∙ sym (map-then (λ r. r.row) tag first-ones))
        ∙ ap (λ (t : CountryTag). first_or t (map tag (map (λ r. r.row) first-ones))) (sym nobody)
        ∙ sym (first-map tag no_row (map (λ r. r.row) first-ones))
        ∙ ap tag (sym settled-first)

    settled-inside : (settled_row ks to date ≡ no_row → ⊥) → settled_row ks to date < length ks
    settled-inside h =
        let inside : All (λ n. n < length ks) (map (λ r. r.row) first-ones) =
        all_of_map {P = Fit (length ks)} (λ n. n < length ks) (λ r. r.row) (λ r f. f.1) first-ones
        (all-sort placed_by_date (Fit (length ks)) fitting (all_keep (Fit (length ks)) switch_asked rows (placed-fit (length ks) ks keyed (omega arith)))) in
        rw settled-first (first-has (λ n. n < length ks) no_row (map (λ r. r.row) first-ones) inside (λ e. h (settled-first ∙ e)))

-- ## A change

module _ (ks : List Country) (keyed : Keyed ks) (x : OwnerChange) (early : x.date.0 < key_dates) where
  pub settled-row : Settled ks x (settled_row ks x.to x.date)
  unfolding settles
  settled-row =
      record { holder = first-country x.to x.date early ks keyed; inside = settled-inside x.to x.date early ks keyed }
