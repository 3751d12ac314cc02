-- The keys of the initials, in order, stand for the countries in the order of their initials, and a key is that of its initial's last
-- row exactly if its country is mapped. So the listed nations are joined from the keys, one by one.
use mathlib.Core.Path.{◌≡◌, refl, sym, ap, ◌∙◌}
use mathlib.Core.Bool.{Bool, false, cond, ◌&&◌}
use mathlib.Core.List.{List, [], ◌∷◌, map}
use mathlib.Core.Option
use mathlib.Core.Option.{Option, none, some, none-ne-some}
use Prim.Native.Nat.{ℕ, suc, ◌+◌, ◌*◌, ◌/◌, ◌%◌, ◌≤◌, ◌<◌}
use native.Mathlib.Omega.{arith}
use borrow.Author.Tests.{leb-true, leb-false, le-leb, lt-leb, ne_eqb}
use lib.Dec.{eqb, leb}
use lib.IntN.{pos}
use lib.ListN.{length, get_or, get_elem?, drop, length-map}
use Rattle.lists.specs.Lists.{All, keep, join_of, last_or, twice}
use Rattle.lists.proofs.BoolLaws.{cases}
use Rattle.lists.proofs.ElementLaws.{at_drop, keep-map, at-get_or, kept-join}
use Rattle.lists.proofs.ListLaws.{all_map, all_both, map-then}
use Rattle.sorting.specs.Sort.{sort_by}
use Rattle.sorting.proofs.SortLaws.{Agrees, all-sort, keep-sort, map-sort, leb-total, leb-trans}
use Rattle.format.specs.Campaign.{Campaign, Country}
use Rattle.rules.specs.Nations.{initial_of, matches, is_mapped, nation_of, held_ever, listed_countries, nations_of}
use Rattle.nation_tables.specs.Layout.{key_rows, row_number}
use Rattle.nation_tables.specs.Lookup.{no_row, row_in, last_within}
use Rattle.nation_tables.specs.Countries.{tag_at_row, words_of_tags, initial_words, places_of, mapped_row, word_keys, row_keys}
use Rattle.nation_tables.proofs.tables.MappedLaws.{places-within, mapped-row, row-single, row_same}
use Rattle.nation_tables.proofs.tables.LookupLaws.{last-number}
use Rattle.nation_tables.proofs.slots.TurningLaws.{eqb-sym}
use Rattle.nations.specs.ListedNations.{is_row}

-- ## The country of a key

-- What stands for a row that there is not.
abbrev pub no_country : Country
no_country =
    record {
      tag = record { 0 = 0 };
      human = false;
      was_player = false;
      has_switched_nation = false;
      cities = pos 0;
      previous = [];
      switches = [];
    }

-- The country in the row of a key.
abbrev pub country_in : List Country → ℕ → Country
country_in ks key = get_or ks (row_in key) no_country

-- A key of an initial: its row is a country's, and above the row stands that country's initial.
pub record InitialKey (ks : List Country) (key : ℕ) : Type 0 where
  pub there : get_elem? ks (row_in key) ≡ some (country_in ks key)
  pub initial : key / key_rows ≡ (initial_of (country_in ks key)).0

module _ (all : List Country) where
  -- The key of the country that stands in a row tells the row and the country.
  module _ (row : ℕ) (k : Country) (small : row < key_rows) (there : get_elem? all row ≡ some k) where
    key_row : (w : ℕ) → row_in (w * key_rows + row) ≡ row
    key_row w = omega arith

    key-country : (w : ℕ) → country_in all (w * key_rows + row) ≡ k
    key-country w = ap (λ (r : ℕ). get_or all r no_country) (key_row w) ∙ at-get_or all row k no_country there

    key-is : InitialKey all ((initial_of k).0 * key_rows + row)
    key-is =
        let w : ℕ = (initial_of k).0 in
        let high : (w * key_rows + row) / key_rows ≡ w = omega arith in
        record {
          there = ap (get_elem? all) (key_row w) ∙ there ∙ ap some (sym (key-country w));
          initial = high ∙ ap (λ (x : Country). (initial_of x).0) (sym (key-country w));
        }

  -- Each key of the countries from a row on is one.
  keys-are : (row : ℕ) (ks : List Country) → drop row all ≡ ks → row + length ks ≤ key_rows → All (InitialKey all) (word_keys row (initial_words ks))
  unfolding word_keys
  keys-are row [] e h = tt
  keys-are row (k ∷ ks) e h =
      let d = at_drop all row k ks e in
      (key-is row k (omega arith) d.0, keys-are (suc row) ks d.1 (omega arith))

  -- Their countries are these.
  keys-back : (row : ℕ) (ks : List Country) → drop row all ≡ ks → row + length ks ≤ key_rows
      → map (country_in all) (word_keys row (initial_words ks)) ≡ ks
  unfolding word_keys
  keys-back row [] e h = refl
  keys-back row (k ∷ ks) e h =
      let d = at_drop all row k ks e in
      let here : country_in all ((initial_of k).0 * key_rows + row) ≡ k = key-country row k (omega arith) d.0 (initial_of k).0 in
      rw (here, keys-back (suc row) ks d.1 (omega arith))

-- ## The order of the keys

-- The order of the listed countries.
abbrev pub by_initial : Country → Country → Bool
by_initial a b = leb (initial_of a).0 (initial_of b).0

-- Keys of words from a row on have rows from there on.
rows-from : (row : ℕ) (ws : List ℕ) → row + length ws ≤ key_rows → All (λ j. row ≤ row_in j) (word_keys row ws)
unfolding word_keys
rows-from row [] h = tt
rows-from row (w ∷ ws) h =
    let here : row ≤ (w * key_rows + row) % key_rows = omega arith in
    (here, all_map (λ j l. omega arith) (word_keys (suc row) ws) (rows-from (suc row) ws (omega arith)))

-- A key compares with one of a later row as what stands above the rows does.
high-agree : (a b : ℕ) → a % key_rows ≤ b % key_rows → leb a b ≡ leb (a / key_rows) (b / key_rows)
high-agree a b h =
    cases (leb (a / key_rows) (b / key_rows))
    (λ g. let l = leb-true (a / key_rows) (b / key_rows) g in le-leb a b (omega arith) ∙ sym g)
    (λ g. let l = leb-false (a / key_rows) (b / key_rows) g in lt-leb a b (omega arith) ∙ sym g)

module _ (all : List Country) where
  -- Each key compares with the later ones as the countries do by their initials.
  agreeing : (row : ℕ) (ks : List Country) → drop row all ≡ ks → row + length ks ≤ key_rows
      → Agrees leb by_initial (country_in all) (word_keys row (initial_words ks))
  unfolding word_keys
  agreeing row [] e h = tt
  agreeing row (k ∷ ks) e h =
      let d = at_drop all row k ks e in
      let key : ℕ = (initial_of k).0 * key_rows + row in
      let q : InitialKey all key = key-is all row k (omega arith) d.0 in
      let low : key % key_rows ≡ row = key_row all row k (omega arith) d.0 (initial_of k).0 in
      let later : List ℕ = word_keys (suc row) (initial_words ks) in
      let long : suc row + length (initial_words ks) ≤ key_rows = omega (arith, length-map ks (λ x. (initial_of x).0)) in (
        all_map {Q = λ j. leb key j ≡ by_initial (country_in all key) (country_in all j)}
            (λ j g. let r : suc row ≤ j % key_rows = g.1 in
            high-agree key j (omega arith)
            ∙ ap (λ (w : ℕ). leb w (j / key_rows)) q.initial
            ∙ ap (leb (initial_of (country_in all key)).0) g.0.initial)
            later
            (all_both (InitialKey all) (λ j. suc row ≤ row_in j) later
            (keys-are all (suc row) ks d.1 (omega arith)) (rows-from (suc row) (initial_words ks) long)),
        agreeing (suc row) ks d.1 (omega arith),
      )

module _ (ks : List Country) (few : length ks ≤ key_rows) where
  -- Each of the keys is one.
  pub initial-keys : All (InitialKey ks) (row_keys (initial_words ks))
  initial-keys = all-sort leb (InitialKey ks) (word_keys 0 (initial_words ks)) (keys-are ks 0 ks refl (omega arith))

  -- In their order they stand for the countries by initial, ties in row order.
  pub keys-by-initial : map (country_in ks) (row_keys (initial_words ks)) ≡ sort_by by_initial ks
  keys-by-initial =
      map-sort leb by_initial (country_in ks) (word_keys 0 (initial_words ks)) (agreeing ks 0 ks refl (omega arith))
      ∙ ap (sort_by by_initial) (keys-back ks 0 ks refl (omega arith))

-- ## Mapped countries

-- A row is found if the number of what is found is its own.
is-row : (o : Option ℕ) (row : ℕ) → row < key_rows → is_row o row ≡ eqb (row_number o) row
is-row none row h = sym (ne_eqb no_row row (λ e. omega arith))
is-row (some found) row h = refl

module _ (ks : List Country) (few : length ks ≤ key_rows) (once : twice (words_of_tags ks) ≡ false) where
  -- A row is a country's row if the row's tag is the country's.
  pub place_is : (i : ℕ) (k : Country) → get_elem? ks i ≡ some k → (m : ℕ) → eqb m i ≡ matches k.tag (tag_at_row ks m)
  place_is i k there m = go (get_elem? ks m) refl
    where
      go : (o : Option Country) → get_elem? ks m ≡ o → eqb m i ≡ matches k.tag (Option.map (λ x. x.tag) o)
      go none e = ne_eqb m i (λ g. none-ne-some k (sym e ∙ ap (get_elem? ks) g ∙ there))
      go (some x) e =
          eqb-sym m i ∙ ap (λ (r : ℕ). eqb r m) (sym (row-single ks few once i k there)) ∙ row_same ks few once m x e k.tag

  -- The key is that of its initial's last row if its country is mapped.
  pub mapped-key : (key : ℕ) → InitialKey ks key
      → is_row (last_within (key / key_rows * key_rows) (key / key_rows * key_rows + key_rows) (row_keys (initial_words ks))) (row_in key) ≡ is_mapped ks (country_in ks key)
  mapped-key key q =
      let k : Country = country_in ks key in
      let found = last_within (key / key_rows * key_rows) (key / key_rows * key_rows + key_rows) (row_keys (initial_words ks)) in
      let last_row : row_number found ≡ mapped_row ks (initial_of k) =
      last-number _ _ _
      ∙ ap (last_or no_row) (places-within (key / key_rows) (initial_words ks) (omega (arith, length-map ks (λ x. (initial_of x).0))))
      ∙ ap (λ (w : ℕ). last_or no_row (places_of w 0 (initial_words ks))) q.initial in
      is-row found (row_in key) (omega arith)
      ∙ ap (λ (r : ℕ). eqb r (row_in key)) last_row
      ∙ place_is (row_in key) k q.there (mapped_row ks (initial_of k))
      ∙ ap (matches k.tag) (sym (mapped-row ks few (initial_of k)))

-- ## The listed nations, key by key

-- A country is listed.
abbrev pub listed : Campaign → Country → Bool
listed c k = is_mapped c.countries k && held_ever c k

-- Each key of a listed country gives its nation, any other none.
pub nations-by-key : (c : Campaign) → length c.countries ≤ key_rows
    → nations_of c
    ≡ join_of (λ key. cond (listed c (country_in c.countries key)) (nation_of c (country_in c.countries key) ∷ []) [])
    (row_keys (initial_words c.countries))
unfolding nations_of listed_countries
nations-by-key c few =
    let ks : List Country = c.countries in
    let keys : List ℕ = row_keys (initial_words ks) in
    let kept : listed_countries c ≡ map (country_in ks) (keep (λ key. listed c (country_in ks key)) keys) =
    sym
    (keep-sort by_initial (λ a b. leb-total (initial_of a).0 (initial_of b).0) (λ a b d. leb-trans (initial_of a).0 (initial_of b).0 (initial_of d).0)
    (listed c) ks)
    ∙ ap (keep (listed c)) (sym (keys-by-initial ks few))
    ∙ keep-map (listed c) (country_in ks) keys in
    ap (map (nation_of c)) kept
    ∙ map-then (country_in ks) (nation_of c) (keep (λ key. listed c (country_in ks key)) keys)
    ∙ kept-join (λ key. listed c (country_in ks key)) (λ key. nation_of c (country_in ks key)) keys
