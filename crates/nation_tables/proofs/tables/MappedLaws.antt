-- The keys of words that lie between those of one word are its places in row order; the last of an initial's is the country that it maps to.
use mathlib.Core.Path.{◌≡◌, refl, sym, ap, ◌∙◌}
use mathlib.Core.Bool.{Bool, true, false}
use mathlib.Core.List.{List, [], ◌∷◌, map}
use mathlib.Core.Option
use mathlib.Core.Option.{Option, none, some, none-ne-some, some-injective}
use Prim.Native.Nat.{ℕ, zero, suc, ◌+◌, ◌*◌, ◌≤◌, ◌<◌}
use native.Mathlib.Omega.{arith}
use borrow.Author.Tests.{eqb-true, eq-eqb, ne_eqb, le-leb}
use lib.Dec.{eqb, leb}
use lib.ListN.{length, get_elem?, drop, length-map}
use Rattle.lists.specs.Lists.{keep, any_of, twice, first_or, last_or, last}
use Rattle.lists.proofs.BoolLaws.{cases, clash, neither}
use Rattle.lists.proofs.ElementLaws.{first-map, last-map, last_some, last_has, at_drop, at-end}
use Rattle.lists.proofs.ListLaws.{all-at, all_map, any_none, map_at}
use Rattle.lists.specs.Lists.{All}
use Rattle.sorting.proofs.SortLaws.{Ordered, all-kept, keep-sort, sort-ordered, leb-total, leb-trans}
use Rattle.format.specs.declared.tag.CountryTag.{CountryTag}
use Rattle.format.specs.Tags.{same_tag}
use Rattle.format.specs.Campaign.{Country}
use Rattle.rules.specs.Nations.{initial_of, maps_to}
use Rattle.nation_tables.specs.Layout.{key_rows}
use Rattle.nation_tables.specs.Lookup.{no_row, row_in, in_range, rows_between}
use Rattle.nation_tables.proofs.tables.LookupLaws.{last-number, begins-with}
use Rattle.nation_tables.specs.Countries.{tag_at_row, words_of_tags, initial_words, places_of, row_of, mapped_row, word_keys, row_keys, initial_number}

-- ## The keys between those of one word

module _ (word : ℕ) where
  abbrev own : ℕ → Bool
  own = in_range (word * key_rows) (word * key_rows + key_rows)

  own_key : (w row : ℕ) → row < key_rows → own (w * key_rows + row) ≡ eqb w word
  own_key w row h = begins-with key_rows w row word h

  own_row : (w row : ℕ) → row < key_rows → row_in (w * key_rows + row) ≡ row
  own_row w row h = omega arith

  own-places : (row : ℕ) (ws : List ℕ) → row + length ws ≤ key_rows → map row_in (keep own (word_keys row ws)) ≡ places_of word row ws
  unfolding word_keys places_of
  own-places row [] h = refl
  own-places row (w ∷ ws) h =
      let k = own_key w row (omega arith) in
      let r = own_row w row (omega arith) in
      cases (eqb w word)
      (λ g. simp (k, g, r) (ap (λ (l : List ℕ). row ∷ l) (own-places (suc row) ws (omega arith))))
      (λ g. simp (k, g) (own-places (suc row) ws (omega arith)))

  own-from : (row : ℕ) (ws : List ℕ) → row + length ws ≤ key_rows → All (λ k. word * key_rows + row ≤ k) (keep own (word_keys row ws))
  unfolding word_keys
  own-from row [] h = tt
  own-from row (w ∷ ws) h =
      let k = own_key w row (omega arith) in
      let rest : All (λ j. word * key_rows + row ≤ j) (keep own (word_keys (suc row) ws)) =
      all_map (λ j l. omega arith) (keep own (word_keys (suc row) ws)) (own-from (suc row) ws (omega arith)) in
      cases (eqb w word)
      (λ g. let e = eqb-true w word g in simp (k, g) (omega arith, rest))
      (λ g. simp (k, g) rest)

  word-keys-order : (row : ℕ) (ws : List ℕ) → row + length ws ≤ key_rows → Ordered leb (keep own (word_keys row ws))
  unfolding word_keys
  word-keys-order row [] h = tt
  word-keys-order row (w ∷ ws) h =
      let k = own_key w row (omega arith) in
      let rest = word-keys-order (suc row) ws (omega arith) in
      cases (eqb w word)
      (λ g. let e = eqb-true w word g in
      simp (k, g) (all_map (λ j l. le-leb (w * key_rows + row) j (omega arith)) (keep own (word_keys (suc row) ws)) (own-from (suc row) ws (omega arith)), rest))
      (λ g. simp (k, g) rest)

  pub places-within : (ws : List ℕ) → length ws ≤ key_rows → rows_between (word * key_rows) (word * key_rows + key_rows) (row_keys ws) ≡ places_of word 0 ws
  places-within ws h =
      ap (map row_in)
      (keep-sort leb leb-total leb-trans own (word_keys 0 ws) ∙ sort-ordered leb (keep own (word_keys 0 ws)) (word-keys-order 0 ws (omega arith)))
      ∙ own-places 0 ws (omega arith)

-- ## Places and the countries that stand there

module _ (all : List Country) (word : Country → ℕ) (w : ℕ) where
  places-kept : (i : ℕ) (ks : List Country) → drop i all ≡ ks
      → map (get_elem? all) (places_of w i (map word ks)) ≡ map some (keep (λ k. eqb (word k) w) ks)
  unfolding places_of
  places-kept i [] e = refl
  places-kept i (k ∷ ks) e =
      let d = at_drop all i k ks e in
      let rest = places-kept (suc i) ks d.1 in
      cases (eqb (word k) w) (λ g. simp (g, d.0, rest)) (λ g. simp (g, rest))

  places-inside : (i : ℕ) (ws : List ℕ) → All (λ p. p < i + length ws) (places_of w i ws)
  unfolding places_of
  places-inside i [] = tt
  places-inside i (x ∷ ws) =
      let rest : All (λ p. p < i + suc (length ws)) (places_of w (suc i) ws) =
      all_map (λ p l. omega arith) (places_of w (suc i) ws) (places-inside (suc i) ws) in
      cases (eqb x w) (λ g. simp g (omega arith, rest)) (λ g. simp g rest)

-- ## The country that an initial maps to

module _ (ks : List Country) (few : length ks ≤ key_rows) (t : CountryTag) where
  nobody : get_elem? ks no_row ≡ none
  nobody = at-end ks no_row (omega arith)

  pub mapped-row : maps_to ks t ≡ tag_at_row ks (mapped_row ks t)
  unfolding maps_to
  mapped-row =
      let places = places_of t.0 0 (initial_words ks) in
      let there : get_elem? ks (mapped_row ks t) ≡ last (keep (λ k. same_tag (initial_of k) t) ks) =
      last-map (get_elem? ks) no_row places
      ∙ ap (λ (d : Option Country). last_or d (map (get_elem? ks) places)) nobody
      ∙ ap (last_or none) (places-kept ks (λ k. (initial_of k).0) t.0 0 ks refl)
      ∙ last_some (keep (λ k. same_tag (initial_of k) t) ks) in
      ap (Option.map (λ k. k.tag)) (sym there)

  pub mapped-inside : (mapped_row ks t ≡ no_row → ⊥) → mapped_row ks t < length ks
  mapped-inside h =
      let q = last_has (λ p. p < 0 + length (initial_words ks)) no_row (places_of t.0 0 (initial_words ks)) (places-inside ks (λ k. (initial_of k).0) t.0 0 (initial_words ks)) h in
      omega (arith, q, length-map ks (λ k. (initial_of k).0))

  -- the country in the row of a tag has that tag
  pub row_has : (row : ℕ) → row_of ks t ≡ row → (k : Country) → get_elem? ks row ≡ some k → k.tag.0 ≡ t.0
  row_has row e k h =
      let kept = keep (λ x. same_tag x.tag t) ks in
      let there : get_elem? ks row ≡ first_or none (map some kept) =
      ap (get_elem? ks) (sym e)
      ∙ first-map (get_elem? ks) no_row (places_of t.0 0 (words_of_tags ks))
      ∙ ap (λ (d : Option Country). first_or d (map (get_elem? ks) (places_of t.0 0 (words_of_tags ks)))) nobody
      ∙ ap (first_or none) (places-kept ks (λ x. x.tag.0) t.0 0 ks refl) in
      kept-has kept (all-kept (λ x. same_tag x.tag t) ks) (sym there ∙ h)
    where
      kept-has : (xs : List Country) → All (λ x. same_tag x.tag t ≡ true) xs → first_or none (map some xs) ≡ some k → k.tag.0 ≡ t.0
      kept-has [] q f = absurd (none-ne-some k f)
      kept-has (x ∷ xs) q f = rw (some-injective x k f) at (eqb-true x.tag.0 t.0 q.0)

-- ## The country with a tag, where no tag stands twice

first-place : (w : ℕ) (ws : List ℕ) (j i d : ℕ) → twice ws ≡ false → get_elem? ws i ≡ some w → first_or d (places_of w j ws) ≡ j + i
unfolding places_of
first-place w [] j i d o h = absurd (none-ne-some w h)
first-place w (x ∷ ws) j zero d o h = simp (eq-eqb x w (some-injective x w h)) (omega arith)
first-place w (x ∷ ws) j (suc i) d o h =
    let once = neither (any_of (eqb x) ws) (twice ws) o in
    let sum : suc j + i ≡ j + suc i = omega arith in
    cases (eqb x w)
    (λ g. let there = h ∙ ap some (sym (eqb-true x w g)) in
    clash (eqb x x) (eq-eqb x x refl) (all-at (λ y. eqb x y ≡ false) ws i x there (any_none (eqb x) ws once.0)))
    (λ g. simp g (first-place w ws (suc j) i d once.1 h ∙ sum))

module _ (ks : List Country) (few : length ks ≤ key_rows) (once : twice (words_of_tags ks) ≡ false) (i : ℕ) (k : Country) (there : get_elem? ks i ≡ some k) where
  pub row-single : row_of ks k.tag ≡ i
  row-single =
      let sum : 0 + i ≡ i = omega arith in
      first-place k.tag.0 (words_of_tags ks) 0 i no_row once (map_at (λ x. x.tag.0) ks i ∙ ap (Option.map (λ x. x.tag.0)) there) ∙ sum

  pub row_same : (t : CountryTag) → eqb (row_of ks t) i ≡ same_tag k.tag t
  row_same t =
      cases (same_tag k.tag t)
      (λ g. let e : row_of ks t ≡ i =
      ap (λ (w : ℕ). first_or no_row (places_of w 0 (words_of_tags ks))) (sym (eqb-true k.tag.0 t.0 g)) ∙ row-single in
      eq-eqb (row_of ks t) i e ∙ sym g)
      (λ g. ne_eqb (row_of ks t) i (λ e. clash (same_tag k.tag t) (eq-eqb k.tag.0 t.0 (row_has ks few t i e k there)) g) ∙ sym g)

-- ## What the keys find

-- The row of the country that an initial maps to, by keys, as it stands in a cell: of any countries whose initials the keys are.
pub record InitialMapped (keys : List ℕ) (t : CountryTag) : Type 0 where
  pub holder : (ks : List Country) → length ks ≤ key_rows → keys ≡ row_keys (initial_words ks) → maps_to ks t ≡ tag_at_row ks (initial_number keys t)
  pub inside : (ks : List Country) → length ks ≤ key_rows → keys ≡ row_keys (initial_words ks)
      → (initial_number keys t ≡ no_row → ⊥) → initial_number keys t < length ks

pub initial-mapped : (keys : List ℕ) (t : CountryTag) → InitialMapped keys t
initial-mapped keys t =
    record {
      holder = λ ks few q. mapped-row ks few t ∙ ap (tag_at_row ks) (sym (mapped ks few q));
      inside = λ ks few q h. rw (mapped ks few q) (mapped-inside ks few t (λ g. h (mapped ks few q ∙ g)));
    }
  where
    mapped : (ks : List Country) → length ks ≤ key_rows → keys ≡ row_keys (initial_words ks) → initial_number keys t ≡ mapped_row ks t
    mapped ks few q =
        last-number (t.0 * key_rows) (t.0 * key_rows + key_rows) keys
        ∙ rw q (ap (last_or no_row) (places-within t.0 (initial_words ks) (omega (arith, length-map ks (λ k. (initial_of k).0)))))
