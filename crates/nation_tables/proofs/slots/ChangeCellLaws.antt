-- The cell of a change tells word and row of the tag that it settles to, so the sorted keys and the cells stand for the campaign's moves.
use mathlib.Core.Path.{◌≡◌, refl, sym, ap, ap₂, ◌∙◌}
use mathlib.Core.Bool.{false}
use mathlib.Core.List.{List, [], ◌∷◌, map}
use mathlib.Core.Option
use mathlib.Core.Option.{Option, some}
use Prim.Native.Nat.{ℕ, zero, suc, ◌+◌, ◌*◌, ◌/◌, ◌%◌, ◌≤◌, ◌<◌}
use native.Mathlib.Omega.{arith}
use borrow.Author.Tests.{ltb-true, ltb-false, eqb-true, eqb-false}
use lib.Dec.{leb, ltb, eqb}
use lib.ListN.{length, get_or, drop}
use lib.Seq.{drop-drop, get_or-drop}
use Rattle.lists.specs.Lists.{All, twice, first_or}
use Rattle.lists.proofs.BoolLaws.{cases}
use Rattle.lists.proofs.ElementLaws.{at-inside, at-end, map_same, same-each}
use Rattle.lists.proofs.ListLaws.{all_map, all_join, map-then}
use Rattle.sorting.specs.Sort.{sort_by}
use Rattle.sorting.proofs.SortedKeyLaws.{sort-again}
use Rattle.sorting.proofs.SortLaws.{all-sort}
use Rattle.format.specs.declared.tag.CountryTag.{CountryTag}
use Rattle.format.specs.Campaign.{Country, campaign_of}
use Rattle.format.specs.RecordNumber.{refusal}
use Rattle.format.proofs.BoundLaws.{small-provinces}
use Rattle.format.specs.declared.values.OwnerChange.{OwnerChange}
use Rattle.rules.specs.Changes.{province_changes, by_date_and_id}
use Rattle.rules.specs.Nations.{all_switches, settles, move_of}
use Rattle.rules.specs.NationRows.{holder_word}
use Rattle.owner_changes.specs.ChangeSteps.{entered, change_key, change_keys_from, tags_of, change_at, per_id, per_date}
use Rattle.nation_tables.specs.Layout.{key_rows, key_tags, cell_rows, row_number}
use Rattle.nation_tables.specs.Lookup.{no_row}
use Rattle.nation_tables.specs.Countries.{tag_at_row, country_tags, words_of_tags, places_of, row_of, Keyed}
use Rattle.nation_tables.specs.Settling.{or_tag, settling_row, settled_row}
use Rattle.nation_tables.specs.Turning.{first_at, holder_row}
use Rattle.nation_tables.specs.Holders.{Settler, Small, no_tag, slot_cell, holder_cell, Step, step_at, steps_of}
use Rattle.rules.proofs.CampaignLaws.{all-changes}
use Rattle.owner_changes.proofs.ChangeLaws.{Narrow}
use Rattle.owner_changes.proofs.ChangeKeyLaws.{changes-back, keys-sorted}
use Rattle.nation_tables.proofs.tables.MappedLaws.{row-single}
use Rattle.nation_tables.proofs.tables.OwnLaws.{row-holds}
use Rattle.nation_tables.proofs.tables.SettlingLaws.{settled-row}
use Rattle.nation_tables.proofs.slots.TurningLaws.{step_of}

-- ## Rows and the words in them

-- The first place of a word is where it is found first.
first-places : (x k : ℕ) (ys : List ℕ) → first_at x k ys ≡ first_or no_row (places_of x k ys)
unfolding first_at places_of
first-places x k [] = refl
first-places x k (y ∷ ys) = cases (eqb y x) (λ e. simp e) (λ e. simp e (first-places x (suc k) ys))

-- The tag in a row is its country's; without a country it is the given one.
tag-at : (ks : List Country) (row : ℕ) (t : CountryTag) → get_or (country_tags ks) row t ≡ or_tag t (tag_at_row ks row)
tag-at [] row t = refl
tag-at (k ∷ ks) zero t = refl
tag-at (k ∷ ks) (suc row) t = tag-at ks row t

-- The same for the word of the holder in a row, which may be nobody.
pub holder-word : (ks : List Country) (row : ℕ) → (get_or (country_tags ks) row no_tag).0 ≡ holder_word (tag_at_row ks row)
holder-word [] row = refl
holder-word (k ∷ ks) zero = refl
holder-word (k ∷ ks) (suc row) = holder-word ks row

-- A row that is a country's, or none at all, is the row of its holder.
pub row_back : (ks : List Country) → length ks ≤ key_rows → twice (words_of_tags ks) ≡ false → (row : ℕ) → ((row ≡ no_row → ⊥) → row < length ks)
    → holder_row (words_of_tags ks) (tag_at_row ks row) ≡ row
row_back ks few once row inside =
    cases (ltb row (length ks))
    (λ h. let k = at-inside ks row (ltb-true row (length ks) h) in
    ap (λ (o : Option Country). holder_row (words_of_tags ks) (Option.map (λ x. x.tag) o)) k.1
    ∙ first-places k.0.tag.0 0 (words_of_tags ks)
    ∙ row-single ks few once row k.0 k.1)
    (λ h. let l = ltb-false row (length ks) h in
    ap (λ (o : Option Country). holder_row (words_of_tags ks) (Option.map (λ x. x.tag) o)) (at-end ks row l)
    ∙ cases (eqb row no_row)
    (λ g. sym (eqb-true row no_row g))
    (λ g. let i = inside (eqb-false row no_row g) in absurd (omega arith)))

-- ## Small numbers

-- All changes of an accepted record are small.
pub entered-small : (xs : List ℕ) → refusal xs ≡ 0 → All Small (entered xs)
entered-small xs h =
    all_join Small province_changes
    (λ p s. all-changes Small p.id p.owner p.events (all_map (λ e b from. record { date = b.date; to = b.tag }) p.events s.events))
    (campaign_of xs).provinces (small-provinces xs h)

-- The first of those left is small, and so are the others.
pub small-next : {left rest : List OwnerChange} {x : OwnerChange} → left ≡ x ∷ rest → All Small left → Small x × All Small rest
small-next e q = rw e at q

-- A tag out of a row is small if all tags are.
tag-at-small : (bound : ℕ) (ks : List Country) (row : ℕ) (t : CountryTag) → All (λ k. k.tag.0 < bound) ks → t.0 < bound
    → (or_tag t (tag_at_row ks row)).0 < bound
tag-at-small bound [] row t q h = h
tag-at-small bound (k ∷ ks) zero t q h = q.0
tag-at-small bound (k ∷ ks) (suc row) t q h = tag-at-small bound ks row t q.1 h

-- ## The cell of a change

-- Countries whose tags are words of three bytes.
abbrev pub Short : List Country → Type 0
Short ks = All (λ k. k.tag.0 < key_tags) ks

-- The keys of a table are in order.
pub all-sorted : (xs keys : List ℕ) → keys ≡ sort_by leb xs → sort_by leb keys ≡ keys
all-sorted xs keys e = ap (sort_by leb) e ∙ sort-again xs ∙ sym e

module _ (ks : List Country) (ts : List CountryTag) (ss : List ℕ) (q : Settler ks ts ss) (x : OwnerChange) (small : Small x) (row : ℕ)
    (found : row ≡ row_number (settling_row ss x.to x.date)) where
  -- The row that was found and the tag that stands there make the cell of the change.
  pub cell-made : (to : CountryTag) → to ≡ x.to → (get_or ts row to).0 * cell_rows + row ≡ holder_cell ks x
  unfolding holder_cell
  cell-made to e =
      let whom : CountryTag = settles (all_switches ks) x in
      let all = row-holds ss x.to x.date in
      let r : row ≡ row_of ks whom = found ∙ all.holds ks x q.keyed q.own q.once q.keys refl refl small.date in
      let t : whom ≡ or_tag x.to (tag_at_row ks row) = rw found (all.holder ks x q.keyed q.own q.once q.keys refl refl small.date) in
      let w : (get_or ts row to).0 ≡ whom.0 = ap (λ (t : CountryTag). t.0) (rw (q.tags, e) (tag-at ks row x.to) ∙ sym t) in
      ap₂ (λ (a b : ℕ). a * cell_rows + b) w (r ∙ sym (first-places whom.0 0 (words_of_tags ks)))

module _ (ks : List Country) where
  -- So is the tag that a change settles to.
  pub settled-small : Keyed ks → Short ks → (x : OwnerChange) → Small x → (settles (all_switches ks) x).0 < key_tags
  settled-small keyed short x s =
      let q = settled-row ks keyed x s.date in
      omega (arith, ap (λ (t : CountryTag). t.0) q.holder, tag-at-small key_tags ks (settled_row ks x.to x.date) x.to short s.to)

  -- ## Steps

  -- A key with the cell of its change tells the step of the change's move.
  step_back : (k : ℕ) (x : OwnerChange) → k < per_id → Narrow x → (cells : List ℕ) → get_or cells k 0 ≡ holder_cell ks x
      → step_at cells (change_key k x) ≡ step_of (words_of_tags ks) (move_of (all_switches ks) x)
  unfolding holder_cell
  step_back k x h n cells g =
      let number : change_key k x % per_id ≡ k = omega arith in
      let date : change_key k x / per_date ≡ x.date.0 = omega (arith, n.id) in
      let slot : change_key k x / per_id % per_id ≡ x.id.0 =
      let q : change_key k x / per_id ≡ x.date.0 * per_id + x.id.0 = omega arith in rw q (omega (arith, n.id)) in
      let here : get_or cells (change_key k x % per_id) 0 ≡ slot_cell (words_of_tags ks) (some (settles (all_switches ks) x)) =
      ap (λ (i : ℕ). get_or cells i 0) number ∙ g in
      rw (date, slot, here)

  -- So do all keys, with the cells at their numbers.
  steps_back : (cells : List ℕ) (k : ℕ) (cs : List OwnerChange) → All Narrow cs → k + length cs ≤ per_id
      → drop k cells ≡ map (holder_cell ks) cs
      → map (step_at cells) (change_keys_from k cs) ≡ map (λ x. step_of (words_of_tags ks) (move_of (all_switches ks) x)) cs
  unfolding change_keys_from
  steps_back cells k [] n h e = refl
  steps_back cells k (x ∷ cs) n h e =
      let zero_more : k ≡ k + 0 = omega arith in
      let here : get_or cells k 0 ≡ holder_cell ks x =
      ap (λ (i : ℕ). get_or cells i 0) zero_more ∙ sym (get_or-drop k cells 0 0) ∙ ap (λ (l : List ℕ). get_or l 0 0) e in
      let behind : drop (k + 1) cells ≡ map (holder_cell ks) cs = sym (drop-drop 1 k cells) ∙ ap (drop 1) e in
      ap₂ (λ (a : Step) (l : List Step). a ∷ l)
      (step_back k x (omega arith) n.0 cells here)
      (steps_back cells (k + 1) cs n.1 (omega arith) behind)

  -- The sorted keys and the cells stand for the moves of the changes in their order.
  pub steps-sorted : (cs : List OwnerChange) (cells : List ℕ) → length cs ≤ per_id → All Narrow cs → cells ≡ map (holder_cell ks) cs
      → steps_of cells (sort_by leb (change_keys_from 0 cs)) ≡ map (step_of (words_of_tags ks)) (map (move_of (all_switches ks)) (sort_by by_date_and_id cs))
  steps-sorted cs cells few n e =
      let keys = change_keys_from 0 cs in
      let pairs = map tags_of cs in
      let told : OwnerChange → Step = λ x. step_of (words_of_tags ks) (move_of (all_switches ks) x) in
      let back : map (change_at pairs) keys ≡ cs = changes-back pairs 0 cs n (omega arith) refl in
      let each : map (step_at cells) keys ≡ map (λ k. told (change_at pairs k)) keys =
      steps_back cells 0 cs n (omega arith) e ∙ ap (map told) (sym back) ∙ map-then (change_at pairs) told keys in
      map_same (step_at cells) (λ k. told (change_at pairs k)) (sort_by leb keys)
      (all-sort leb (λ k. step_at cells k ≡ told (change_at pairs k)) keys (same-each (step_at cells) (λ k. told (change_at pairs k)) keys each))
      ∙ sym (map-then (change_at pairs) told (sort_by leb keys))
      ∙ ap (map told) (keys-sorted pairs cs few n refl)
      ∙ sym (map-then (move_of (all_switches ks)) (step_of (words_of_tags ks)) (sort_by by_date_and_id cs))
