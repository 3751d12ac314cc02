-- The holders of the slots by their cells: the start, and what the pass over all steps leaves of the campaign's turns and holders.
use mathlib.Core.Path.{◌≡◌, refl, sym, ap, ap₂, subst, ◌∙◌}
use mathlib.Core.Bool.{false}
use mathlib.Core.List.{List, [], ◌∷◌, ◌++◌, map}
use mathlib.Core.Option
use mathlib.Core.Option.{Option}
use Prim.Native.Nat.{ℕ, suc, ◌+◌, ◌*◌, ◌%◌, ◌≤◌, ◌<◌}
use native.Mathlib.Omega.{arith}
use borrow.Author.Tests.{eqb-true, eqb-false}
use lib.Dec.{leb, eqb}
use lib.ListN.{length, take, length-map}
use lib.Seq.{take_at}
use Rattle.lists.specs.Lists.{All, keep, count_of, twice, last, numbers_from}
use Rattle.lists.proofs.BoolLaws.{cases}
use Rattle.lists.proofs.ElementLaws.{map_same}
use Rattle.lists.proofs.ListLaws.{all_map, all-images, all_of_map, all_keep, all-last, map-then}
use Rattle.sorting.specs.Sort.{sort_by}
use Rattle.sorting.proofs.SortLaws.{all-sort, length-sort}
use Rattle.format.specs.declared.tag.CountryTag.{CountryTag}
use Rattle.record.specs.declared.opened.Record.{Record}
use Rattle.format.specs.Tags.{same_tag}
use Rattle.record.specs.Cursors.{provinces_left}
use Rattle.format.specs.Campaign.{Campaign, Country, Province, campaign_of}
use Rattle.format.specs.RecordNumber.{refusal}
use Rattle.format.proofs.SoundLaws.{sound}
use Rattle.rules.specs.Changes.{by_date_and_id, changes_of}
use Rattle.rules.specs.Nations.{initial_of, matches, maps_to, slots_of, start_tag, start_holder, start_holders, all_switches, move_of, moves_of, holders_of, held_of}
use Rattle.rules.specs.NationRows.{holder_word}
use Rattle.rules.proofs.CampaignLaws.{holders-of}
use Rattle.owner_changes.specs.ChangeSteps.{entered, change_keys_from, KeysFilled}
use Rattle.nation_tables.specs.Layout.{key_rows, key_tags, word_span, no_change, cell_rows}
use Rattle.nation_tables.specs.Lookup.{no_row}
use Rattle.nation_tables.specs.Countries.{tag_at_row, country_tags, words_of_tags, initial_words, row_keys, initial_number}
use Rattle.nation_tables.specs.Starting.{owner_in, slot_rows, Slotted, Started}
use Rattle.nation_tables.specs.declared.layout.LossGain.{LossGain}
use Rattle.nation_tables.specs.Turning.{losses, gains, row_turns_of, Rowed}
use Rattle.nation_tables.specs.Holders.{Settler, CountryTables, Small, rows_in_cells, row_cell, slot_cell, slot_cells, cell_word, slot_counts, holder_cell, step_at, steps_of}
use Rattle.nation_tables.specs.Holders.{turns_along, cells_along, turn_cell, Passed, Began, Stepped, Held}
use Rattle.owner_changes.proofs.ChangeLaws.{entered-few, entered-narrow}
use Rattle.owner_changes.proofs.ChangeKeyLaws.{length-change-keys}
use Rattle.nation_tables.proofs.tables.KeyedLaws.{tag_small, accepted-keyed, accepted-own, accepted-slotted}
use Rattle.nation_tables.proofs.tables.MappedLaws.{initial-mapped}
use Rattle.nation_tables.proofs.slots.SlotPassLaws.{length-along, passed-rows}
use Rattle.nation_tables.proofs.slots.ChangeCellLaws.{holder-word, row_back, entered-small, Short, settled-small, steps-sorted}
use Rattle.nation_tables.proofs.slots.TurningLaws.{steps_in, cell_parts, cell-rows, cell-words, all_after, row-turns, holder-cells, counts-held}

-- ## The start

module _ (c : Campaign) (few : length c.countries ≤ key_rows) (once : twice (words_of_tags c.countries) ≡ false) (keys : List ℕ)
    (initials : keys ≡ row_keys (initial_words c.countries)) (count : ℕ) (rows : List ℕ) (size : count ≡ suc (length c.provinces))
    (s : Started keys c.provinces count rows) where
  abbrev ks : List Country
  ks = c.countries

  -- The row of each slot.
  abbrev slots : List ℕ
  slots = slot_rows keys c.provinces count

  -- The holders in these rows are the start holders.
  slot-holders : map (tag_at_row ks) slots ≡ start_holders c
  slot-holders = s.holders c refl size few initials

  -- The cells of these rows are those of the start holders.
  pub start-cells : map (row_cell (country_tags ks)) (rows_in_cells rows) ≡ map (slot_cell (words_of_tags ks)) (start_holders c)
  start-cells =
      ap (λ (l : List ℕ). map (row_cell (country_tags ks)) (rows_in_cells l)) s.cells
      ∙ map-then (λ x. x % cell_rows) (row_cell (country_tags ks)) slots
      ∙ map_same (λ r. row_cell (country_tags ks) (r % cell_rows)) (λ r. slot_cell (words_of_tags ks) (tag_at_row ks r)) slots
      (all-images (λ r. row_cell (country_tags ks) (r % cell_rows) ≡ slot_cell (words_of_tags ks) (tag_at_row ks r))
      (λ n. initial_number keys (owner_in c.provinces (record { 0 = n })))
      (λ n. let t = owner_in c.provinces (record { 0 = n }) in
      one_cell (initial_number keys t) ((initial-mapped keys t).inside ks few initials))
      (numbers_from 0 count))
      ∙ sym (map-then (tag_at_row ks) (slot_cell (words_of_tags ks)) slots)
      ∙ ap (map (slot_cell (words_of_tags ks))) slot-holders
    where
      one_cell : (r : ℕ) → ((r ≡ no_row → ⊥) → r < length ks) → row_cell (country_tags ks) (r % cell_rows) ≡ slot_cell (words_of_tags ks) (tag_at_row ks r)
      one_cell r inside =
          let small : r < cell_rows =
          cases (eqb r no_row)
          (λ g. omega (arith, eqb-true r no_row g))
          (λ g. let l = inside (eqb-false r no_row g) in omega arith) in
          let same : r % cell_rows ≡ r = omega arith in
          ap (row_cell (country_tags ks)) same
          ∙ ap₂ (λ (w p : ℕ). w * cell_rows + p) (holder-word ks r) (sym (row_back ks few once r inside))
          ∙ sym (cell_parts (words_of_tags ks) (tag_at_row ks r))

-- The provinces of an accepted record are in the slots.
pub slots-there : (r : Record) (slots : ℕ) → slots ≡ suc (length (campaign_of r.bytes.now).provinces) → Slotted slots (provinces_left r.provinces)
slots-there r slots e = subst (Slotted slots) (sym r.told.provinces) (accepted-slotted r.bytes.now r.accepted slots (omega arith))

-- The tables of its countries are those that changes settle by.
pub settler : (r : Record) (ts : List CountryTag) (is ss : List ℕ) → CountryTables (campaign_of r.bytes.now).countries ts is ss → Settler (campaign_of r.bytes.now).countries ts ss
settler r ts is ss t =
    let xs : List ℕ = r.bytes.now in
    record { keyed = accepted-keyed xs r.accepted; own = accepted-own xs r.accepted; once = (sound xs r.accepted).tags_once; tags = t.tags; keys = t.keys }

-- ## All of it

module _ (xs : List ℕ) (z : refusal xs ≡ 0) where
  abbrev campaign : Campaign
  campaign = campaign_of xs

  -- What the laws above ask is so in an accepted record.
  short : Short campaign.countries
  short = all_map (λ k g. tag_small k.tag g.tag) campaign.countries (sound xs z).countries

  few : length campaign.countries ≤ key_rows
  few = (accepted-keyed xs z).few

  once : twice (words_of_tags campaign.countries) ≡ false
  once = (sound xs z).tags_once

  few-tags : length (words_of_tags campaign.countries) ≤ no_change
  few-tags = let l = few in omega (arith, length-map campaign.countries (λ k. k.tag.0))

  -- The steps of the sorted keys are those of the campaign's moves.
  campaign-steps : (cells keys : List ℕ) → cells ≡ map (holder_cell campaign.countries) (entered xs) → keys ≡ sort_by leb (change_keys_from 0 (entered xs))
      → steps_of cells keys ≡ steps_in campaign
  unfolding moves_of changes_of
  campaign-steps cells keys e f =
      ap (steps_of cells) f
      ∙ steps-sorted campaign.countries (entered xs) cells (omega (arith, entered-few xs z)) (entered-narrow xs z) e

  -- How many slots have each row is how many each country holds.
  counts-of : (holders : List (Option CountryTag)) (n : ℕ) → n ≡ length campaign.countries
      → slot_counts (rows_in_cells (slot_cells campaign holders)) n ≡ map (λ k. count_of (matches k.tag) holders) campaign.countries
  counts-of holders n e =
      let tags = words_of_tags campaign.countries in
      let long : length tags ≡ length campaign.countries = length-map campaign.countries (λ k. k.tag.0) in
      ap₂ slot_counts (cell-rows tags few-tags holders) (e ∙ sym long)
      ∙ counts-held tags once few-tags holders
      ∙ map-then (λ k. k.tag.0) (λ w. count_of (matches (record { 0 = w })) holders) campaign.countries

  -- By the cells of the slots after the last change each country holds as many as it does.
  pub held-counted : (slots counts : List ℕ) (n : ℕ) → slots ≡ slot_cells campaign (holders_of campaign) → n ≡ length campaign.countries
      → counts ≡ slot_counts (rows_in_cells slots) n → counts ≡ held_of campaign
  unfolding held_of
  held-counted _ counts n e c f = f ∙ ap (λ (l : List ℕ). slot_counts (rows_in_cells l) n) e ∙ counts-of (holders_of campaign) n c

  -- The words of all holders have 32 bits.
  small-start : All (λ h. holder_word h < word_span) (start_holders campaign)
  unfolding start_holders start_holder maps_to
  small-start =
      all-images (λ h. holder_word h < word_span) (start_holder campaign)
      (λ slot. last-small (keep (λ k. same_tag (initial_of k) (start_tag campaign slot)) campaign.countries)
      (all_keep (λ k. k.tag.0 < key_tags) (λ k. same_tag (initial_of k) (start_tag campaign slot)) campaign.countries short))
      (slots_of campaign)
    where
      last-small : (ks : List Country) → Short ks → holder_word (Option.map (λ k. k.tag) (last ks)) < word_span
      last-small [] q = omega arith
      last-small (k ∷ ks) q = let h = all-last (λ k. k.tag.0 < key_tags) ks k q.1 q.0 in omega arith

  small-moves : All (λ m. m.holder.0 < word_span) (moves_of campaign)
  unfolding moves_of changes_of
  small-moves =
      all_of_map (λ m. m.holder.0 < word_span) (move_of (all_switches campaign.countries))
      (λ x s. let h = settled-small campaign.countries (accepted-keyed xs z) short x s in omega arith)
      (sort_by by_date_and_id (entered xs)) (all-sort by_date_and_id Small (entered xs) (entered-small xs z))

  -- So the words in the cells are theirs.
  pub holder-words : (slots : List ℕ) → slots ≡ slot_cells campaign (holders_of campaign) → map cell_word slots ≡ map holder_word (holders_of campaign)
  holder-words _ e =
      ap (map cell_word) e
      ∙ cell-words (words_of_tags campaign.countries) few-tags (holders_of campaign)
      (subst (All (λ h. holder_word h < word_span)) (sym (holders-of campaign))
      (all_after (λ h. holder_word h < word_span) (moves_of campaign) (start_holders campaign) small-moves small-start))

  -- What `start_slots` leaves.
  pub began : (ts : List CountryTag) (is : List ℕ) (ps : List Province) → ps ≡ campaign.provinces → ts ≡ country_tags campaign.countries
      → is ≡ row_keys (initial_words campaign.countries) → (count : ℕ) (rows slots counts : List ℕ) (n : ℕ)
      → count ≡ suc (length campaign.provinces) → n ≡ length campaign.countries
      → Started is ps count rows → slots ≡ map (row_cell ts) (rows_in_cells rows) → counts ≡ slot_counts (rows_in_cells slots) n
      → Began campaign slots counts
  began ts is ps p w i count rows slots counts n size e s f g =
      let s' : Started is campaign.provinces count rows = rw p at s in
      let cells : slots ≡ slot_cells campaign (start_holders campaign) =
      f ∙ ap (λ (l : List CountryTag). map (row_cell l) (rows_in_cells rows)) w ∙ start-cells campaign few once is i count rows size s' in
      record { slots = cells; started = g ∙ ap (λ (l : List ℕ). slot_counts (rows_in_cells l) n) cells ∙ counts-of (start_holders campaign) n e }

  -- What `sort_steps` leaves.
  pub stepped : (n : ℕ) (keys sorted cells keys' : List ℕ) → KeysFilled xs n keys → sorted ≡ sort_by leb (take n keys)
      → take n cells ≡ map (holder_cell campaign.countries) (entered xs) → Stepped xs n (sorted ++ keys') cells
  stepped n keys sorted cells keys' k s f =
      let all : sorted ≡ sort_by leb (change_keys_from 0 (entered xs)) = s ∙ ap (sort_by leb) k.cells in
      let long : length sorted ≡ n = ap length all ∙ length-sort leb (change_keys_from 0 (entered xs)) ∙ length-change-keys 0 (entered xs) ∙ sym k.counted in
      record { counted = k.counted; sorted = take_at sorted keys' n long ∙ all; filled = f }

  -- The pass over these steps, from that start.
  module _ (n : ℕ) (slots started keys cells : List ℕ) (b : Began campaign slots started) (q : Stepped xs n keys cells) (slots₁ : List ℕ) (turns : List LossGain)
      (p : Passed (take n keys) (take n cells) slots slots₁ turns) where
    steps : steps_of (take n cells) (take n keys) ≡ steps_in campaign
    steps = campaign-steps (take n cells) (take n keys) q.filled q.sorted

    told : Rowed (take n keys) (losses turns) (gains turns) (row_turns_of campaign)
    told =
        subst (Rowed (take n keys) (losses turns) (gains turns)) (ap₂ turns_along b.slots steps ∙ sym (row-turns campaign few-tags))
        (passed-rows (take n keys) (take n cells) slots slots₁ turns p)

    -- As many turns as changes.
    all-turns : length turns ≡ n
    all-turns =
        ap length p.turns
        ∙ length-map (turns_along slots (steps_of (take n cells) (take n keys))) turn_cell
        ∙ length-along slots (steps_of (take n cells) (take n keys))
        ∙ length-map (take n keys) (step_at (take n cells))
        ∙ ap length q.sorted
        ∙ length-sort leb (change_keys_from 0 (entered xs))
        ∙ length-change-keys 0 (entered xs)
        ∙ sym q.counted

    held_all : (turns' : List LossGain) (slots' started' : List ℕ) → take (suc (length campaign.provinces)) slots' ≡ slots₁ → take (length campaign.countries) started' ≡ started
        → Held xs n keys slots' started' (turns ++ turns')
    unfolding changes_of
    held_all turns' slots' started' e f =
        record {
          counted = q.counted ∙ sym (length-sort by_date_and_id (entered xs));
          sorted = q.sorted;
          rowed = rw (take_at turns turns' n all-turns) told;
          slots = e ∙ p.slots ∙ ap₂ cells_along steps b.slots ∙ sym (holder-cells campaign few-tags);
          started = f ∙ b.started;
        }

  -- What `hold_slots` leaves.
  pub held : (n : ℕ) (slots started keys cells : List ℕ) → Began campaign slots started → Stepped xs n keys cells → (slots₁ : List ℕ) (turns turns' : List LossGain)
      → Passed (take n keys) (take n cells) slots slots₁ turns → (slots' started' : List ℕ) → take (suc (length campaign.provinces)) slots' ≡ slots₁
      → take (length campaign.countries) started' ≡ started → Held xs n keys slots' started' (turns ++ turns')
  held n slots started keys cells b q slots₁ turns turns' p slots' started' e f =
      held_all n slots started keys cells b q slots₁ turns p turns' slots' started' e f
