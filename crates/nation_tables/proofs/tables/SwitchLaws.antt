-- The keys of switches by row: those of one country stand together, and with the words of the targets they tell its switch entries by date,
-- ties in row order.
use mathlib.Core.Path.{◌≡◌, refl, sym, ap, ap₂, subst, ◌∙◌}
use mathlib.Core.Bool.{true, false}
use mathlib.Core.List.{List, [], ◌∷◌, ◌++◌, map, append-nil}
use mathlib.Core.Option.{some, none-ne-some, some-injective}
use Prim.Native.Nat.{ℕ, zero, suc, ◌+◌, ◌-◌, ◌*◌, ◌/◌, ◌%◌, ◌≤◌, ◌<◌}
use native.Mathlib.Numerals.{add-one}
use native.Mathlib.Nat.{mod-eq_of_lt}
use native.Mathlib.Omega.{arith}
use borrow.Author.Tests.{leb-true, leb-false, le-leb, lt-leb, eq-eqb, ne_eqb}
use lib.Dec.{leb, eqb}
use lib.ListN.{length, get_or, get_elem?, take, drop, length-append}
use lib.Seq.{get_or-drop, drop-drop, drop_at}
use Rattle.lists.specs.Lists.{All, keep, first_or}
use Rattle.lists.proofs.BoolLaws.{cases}
use Rattle.lists.proofs.ListLaws.{all_both, all_keep, all_map, at_split, join-append, keep_append, keep-none, map-then}
use Rattle.lists.proofs.ElementLaws.{keep-map, keep_same}
use Rattle.sorting.specs.Sort.{sort_by}
use Rattle.sorting.proofs.SortLaws.{map-sort, length-sort, keep-sort, leb-total, leb-trans, keys-in-order}
use Rattle.format.specs.declared.tag.CountryTag.{CountryTag}
use Rattle.format.specs.declared.rows.Switch.{Switch}
use Rattle.format.specs.Campaign.{Country, campaign_of}
use Rattle.format.specs.RecordNumber.{refusal}
use Rattle.format.specs.declared.values.Entry.{Entry}
use Rattle.format.specs.declared.values.EntryKind.TheVariants.{TagSwitch}
use Rattle.rules.specs.Nations.{last_target, switch_chain, switch_entries}
use Rattle.nation_tables.specs.Keys.{run_key, date_in, number_in}
use Rattle.nation_tables.specs.Layout.{row_span, most_switches, key_dates, key_numbers, word_span}
use Rattle.nation_tables.specs.Countries.{switch_keys_from, small_switch, Keyed}
use Rattle.nation_tables.specs.Lookup.{in_range}
use Rattle.nation_tables.specs.Switches.{PlacedSwitch, placed, own_placed, all_placed, runs_from, run_keys, run_start, place_key}
use Rattle.nation_tables.specs.Switches.{chain_words, own_targets, target_words, switch_in, place_key}
use Rattle.nation_tables.specs.Turning.{by_date}
use Rattle.lists.proofs.EachLaws.{all-parts}
use Rattle.lists.proofs.ElementLaws.{keep_all}
use Rattle.lists.proofs.BoundLaws.{part-within}
use Rattle.sorting.proofs.AgreeLaws.{agrees-in-order}
use Rattle.nation_tables.proofs.tables.KeyedLaws.{switches-few}
use Rattle.nation_tables.proofs.tables.LookupLaws.{begins-with}
use Rattle.nation_tables.proofs.tables.PlacedLaws.{placed_by_date, small-date, switches-small, own-each, own-order, placed-all, rows-rise, from-length, row-keys, row-length}
use Rattle.nation_tables.proofs.tables.TargetLaws.{length-target-words}
pub use Rattle.nation_tables.proofs.tables.TargetLaws.{length-chain, targets-small}

-- ## How many

-- As many keys by row as keys by the tag that was left.
pub length_runs : (row k : ℕ) (ks : List Country) → length (runs_from row k ks) ≡ length (switch_keys_from row ks)
length_runs row k ks = row-length row k ks ∙ sym (from-length row k ks)

-- An accepted record has at most 20,000.
pub runs-few : (xs : List ℕ) → refusal xs ≡ 0 → length (runs_from 0 0 (campaign_of xs).countries) ≤ most_switches
runs-few xs h = omega (arith, length_runs 0 0 (campaign_of xs).countries, switches-few xs h)

-- As many words of targets.
pub length-targets : (row k : ℕ) (ks : List Country) → length (target_words ks) ≡ length (runs_from row k ks)
length-targets row k ks = length-target-words row k ks ∙ sym (row-length row k ks)

-- ## One key

module _ (row date k : ℕ) (small : date < key_dates) (few : k < key_numbers) where
  -- A key tells the number of its switch.
  number-in : number_in (run_key row date k) ≡ k
  number-in = omega arith

  -- It tells the date.
  date-in : date_in (run_key row date k) ≡ date
  date-in = let q : run_key row date k / key_numbers ≡ row * key_dates + date = omega arith in rw q (omega arith)

  -- It lies between those of its row and of no other.
  row_in : (r : ℕ) → in_range (r * row_span) (suc r * row_span) (run_key row date k) ≡ eqb row r
  row_in r =
      let key : run_key row date k ≡ row * row_span + (date * key_numbers + k) = omega arith in
      let high : suc r * row_span ≡ r * row_span + row_span = omega arith in
      ap₂ (in_range (r * row_span)) high key ∙ begins-with row_span row (date * key_numbers + k) r (omega arith)

-- Of two keys of one row the dates decide, and on one day the numbers.
run-keys-agree : (row date k day j : ℕ) → k ≤ j → j < key_numbers → leb date day ≡ leb (run_key row date k) (run_key row day j)
run-keys-agree row date k day j h l =
    cases (leb date day)
    (λ a. let b = leb-true date day a in a ∙ sym (le-leb (run_key row date k) (run_key row day j) (omega arith)))
    (λ a. let b = leb-false date day a in a ∙ sym (lt-leb (run_key row date k) (run_key row day j) (omega arith)))

-- A switch's date and number have room in its key.
abbrev RunFits : PlacedSwitch → Type 0
RunFits p = (p.made.date.0 < key_dates) × (p.number < key_numbers)

-- ## The switches of one row

-- Among the switches of all countries those of one row are its country's, numbered behind those of the rows before.
own-kept : (r row k : ℕ) (ks : List Country) (i : ℕ) (x : Country) → r ≡ row + i → get_elem? ks i ≡ some x
    → keep (λ p. eqb p.row r) (all_placed row k ks) ≡ own_placed r (k + length (target_words (take i ks))) x.switches
unfolding all_placed
own-kept r row k [] i x e t = absurd (none-ne-some x t)
own-kept r row k (y ∷ ks) zero x e t =
    let own = own_placed row k y.switches in
    let others = all_placed (suc row) (k + length y.switches) ks in
    let same : row ≡ r = omega arith in
    let first : k ≡ k + 0 = omega arith in
    let here : keep (λ p. eqb p.row r) own ≡ own =
    keep_all (λ p. eqb p.row r) own (own-each (λ p. eqb p.row r ≡ true) row k y.switches (λ j z l. eq-eqb row r same)) in
    let none : keep (λ p. eqb p.row r) others ≡ [] =
    keep-none (λ p. eqb p.row r) others
    (all_map (λ p l. ne_eqb p.row r (λ f. omega arith)) others (rows-rise (suc row) (k + length y.switches) ks).0) in
    keep_append (λ p. eqb p.row r) own others
    ∙ rw (here, none, append-nil)
    (ap (λ (n : ℕ). own_placed n k y.switches) same
    ∙ ap (λ (n : ℕ). own_placed r n y.switches) first
    ∙ ap (λ (z : Country). own_placed r (k + 0) z.switches) (some-injective y x t))
own-kept r row k (y ∷ ks) (suc i) x e t =
    let own = own_placed row k y.switches in
    let others = all_placed (suc row) (k + length y.switches) ks in
    let none : keep (λ p. eqb p.row r) own ≡ [] =
    keep-none (λ p. eqb p.row r) own
    (own-each (λ p. eqb p.row r ≡ false) row k y.switches (λ j z l. ne_eqb row r (λ f. omega arith))) in
    let before : k + length y.switches + length (target_words (take i ks)) ≡ k + length (own_targets y ++ target_words (take i ks)) =
    omega (arith, length-append (own_targets y) (target_words (take i ks)), length-chain (last_target y) y.switches) in
    keep_append (λ p. eqb p.row r) own others
    ∙ rw none
    (own-kept r (suc row) (k + length y.switches) ks i x (omega arith) t ∙ ap (λ (n : ℕ). own_placed r n x.switches) before)

-- ## Entries by keys

module _ (words : List ℕ) where
  -- The entry that a switch's key tells.
  abbrev placed_entry : PlacedSwitch → Entry
  placed_entry p = switch_in words (place_key p)

  -- With the words of its targets at their numbers, a country's keys tell its switch entries.
  entries-back : (row k : ℕ) (end : CountryTag) (ss : List Switch) (others : List ℕ) → All RunFits (own_placed row k ss)
      → All (λ w. w < word_span) (chain_words end ss) → drop k words ≡ chain_words end ss ++ others
      → map placed_entry (own_placed row k ss) ≡ switch_chain end ss
  unfolding own_placed switch_chain
  entries-back row k end [] others q w e = refl
  entries-back row k end (x ∷ ss) others q w e =
      let target = first_or end (map (λ y. y.from) ss) in
      let number = number-in row x.date.0 k q.0.0 q.0.1 in
      let date = date-in row x.date.0 k q.0.0 q.0.1 in
      let zero_more : k ≡ k + 0 = omega arith in
      let here : get_or words k 0 ≡ target.0 =
      ap (λ (i : ℕ). get_or words i 0) zero_more ∙ sym (get_or-drop k words 0 0) ∙ ap (λ (l : List ℕ). get_or l 0 0) e in
      let behind : drop (suc k) words ≡ chain_words end ss ++ others =
      ap (λ (n : ℕ). drop n words) (sym (add-one k)) ∙ sym (drop-drop 1 k words) ∙ ap (drop 1) e in
      let small : target.0 % word_span ≡ target.0 = mod-eq_of_lt w.0 in
      let first : placed_entry (placed row k x) ≡ record { date = x.date; kind = TagSwitch target } = simp (number, date, here, small) in
      simp (first, entries-back row (suc k) end ss others q.1 w.1 behind)

  -- A country's keys in order are its switches by date, ties in row order, and so are the entries that they tell.
  entries_sorted : (row k : ℕ) (ss : List Switch) → All RunFits (own_placed row k ss)
      → map (switch_in words) (sort_by leb (map place_key (own_placed row k ss))) ≡ sort_by by_date (map placed_entry (own_placed row k ss))
  entries_sorted row k ss q =
      let own = own_placed row k ss in
      let rising = own-order (λ p. p.number) row k ss (λ i j x y l. l) in
      let rows : All (λ p. p.row ≡ row) own = own-each (λ p. p.row ≡ row) row k ss (λ i x l. refl) in
      ap (map (switch_in words))
      (sym (map-sort placed_by_date leb place_key own
      (agrees-in-order placed_by_date leb place_key (λ p. (p.row ≡ row) × RunFits p) (λ p. p.number) (by_key row) own rising
      (all_both (λ p. p.row ≡ row) RunFits own rows q))))
      ∙ map-then place_key (switch_in words) (sort_by placed_by_date own)
      ∙ map-sort placed_by_date by_date placed_entry own (agrees-in-order placed_by_date by_date placed_entry RunFits (λ p. p.number) by-entry own rising q)
    where
      by_key : (row : ℕ) (a b : PlacedSwitch) → (a.row ≡ row) × RunFits a → (b.row ≡ row) × RunFits b → a.number ≤ b.number
          → placed_by_date a b ≡ leb (place_key a) (place_key b)
      by_key row a b f g l =
          rw (f.0, g.0) (run-keys-agree row a.made.date.0 a.number b.made.date.0 b.number l g.1.1)

      by-entry : (a b : PlacedSwitch) → RunFits a → RunFits b → a.number ≤ b.number → placed_by_date a b ≡ by_date (placed_entry a) (placed_entry b)
      by-entry a b f g l =
          rw (date-in a.row a.made.date.0 a.number f.0 f.1, date-in b.row b.made.date.0 b.number g.0 g.1)

-- The part of the keys that a country's row has tells its switch entries by date, ties in row order.
pub run-entries : (ks : List Country) (row : ℕ) (k : Country) → get_elem? ks row ≡ some k → Keyed ks → length (run_keys ks) ≤ most_switches
    → All (λ w. w < word_span) (target_words ks)
    → map (switch_in (target_words ks))
    (take (run_start (suc row) (run_keys ks) - run_start row (run_keys ks)) (drop (run_start row (run_keys ks)) (run_keys ks)))
    ≡ sort_by by_date (switch_entries k)
run-entries ks row k there q few small =
    let words = target_words ks in
    let before = target_words (take row ks) in
    let behind = target_words (drop (suc row) ks) in
    let first = length before in
    let all = all_placed 0 0 ks in
    let own = own_placed row first k.switches in
    let range = in_range (row * row_span) (suc row * row_span) in
    let own-part = take (run_start (suc row) (run_keys ks) - run_start row (run_keys ks)) (drop (run_start row (run_keys ks)) (run_keys ks)) in
    let split : words ≡ before ++ (own_targets k ++ behind) =
    ap target_words (at_split ks row k there) ∙ join-append own_targets (take row ks) (k ∷ drop (suc row) ks) in
    let own-words : All (λ w. w < word_span) (own_targets k) =
    (all-parts (λ w. w < word_span) (own_targets k) behind
    (all-parts (λ w. w < word_span) before (own_targets k ++ behind) (subst (λ (l : List ℕ). All (λ w. w < word_span) l) split small)).1).0 in
    let fit : All RunFits all =
    placed-all RunFits (λ x. small_switch x ≡ true) (length ks) key_numbers (λ r i x a b s. (small-date x s, b)) 0 0 ks (omega arith)
    (omega (arith, length-sort leb (runs_from 0 0 ks), row-length 0 0 ks)) (switches-small ks q) in
    let counted : 0 + first ≡ first = omega arith in
    let kept : keep (λ p. eqb p.row row) all ≡ own =
    own-kept row 0 0 ks row k (omega arith) there ∙ ap (λ (n : ℕ). own_placed row n k.switches) counted in
    let own-fit : All RunFits own = subst (λ (l : List PlacedSwitch). All RunFits l) kept (all_keep RunFits (λ p. eqb p.row row) all fit) in
    let own_keys : keep range (runs_from 0 0 ks) ≡ map place_key own =
    ap (keep range) (row-keys 0 0 ks)
    ∙ keep-map range place_key all
    ∙ ap (map place_key)
    (keep_same (λ p. range (place_key p)) (λ p. eqb p.row row) all
    (all_map (λ p f. row_in p.row p.made.date.0 p.number f.0 f.1 row) all fit)
    ∙ kept) in
    let part : own-part ≡ sort_by leb (map place_key own) =
    part-within (row * row_span) (suc row * row_span) (omega arith) (run_keys ks) (keys-in-order (runs_from 0 0 ks))
    ∙ keep-sort leb leb-total leb-trans range (runs_from 0 0 ks)
    ∙ ap (sort_by leb) own_keys in
    ap (map (switch_in words)) part
    ∙ entries_sorted words row first k.switches own-fit
    ∙ ap (sort_by by_date)
    (entries-back words row first (last_target k) k.switches behind own-fit own-words
    (ap (drop first) split ∙ drop_at before (own_targets k ++ behind) first refl))
