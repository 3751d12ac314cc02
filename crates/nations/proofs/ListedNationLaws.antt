-- The nation of a key of the initials: whether it is listed, and how many entries it has.
use mathlib.Core.Path.{◌≡◌, sym, ap, ◌∙◌}
use mathlib.Core.Bool.{Bool, true, false, cond}
use mathlib.Core.List.{List, [], ◌∷◌, ◌++◌, append-nil}
use Prim.Native.Nat.{ℕ, suc, ◌+◌, ◌-◌, ◌*◌, ◌≤◌, ◌<◌}
use native.Mathlib.Numerals.{add-one}
use native.Mathlib.Omega.{arith}
use borrow.Author.Tests.{ltb-true, lt-ltb}
use lib.Dec.{ltb}
use lib.ListN.{length, get_or, drop, length-append, length-drop}
use lib.Seq.{length-take-le}
use Rattle.lists.proofs.BoolLaws.{cases}
use Rattle.lists.proofs.ListLaws.{count-le, count-more, join-append}
use Rattle.format.specs.declared.tag.CountryTag.{CountryTag}
use Rattle.nation_tables.specs.Layout.{key_numbers, row_span, word_span, no_change}
use Rattle.nation_tables.specs.Keys.{word_in}
use Rattle.format.specs.declared.values.Entry.{Entry}
use Rattle.rules.specs.Chronicle.{Nation}
use Rattle.nation_tables.specs.Lookup.{row_in}
use Rattle.nations.specs.Walks.{Walk}
use Rattle.nation_tables.specs.Switches.{run_start}
use Rattle.nations.specs.CountryEntries.{merged_entries, latest_tag}
use Rattle.nations.specs.Tables.{Readable}
use Rattle.nation_tables.specs.Holders.{no_tag}
use Rattle.nation_tables.specs.Gathering.{Cells}
use Rattle.nations.specs.ListedNations.{walk_of, lived_of, run_of, row_entries, is_listed, nation_of_key, key_nations, nations_at}
use Rattle.rules.proofs.RowLaws.{all_entries}
use Rattle.nations.proofs.WalkLaws.{lived-short}
use Rattle.nations.proofs.MergeEntryLaws.{length-entries-left}

-- ## Runs of switches

-- A row's run begins before the next one's.
pub run-rises : (row : ℕ) (runs : List ℕ) → run_start row runs ≤ run_start (row + 1) runs
run-rises row runs =
    let low = row * row_span in
    let high = (row + 1) * row_span in
    count-more (λ k. ltb k low) (λ k. ltb k high) (λ k p. lt-ltb k high (omega (arith, ltb-true k low p))) runs

-- It begins inside.
pub run_inside : (row : ℕ) (runs : List ℕ) → run_start row runs ≤ length runs
run_inside row runs = count-le (λ k. ltb k (row * row_span)) runs

-- It is as long as the two beginnings are apart.
length_run : (runs : List ℕ) (row : ℕ) → length (run_of runs row) ≡ run_start (row + 1) runs - run_start row runs
length_run runs row =
    rw (add-one)
    (length-take-le (run_start (suc row) runs - run_start row runs) (drop (run_start row runs) runs)
    (omega (arith, length-drop (run_start row runs) runs, run_inside (suc row) runs)))

-- ## How many entries a row has

-- A row has at most so many: one for each switch, and two for each change.
abbrev pub most_row_entries : ℕ
most_row_entries = key_numbers + 2 * no_change

module _ (w : Cells) where
  -- They are its switches and its lives.
  pub length-entries : (row : ℕ)
      → length (row_entries w row) ≡ run_start (row + 1) w.runs - run_start row w.runs + length (lived_of w row).entries
  length-entries row = omega (arith, length-entries-left w.targets (run_of w.runs row) (lived_of w row).entries, length_run w.runs row)

  module _ (r : Readable w) where
    -- The lives are few.
    pub lives-few : (row : ℕ) → length (lived_of w row).entries ≤ 2 * no_change
    lives-few row = omega (arith, r.chained.few, lived-short w.start w.olds w.news 0 w.keys (walk_of w row))

    -- They are few.
    pub entries-short : (row : ℕ) → length (row_entries w row) ≤ most_row_entries
    entries-short row =
        omega (
          arith,
          length-entries row,
          run_inside (row + 1) w.runs,
          r.few_runs,
          lives-few row,
        )

  -- ## The nation of a key

  -- A listed key gives its nation.
  pub key_one : (key : ℕ) → is_listed w.initials key (walk_of w (row_in key)) ≡ true → key_nations w key ≡ nation_of_key w key ∷ []
  unfolding key_nations
  key_one key h = ap (λ (b : Bool). cond b (nation_of_key w key ∷ []) []) h

  -- Any other gives none.
  pub key-none : (key : ℕ) → is_listed w.initials key (walk_of w (row_in key)) ≡ false → key_nations w key ≡ []
  unfolding key_nations
  key-none key h = ap (λ (b : Bool). cond b (nation_of_key w key ∷ []) []) h

  -- The entries of one nation are its own.
  pub one-entries : (n : Nation) → length (all_entries (n ∷ [])) ≡ length n.entries
  one-entries n = ap length (append-nil n.entries)

  -- A key gives one nation at most.
  pub key-few : (key : ℕ) → length (key_nations w key) ≤ 1
  key-few key =
      cases (is_listed w.initials key (walk_of w (row_in key)))
      (λ h. rw (key_one key h) (omega arith))
      (λ h. rw (key-none key h) (omega arith))

  -- It gives few entries.
  pub key-short : Readable w → (key : ℕ) → length (all_entries (key_nations w key)) ≤ most_row_entries
  key-short r key =
      cases (is_listed w.initials key (walk_of w (row_in key)))
      (λ h. rw (key_one key h) (omega (arith, one-entries (nation_of_key w key), entries-short r (row_in key))))
      (λ h. rw (key-none key h) (omega arith))
  -- The entries of nations one behind the other.

pub length-all-entries : (xs ys : List Nation) → length (all_entries (xs ++ ys)) ≡ length (all_entries xs) + length (all_entries ys)
length-all-entries xs ys = ap length (join-append (λ (n : Nation). n.entries) xs ys) ∙ length-append (all_entries xs) (all_entries ys)

-- ## The nations of keys

module _ (w : Cells) (r : Readable w) where
  -- Keys give few nations and entries.
  nations-short : (keys : List ℕ) → (length (nations_at w keys) ≤ length keys) × (length (all_entries (nations_at w keys)) ≤ most_row_entries * length keys)
  nations-short [] = (omega arith, omega arith)
  nations-short (key ∷ keys) =
      let here : List Nation = key_nations w key in
      let rest : List Nation = nations_at w keys in
      let few = nations-short keys in (
        omega (arith, few.0, key-few w key, length-append here rest),
        omega (arith, few.1, key-short w r key, length-all-entries here rest),
      )

  -- So there are fewer than a word can count.
  pub nations-few : (length (nations_at w w.initials) < word_span) × (length (all_entries (nations_at w w.initials)) < word_span)
  nations-few = let few = nations-short w.initials in (omega (arith, few.0, r.few), omega (arith, few.1, r.few))

-- ## What is found of one key

module _ (w : Cells) (key : ℕ) (walk : Walk) (here : walk ≡ walk_of w (row_in key)) where
  -- Of a country that is not listed it is no nation.
  pub unlisted : is_listed w.initials key walk ≡ false → [] ≡ key_nations w key
  unlisted h = sym (key-none w key (rw here at h))

  -- Of one that is, its nation.
  pub found : is_listed w.initials key walk ≡ true → (run : List ℕ) → run ≡ run_of w.runs (row_in key)
      → (lives entries : List Entry) → lives ≡ (lived_of w (row_in key)).entries → entries ≡ merged_entries w.targets run lives
      → (initial latest stored : CountryTag) → initial.0 ≡ word_in key → latest ≡ latest_tag w.targets run initial → stored ≡ get_or w.tags (row_in key) no_tag
      → record { initial = initial; latest = latest; stored = stored; entries = entries } ∷ [] ≡ key_nations w key
  found h run r lives entries l e initial latest stored i t s =
      let first : initial ≡ record { 0 = word_in key } = ap (λ (v : ℕ). record { 0 = v }) i in
      rw (t, e, l, r, first, s) (sym (key_one w key (rw here at h)))
