-- The merge of a country's switches with its lives, entry by entry, and the last target of its switches.
use mathlib.Core.Path.{◌≡◌, refl, sym, ap, ap₂, ◌∙◌}
use mathlib.Core.Bool.{Bool, true, false}
use mathlib.Core.List.{List, [], ◌∷◌, map}
use Prim.Native.Nat.{ℕ, suc, ◌+◌, ◌-◌, ◌*◌, ◌<◌}
use native.Mathlib.Omega.{arith}
use lib.Dec.{leb}
use lib.ListN.{length, get_or, length-map}
use Rattle.std.specs.Prelude.{Option, Some, None}
use Rattle.std.specs.Iterator.{YieldsFirst}
use Rattle.lists.specs.Lists.{last_or}
use Rattle.lists.proofs.BoolLaws.{clash}
use Rattle.lists.proofs.ListLaws.{length-join}
use Rattle.sorting.specs.Steps.{into, merge_by}
use Rattle.sorting.proofs.SortLaws.{length-merge}
use Rattle.format.specs.declared.tag.CountryTag.{CountryTag}
use Rattle.format.specs.declared.date.Eu4Date.{Eu4Date}
use Rattle.format.specs.declared.values.Entry.{Entry}
use Rattle.format.specs.declared.values.EntryKind.TheVariants.{TagSwitch}
use Rattle.nations.specs.declared.country_lives.Lives.{Lives}
use Rattle.nations.specs.CountryLives.{lives_left}
use Rattle.rules.specs.Nations.{targets}
use Rattle.rules.specs.NationRows.{entry_width, entry_row, entry_row_words}
use Rattle.nation_tables.specs.Turning.{by_date}
use Rattle.nation_tables.specs.Switches.{date_in, target_in, switch_in}
use Rattle.nations.specs.CountryEntries.{merged_entries, lives_told, entries_words, latest_tag}

-- ## The last target

module _ (words : List ℕ) where
  -- Where there is a switch, the latest tag is the target of the last one.
  pub latest-some : (run : List ℕ) (initial last : CountryTag) → 0 < length run → last.0 ≡ target_in words (get_or run (length run - 1) 0)
      → last ≡ latest_tag words run initial
  latest-some run initial last h e = ap (λ (w : ℕ). record { 0 = w }) e ∙ go run initial h
    where
      go : (run : List ℕ) (d : CountryTag) → 0 < length run
          → record { 0 = target_in words (get_or run (length run - 1) 0) } ≡ last_or d (targets (map (switch_in words) run))
      go [] d h = absurd (omega arith)
      go (key ∷ []) d h = refl
      go (key ∷ k ∷ run) d h =
          let back : length (key ∷ k ∷ run) - 1 ≡ suc (length (k ∷ run) - 1) = omega arith in
          ap (λ (n : ℕ). record { 0 = target_in words (get_or (key ∷ k ∷ run) n 0) }) back
          ∙ go (k ∷ run) (record { 0 = target_in words key }) (omega arith)

-- ## One step of the merge

-- The first of the first list comes first.
merge-first : (a b : Entry) (xs ys : List Entry) → by_date a b ≡ true → merge_by by_date (a ∷ xs) (b ∷ ys) ≡ a ∷ merge_by by_date xs (b ∷ ys)
unfolding into merge_by
merge-first a b xs ys h = simp h

-- The first of the second list comes first.
merge-second : (a b : Entry) (xs ys : List Entry) → by_date a b ≡ false → merge_by by_date (a ∷ xs) (b ∷ ys) ≡ b ∷ merge_by by_date (a ∷ xs) ys
unfolding into merge_by
merge-second a b xs ys h = simp h

-- Whether the first switch of a run comes next, where the lives have told their next.
abbrev pub switch_first : List ℕ → Option Entry → Bool
switch_first [] life = false
switch_first (key ∷ run) (Some life) = leb (date_in key) life.date.0
switch_first (key ∷ run) None = true

-- Without a switch it does not.
pub first-none : (run : List ℕ) (life : Option Entry) → length run ≡ 0 → switch_first run life ≡ false
first-none [] life h = refl
first-none (key ∷ run) life h = absurd (omega arith)

-- With one, it is as the code tests it.
pub first-some : (run rest : List ℕ) (key : ℕ) (life : Option Entry) (test : Bool) → run ≡ key ∷ rest → (life ≡ None → test ≡ true)
    → ((x : Entry) → life ≡ Some x → test ≡ leb (date_in key) x.date.0) → switch_first run life ≡ test
first-some run rest key life test e none some = ap (λ (r : List ℕ). switch_first r life) e ∙ go life none some
  where
    go : (life : Option Entry) → (life ≡ None → test ≡ true) → ((x : Entry) → life ≡ Some x → test ≡ leb (date_in key) x.date.0)
        → switch_first (key ∷ rest) life ≡ test
    go None none some = sym (none refl)
    go (Some x) none some = sym (some x refl)

-- The first switch comes next.
pub switch-next : (words run rest : List ℕ) (key : ℕ) (life : Option Entry) (lives : List Entry) (date : Eu4Date) (target : CountryTag)
    → run ≡ key ∷ rest → switch_first run life ≡ true → date.0 ≡ date_in key → target.0 ≡ target_in words key
    → merged_entries words run (lives_told life lives) ≡ record { date = date; kind = TagSwitch target } ∷ merged_entries words rest (lives_told life lives)
unfolding into merge_by
switch-next words run rest key life lives date target e h p q =
    ap (λ (r : List ℕ). merged_entries words r (lives_told life lives)) e
    ∙ (go life (ap (λ (r : List ℕ). switch_first r life) (sym e) ∙ h)
    ∙ ap₂ (λ (d t : ℕ). record { date = record { 0 = d }; kind = TagSwitch (record { 0 = t }) } ∷ merged_entries words rest (lives_told life lives)) (sym p) (sym q))
  where
    go : (life : Option Entry) → switch_first (key ∷ rest) life ≡ true
        → merged_entries words (key ∷ rest) (lives_told life lives) ≡ switch_in words key ∷ merged_entries words rest (lives_told life lives)
    go (Some life) h = merge-first (switch_in words key) life (map (switch_in words) rest) lives h
    go None h = refl

-- The told life comes next.
pub life-next : (words run : List ℕ) (told : Option Entry) (life : Entry) (lives : List Entry) → told ≡ Some life → switch_first run told ≡ false
    → merged_entries words run (lives_told told lives) ≡ life ∷ merged_entries words run lives
unfolding merge_by
life-next words run told life lives e h = ap (λ t. merged_entries words run (lives_told t lives)) e ∙ go run (rw e at h)
  where
    go : (run : List ℕ) → switch_first run (Some life) ≡ false → merged_entries words run (life ∷ lives) ≡ life ∷ merged_entries words run lives
    go [] h = refl
    go (key ∷ run) h = merge-second (switch_in words key) life (map (switch_in words) run) lives h

-- After the last life and the last switch nothing comes.
pub none-next : (words run : List ℕ) (told : Option Entry) (lives : List Entry) → told ≡ None → switch_first run told ≡ false
    → merged_entries words run (lives_told told lives) ≡ []
unfolding merge_by
none-next words run told lives e h = ap (λ t. merged_entries words run (lives_told t lives)) e ∙ go run (rw e at h)
  where
    go : (run : List ℕ) → switch_first run None ≡ false → merged_entries words run [] ≡ []
    go [] h = refl
    go (key ∷ run) h = clash true refl h

-- What was left before a life was told.
pub lives-before : (s t : Lives) (r : Option Entry) → YieldsFirst lives_left s r t → lives_left s ≡ lives_told r (lives_left t)
lives-before s t (Some life) h = h
lives-before s t None h = h.0

-- The entries that are left are switches and lives.
pub length-entries-left : (words run : List ℕ) (lives : List Entry) → length (merged_entries words run lives) ≡ length run + length lives
length-entries-left words run lives = length-merge by_date (map (switch_in words) run) lives ∙ ap (λ (n : ℕ). n + length lives) (length-map run (switch_in words))

-- An entry row has three words.
pub length-entries-words : (es : List Entry) → length (entries_words es) ≡ entry_width * length es
length-entries-words es = length-join entry_width (λ e. entry_row_words (entry_row e)) (λ e. refl) es
