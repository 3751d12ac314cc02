-- What a caller knows of a well-shaped chronicle: each nation's entries lie inside the entry rows, every date is good, and the nations
-- that the words tell are those of the numbers from 0 on.
use mathlib.Core.Path.{◌≡◌, refl, ap, ◌∙◌}
use mathlib.Core.Bool.{Bool, true, cond, ◌&&◌}
use mathlib.Core.List.{List, [], ◌∷◌, map}
use Prim.Native.Nat.{ℕ, zero, suc, ◌+◌, ◌<◌, ◌≤◌}
use native.Mathlib.Numerals.{add-one}
use native.Mathlib.Omega.{arith}
use borrow.Author.Tests.{eqb-true, leb-true, leb-false}
use lib.Dec.{leb, eqb}
use lib.ListN.{length, get_or, take, drop}
use lib.Seq.{drop-length}
use Rattle.lists.specs.Lists.{All, all_of, numbers_from, is_whole}
use Rattle.lists.proofs.BoolLaws.{cases, clash, and_left, and_right}
use Rattle.lists.proofs.ListLaws.{all_map, map-then}
use Rattle.lists.proofs.ElementLaws.{map_same}
use Rattle.format.specs.declared.values.Entry.{Entry}
use Rattle.format.specs.declared.values.NationRow.{NationRow}
use Rattle.rules.specs.NationRows.{entry_of, nation_width, entry_width, nation_rows_in, entry_rows_in, nation_at, nations_in, tags_shaped, entry_shaped, without_gap, well_shaped}
use Rattle.rows.specs.RowAt.{nation_row_at, entry_row_at, nation_numbered}
use Rattle.rows.proofs.RowAtLaws.{nations-next, entries_next}
use Rattle.rows.proofs.LentShapeLaws.{gap-beyond}

-- ## Numbers for rows

-- Numbers from a on lie from a to below its end.
pub numbers-range : (a n : ℕ) → All (λ i. (a ≤ i) × (i < a + n)) (numbers_from a n)
numbers-range a zero = tt
numbers-range a (suc n) = ((omega arith, omega arith), all_map (λ i h. (omega arith, omega arith)) (numbers_from (suc a) n) (numbers-range (suc a) n))

all-get_or-of : {A : Type 0} (p : A → Bool) (xs : List A) (i : ℕ) (d : A) → all_of p xs ≡ true → i < length xs → p (get_or xs i d) ≡ true
all-get_or-of p [] i d h l = absurd (omega arith)
all-get_or-of p (x ∷ xs) zero d h l = and_left (p x) _ h
all-get_or-of p (x ∷ xs) (suc i) d h l = all-get_or-of p xs i d (and_right (p x) _ h) (omega arith)

-- Rows from a number on are those of the numbers from it on.
module _ {A : Type 0} (rows : List A) (at : ℕ → A) (next : (i : ℕ) → i < length rows → drop i rows ≡ at i ∷ drop (i + 1) rows) where
  pub taken-numbers : (n i : ℕ) → i + n ≤ length rows → take n (drop i rows) ≡ map at (numbers_from i n)
  taken-numbers zero i h = refl
  taken-numbers (suc n) i h =
      rw (next i (omega arith))
      (ap (λ (l : List A). at i ∷ l) (rw (add-one i) (taken-numbers n (suc i) (omega arith))))

  pub dropped-numbers : (n i : ℕ) → i + n ≡ length rows → drop i rows ≡ map at (numbers_from i n)
  dropped-numbers zero i h = let e : i ≡ length rows = omega arith in rw (e, drop-length rows)
  dropped-numbers (suc n) i h =
      rw (next i (omega arith))
      (ap (λ (l : List A). at i ∷ l) (rw (add-one i) (dropped-numbers n (suc i) (omega arith))))

-- ## What the shape tells

pub gap-inside : (first end : ℕ) (rs : List NationRow) (i : ℕ) (d : NationRow) → without_gap first rs end ≡ true → i < length rs
    → (get_or rs i d).first + (get_or rs i d).count ≤ end
unfolding without_gap
gap-inside first end [] i d h l = absurd (omega arith)
gap-inside first end (r ∷ rs) zero d h l =
    let e = eqb-true r.first first (and_left (eqb r.first first) _ h) in
    cases (leb (first + r.count) end)
    (λ t. let few = leb-true (first + r.count) end t in omega arith)
    (λ t. clash _ (and_right (eqb r.first first) _ h) (gap-beyond (first + r.count) end rs (leb-false (first + r.count) end t)))
gap-inside first end (r ∷ rs) (suc i) d h l = gap-inside (first + r.count) end rs i d (and_right (eqb r.first first) _ h) (omega arith)

module _ (ws es : List ℕ) (shaped : well_shaped ws es ≡ true) where
  abbrev whole : Bool
  whole = is_whole nation_width ws && is_whole entry_width es

  no_gap : without_gap 0 (nation_rows_in ws) (length (entry_rows_in es)) ≡ true
  unfolding well_shaped
  no_gap = and_right (whole && all_of tags_shaped (nation_rows_in ws) && all_of entry_shaped (entry_rows_in es)) _ shaped

  entries-shaped : all_of entry_shaped (entry_rows_in es) ≡ true
  unfolding well_shaped
  entries-shaped = and_right (whole && all_of tags_shaped (nation_rows_in ws)) _ (and_left (whole && all_of tags_shaped (nation_rows_in ws) && all_of entry_shaped (entry_rows_in es)) _ shaped)

  nations-tagged : all_of tags_shaped (nation_rows_in ws) ≡ true
  unfolding well_shaped
  nations-tagged = and_right whole _ (and_left (whole && all_of tags_shaped (nation_rows_in ws)) _ (and_left (whole && all_of tags_shaped (nation_rows_in ws) && all_of entry_shaped (entry_rows_in es)) _ shaped))

  -- A nation's entries lie inside the entry rows.
  pub nation-inside : (i : ℕ) → i < length (nation_rows_in ws) → (nation_row_at ws i).first + (nation_row_at ws i).count ≤ length (entry_rows_in es)
  unfolding nation_row_at
  nation-inside i h = gap-inside 0 (length (entry_rows_in es)) (nation_rows_in ws) i _ no_gap h

  -- Each nation row has three tags, and each entry row a good date, kind and target.
  pub nation-tags : (i : ℕ) → i < length (nation_rows_in ws) → tags_shaped (nation_row_at ws i) ≡ true
  unfolding nation_row_at
  nation-tags i h = all-get_or-of tags_shaped (nation_rows_in ws) i _ nations-tagged h

  pub entry-good : (i : ℕ) → i < length (entry_rows_in es) → entry_shaped (entry_row_at es i) ≡ true
  unfolding entry_row_at
  entry-good i h = all-get_or-of entry_shaped (entry_rows_in es) i _ entries-shaped h

  -- The entries that a nation's row points at, by their numbers.
  pub nation-entries : (i : ℕ) → i < length (nation_rows_in ws) → nation_at (entry_rows_in es) (nation_row_at ws i) ≡ nation_numbered ws es i
  nation-entries i h =
      let r : NationRow = nation_row_at ws i in
      ap (λ (l : List Entry). record { initial = r.initial; latest = r.latest; stored = r.stored; entries = l })
      (ap (map entry_of) (taken-numbers (entry_rows_in es) (entry_row_at es) (entries_next es) r.count r.first (nation-inside i h))
      ∙ map-then (entry_row_at es) entry_of (numbers_from r.first r.count))

  -- The nations that the words tell are numbered from 0 on.
  pub nations-numbered : nations_in ws es ≡ map (nation_numbered ws es) (numbers_from 0 (length (nation_rows_in ws)))
  unfolding nations_in
  nations-numbered =
      let n : ℕ = length (nation_rows_in ws) in
      ap (map (nation_at (entry_rows_in es))) (dropped-numbers (nation_rows_in ws) (nation_row_at ws) (nations-next ws) n 0 (omega arith))
      ∙ (map-then (nation_row_at ws) (nation_at (entry_rows_in es)) (numbers_from 0 n)
      ∙ map_same _ _ (numbers_from 0 n) (all_map (λ i h. nation-entries i (omega (arith, h.1))) (numbers_from 0 n) (numbers-range 0 n)))

-- ## Opened

-- A chronicle that `open` gave is well shaped.
pub opened_shaped : (ws es : List ℕ) → ◌≡◌ {A = ℕ} 0 (cond (well_shaped ws es) 0 11) → well_shaped ws es ≡ true
opened_shaped ws es e = cases (well_shaped ws es) (λ h. h) (λ h. let n : ◌≡◌ {A = ℕ} 0 11 = rw h at e in absurd (omega arith))
