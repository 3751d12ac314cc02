-- The cells of countries: each holds the first nation that is stored under its tag.
use mathlib.Core.Path.{◌≡◌, refl, sym, ap, subst, ◌∙◌}
use mathlib.Core.Bool.{cond, ◌&&◌}
use mathlib.Core.List.{List, [], ◌∷◌, ◌++◌, map, append_assoc}
use mathlib.Core.Option.{Option, none, some}
use Prim.Native.Nat.{ℕ, ◌+◌, ◌<◌, ◌≤◌}
use native.Mathlib.Omega.{arith}
use native.Mathlib.Decide.{ℕ_discrete}
use borrow.Author.Tests.{eqb-true, eq-eqb, ne_eqb, lt-ltb}
use lib.Dec.{eqb, ltb}
use lib.ListN.{length, get_or, set, length-set}
use lib.Seq.{get_or-set_same, get_or-set_other}
use Rattle.lists.specs.Lists.{All, numbers_from}
use Rattle.lists.proofs.ListLaws.{map-then}
use Rattle.lists.proofs.BoolLaws.{cases, clash}
use Rattle.format.specs.declared.tag.CountryTag.{CountryTag}
use Rattle.format.specs.Tags.{same_tag}
use Rattle.format.specs.Campaign.{Country}
use Rattle.format.specs.declared.values.NationRow.{NationRow}
use Rattle.rules.specs.NationRows.{nation_rows_in}
use Rattle.rules.specs.HistoryRows.{nation_word}
use Rattle.search.specs.Places.{place_from}
use Rattle.search.proofs.PlaceLaws.{place_inside, place-has}
use Rattle.rows.specs.RowAt.{nation_row_at, tags_stored}
use Rattle.rows.proofs.RowAtLaws.{nations-next}
use Rattle.rows.proofs.NumberedLaws.{dropped-numbers}
use Rattle.players.specs.Marks.{stored_word, marked_at, marked_from, cell_at_place}

-- ## A mark for each nation

-- The tags that nations are stored under, by their rows.
pub tags-read : (ws : List ℕ) → map (λ r. r.stored) (nation_rows_in ws) ≡ tags_stored ws
tags-read ws =
    let n : ℕ = length (nation_rows_in ws) in
    ap (map (λ (r : NationRow). r.stored)) (dropped-numbers (nation_rows_in ws) (nation_row_at ws) (nations-next ws) n 0 (omega arith))
    ∙ map-then (nation_row_at ws) (λ (r : NationRow). r.stored) (numbers_from 0 n)

-- What is left of the rows tells of all cells.
abbrev pub marks_left : (CountryTag → Option ℕ) → List ℕ → ℕ → List NationRow → List ℕ
marks_left place cells a rows = marked_from place cells a (map (λ r. r.stored) rows)

module _ (place : CountryTag → Option ℕ) (cells : List ℕ) (a : ℕ) where
  pub marks-end : (rows : List NationRow) → rows ≡ [] → marks_left place cells a rows ≡ cells
  unfolding marked_from
  marks-end rows e = rw e

  pub marks_next : (rows rest : List NationRow) (r : NationRow) → rows ≡ r ∷ rest → (cells' : List ℕ) (o : Option ℕ) → o ≡ place r.stored → cells' ≡ marked_at cells o (a + 1)
      → marks_left place cells' (a + 1) rest ≡ marks_left place cells a rows
  unfolding marked_from
  marks_next rows rest r e cells' o f g = rw (e, g, f) refl

-- ## What each cell holds in the end

-- The word that stands there, or else another.
abbrev or_word : ℕ → ℕ → ℕ
or_word cell word = cond (eqb cell 0) word cell

or-none : (cell : ℕ) → cell ≡ or_word cell 0
or-none cell = cases (eqb cell 0) (λ h. simp h (eqb-true cell 0 h)) (λ h. simp h)

or-taken : (cell word : ℕ) → (cell ≡ 0 → ⊥) → or_word cell word ≡ cell
or-taken cell word h = rw (ne_eqb cell 0 h)

module _ (cells : List ℕ) (word : ℕ) where
  mark-long : (o : Option ℕ) → length (marked_at cells o word) ≡ length cells
  mark-long none = refl
  mark-long (some q) =
      cases (ltb q (length cells) && eqb (get_or cells q 0) 0) (λ h. simp h (length-set cells q word)) (λ h. simp h)

  -- A mark elsewhere leaves a cell as it is.
  mark-other : (o : Option ℕ) (p : ℕ) → (o ≡ some p → ⊥) → get_or (marked_at cells o word) p 0 ≡ get_or cells p 0
  mark-other none p h = refl
  mark-other (some q) p h =
      cases (ltb q (length cells) && eqb (get_or cells q 0) 0)
      (λ t. simp t (get_or-set_other cells q p word 0 (λ e. h (ap some (sym e)))))
      (λ t. simp t)

  -- At its place it stays if it was there, and is the word if not.
  mark-at : (p rest : ℕ) → p < length cells → 0 < word → or_word (get_or (marked_at cells (some p) word) p 0) rest ≡ or_word (get_or cells p 0) word
  mark-at p rest h w =
      elim (ℕ_discrete (get_or cells p 0) 0) as (λ _. or_word (get_or (marked_at cells (some p) word) p 0) rest ≡ or_word (get_or cells p 0) word) [
        | yes z ↦ let s : marked_at cells (some p) word ≡ set cells p word = rw (lt-ltb p (length cells) h, z) in
            rw (s, get_or-set_same cells p word 0 h, z) (or-taken word rest (λ e. omega arith))
        | no z ↦ let s : marked_at cells (some p) word ≡ cells = rw (lt-ltb p (length cells) h, ne_eqb (get_or cells p 0) 0 z) in
            rw s (or-taken (get_or cells p 0) rest z ∙ sym (or-taken (get_or cells p 0) word z))
      ]

module _ (ts : List CountryTag) (t : CountryTag) (p : ℕ) (at : place_from 0 t ts ≡ some p) where
  -- Each tag's place among these.
  abbrev among : CountryTag → Option ℕ
  among y = place_from 0 y ts

  pub marked-word : (xs : List CountryTag) (a : ℕ) (cells : List ℕ) → length ts ≤ length cells
      → get_or (marked_from among cells a xs) p 0 ≡ or_word (get_or cells p 0) (nation_word (place_from a t xs))
  unfolding marked_from place_from
  marked-word [] a cells h = or-none (get_or cells p 0)
  marked-word (x ∷ xs) a cells h =
      let o : Option ℕ = place_from 0 x ts in
      let rest = marked-word xs (a + 1) (marked_at cells o (a + 1)) (rw (mark-long cells (a + 1) o) h) in
      let word : ℕ = nation_word (place_from (a + 1) t xs) in
      cases (same_tag x t)
      (λ e. let same : x ≡ t = ap (λ (w : ℕ). record { 0 = w }) (eqb-true x.0 t.0 e) in
      let here : o ≡ some p = ap (λ (y : CountryTag). place_from 0 y ts) same ∙ at in
      let inside : p < length cells = omega (arith, place_inside t ts p at) in
      simp e (rest ∙ ap (λ (q : Option ℕ). or_word (get_or (marked_at cells q (a + 1)) p 0) word) here ∙ mark-at cells (a + 1) p word inside (omega arith)))
      (λ e. let apart : (o ≡ some p → ⊥) = λ q. clash _ (eq-eqb x.0 t.0 (ap (λ (y : CountryTag). y.0) (sym (place-has x ts p t q) ∙ place-has t ts p t at))) e in
      simp e (rest ∙ ap (λ (c : ℕ). or_word c word) (mark-other cells (a + 1) o p apart)))

  -- From cells of nothing, each place's cell is the first nation's stored under its tag.
  pub stored-word : (ws cells : List ℕ) → length ts ≤ length cells → ((q : ℕ) → get_or cells q 0 ≡ 0)
      → cell_at_place (marked_from among cells 0 (tags_stored ws)) (place_from 0 t ts) ≡ stored_word ws t
  stored-word ws cells h blank = rw at (marked-word (tags_stored ws) 0 cells h ∙ rw (blank p) refl)

-- ## Every country has a place

has-place : (a : ℕ) (t : CountryTag) (pre rest : List CountryTag) → (p : ℕ) × (place_from a t (pre ++ (t ∷ rest)) ≡ some p)
unfolding place_from
has-place a t [] rest = (a, simp (eq-eqb t.0 t.0 refl))
has-place a t (x ∷ pre) rest =
    cases (same_tag x t)
    (λ e. (a, simp e))
    (λ e. let found = has-place (a + 1) t pre rest in (found.0, simp e found.1))

pub all-placed : (pre : List CountryTag) (ks : List Country) → All (λ k. (p : ℕ) × (place_from 0 k.tag (pre ++ map (λ j. j.tag) ks) ≡ some p)) ks
all-placed pre [] = tt
all-placed pre (k ∷ ks) = (
  has-place 0 k.tag pre (map (λ j. j.tag) ks),
  subst (λ (ts : List CountryTag). All (λ j. (p : ℕ) × (place_from 0 j.tag ts ≡ some p)) ks) (append_assoc pre (k.tag ∷ []) (map (λ j. j.tag) ks)) (all-placed (pre ++ (k.tag ∷ [])) ks),
)
