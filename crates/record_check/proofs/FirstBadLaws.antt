-- The first bad row, the first section with one, and the fields of a record by its sections.
use mathlib.Core.Path.{◌≡◌, refl, sym, ap, ◌∙◌}
use mathlib.Core.Bool.{cond}
use mathlib.Core.List.{List, [], ◌∷◌, ◌++◌, map}
use Prim.Native.Nat.{ℕ, ◌+◌, ◌<◌, ◌≤◌}
use lib.Dec.{leb}
use lib.ListN.{length, get_or, drop}
use Rattle.std.proofs.lemmas.List.{at_drop_all, at_drop_more}
use Rattle.lists.specs.Lists.{all_of}
use Rattle.lists.proofs.BoolLaws.{cases}
use Rattle.lists.proofs.ListLaws.{map-append}
use Rattle.format.specs.declared.refused.Refusal.{Refusal}
use Rattle.format.specs.Bytes.{tag_at}
use Rattle.format.specs.Rows.{country_at, switch_at, province_at, owner_event_at, war_event_at, ledger_at, point_at}
use Rattle.format.specs.RefusalNumber.{refusal_number}
use Rattle.format.specs.RecordNumber.{first_of, first_in, tag_number, year_number, country_number, switch_number, owner_event_number, war_event_number, head_number, fields_number}
use Rattle.format.proofs.FirstLaws.{first-pass, first-append}
use Rattle.format.proofs.RefusalNumberLaws.{stop}
use Rattle.record_check.specs.declared.parsed.Parsed.{Parsed}

-- So far all rows pass; the next one, read from the bytes of its place, passes too or refuses.
module _ {B A : Type 0} (number : A → ℕ) (read : B → A) (rows : List B) (i : ℕ) where
  abbrev pub left : List B → ℕ
  left l = first_in number (map read l)

  module _ (row : B) (some : i < length rows) (here : row ≡ get_or rows i row) where
    more : left (drop i rows) ≡ left (row ∷ drop (i + 1) rows)
    more = at_drop_more left rows i row some ∙ ap (λ x. left (x ∷ drop (i + 1) rows)) (sym here)

    pub row-passes : 0 ≡ number (read row) → left (drop i rows) ≡ left (drop (i + 1) rows)
    unfolding first_in
    row-passes h = more ∙ first-pass (number (read row)) (map number (map read (drop (i + 1) rows))) (sym h)

    pub row-refuses : (e : Refusal) → refusal_number e ≡ number (read row) → refusal_number e ≡ left (drop i rows)
    unfolding first_in
    row-refuses e h = stop (map number (map read (drop (i + 1) rows))) e h ∙ sym more

  pub rows-pass : length rows ≤ i → 0 ≡ left (drop i rows)
  unfolding first_in first_of
  rows-pass h = sym (at_drop_all left rows i h)

-- Of rows that are read in two parts the first part passes, or refuses all of them.
module _ {B A : Type 0} (number : A → ℕ) (read : B → A) (all block rest : List B) (parts : all ≡ block ++ rest) where
  in-turn : first_in number (map read all) ≡ first_of (first_in number (map read block) ∷ map number (map read rest))
  unfolding first_in
  in-turn =
      ap (λ (l : List B). first_of (map number (map read l))) parts
      ∙ ap (λ (l : List A). first_of (map number l)) (map-append read block rest)
      ∙ ap first_of (map-append number (map read block) (map read rest))
      ∙ first-append (map number (map read block)) (map number (map read rest))

  pub block-passes : 0 ≡ first_in number (map read block) → first_in number (map read all) ≡ first_in number (map read rest)
  unfolding first_in
  block-passes h = in-turn ∙ first-pass (first_in number (map read block)) (map number (map read rest)) (sym h)

  pub block-refuses : (e : Refusal) → refusal_number e ≡ first_in number (map read block) → refusal_number e ≡ first_in number (map read all)
  block-refuses e h = stop (map number (map read rest)) e h ∙ sym in-turn

-- Whichever point has a long year, the number is 9.
pub points-told : (rows : List (List ℕ))
    → cond (all_of (λ row. leb (point_at row 0).year 9999) rows) 0 9 ≡ first_in (λ p. year_number p.year) (map (λ row. point_at row 0) rows)
unfolding first_in first_of
points-told [] = refl
points-told (row ∷ rows) =
    cases (leb (point_at row 0).year 9999)
    (λ h. simp h (points-told rows))
    (λ h. simp h)

-- The numbers of the head and of each section, in the order of the file, are those of the record.
pub fields-told : (p : Parsed) {m : ℕ}
    → m
    ≡ first_of
    (head_number p.head
    ∷ first_in country_number (map (λ row. country_at row 0) p.sections.countries.now)
    ∷ first_in (λ t. tag_number t) (map (λ row. tag_at row 0) p.sections.previous.now)
    ∷ first_in switch_number (map (λ row. switch_at row 0) p.sections.switches.now)
    ∷ first_in (λ r. tag_number r.owner) (map (λ row. province_at row 0) p.sections.provinces.now)
    ∷ first_in owner_event_number (map (λ row. owner_event_at row 0) p.sections.events.now)
    ∷ first_in war_event_number (map (λ row. war_event_at row 0) p.sections.war_events.now)
    ∷ first_in (λ r. tag_number r.tag) (map (λ row. ledger_at row 0) p.sections.ledgers.now)
    ∷ first_in (λ p. year_number p.year) (map (λ row. point_at row 0) p.sections.points.now)
    ∷ [])
    → m ≡ fields_number p.bytes.now
unfolding fields_number
fields-told p told =
    let s = p.rows_read in
    rw (s.countries, s.previous, s.switches, s.provinces, s.events, s.war_events, s.ledgers, s.points, p.head_read) at told
