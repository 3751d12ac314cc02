-- The tests of shape, word by word and row by row.
use mathlib.Core.Path.{◌≡◌, refl, sym, ◌∙◌}
use mathlib.Core.Bool.{Bool, true, false, not, ◌&&◌}
use mathlib.Core.List.{List, [], ◌∷◌, map}
use mathlib.Core.Option.{some, none, none-ne-some}
use Prim.Native.Nat.{ℕ, zero, suc, ◌+◌, ◌-◌, ◌/◌, ◌%◌, ◌<◌, ◌≤◌}
use native.Mathlib.Numerals.{add-one}
use native.Mathlib.Omega.{arith}
use borrow.Author.Tests.{leb-true, leb-false, ne_eqb, not-true, not-false}
use lib.Dec.{leb, eqb}
use lib.ListN.{length, get_or, drop, length-map}
use lib.Seq.{drop-length, drop-cons}
use Rattle.std.specs.Prelude.{Ok, Err, Result, cond, is_ok}
use Rattle.std.specs.Simd.{first_chunks}
use Rattle.lists.specs.Lists.{all_of, is_whole, whole_rows}
use Rattle.lists.specs.Options.{ok_of}
use Rattle.lists.proofs.BoolLaws.{cases, and_left, and_right, and-false}
use Rattle.format.specs.declared.tag.CountryTag.{CountryTag}
use Rattle.format.specs.declared.date.Eu4Date.{Eu4Date}
use Rattle.format.specs.Dates.{good_date, date_of_word}
use Rattle.format.specs.Tags.{is_tag, tag_of_word, tested}
use Rattle.format.specs.declared.values.NationRow.{NationRow}
use Rattle.rules.specs.NationRows.{nation_row_of, entry_row_of, nation_width, entry_width, nation_rows_in, entry_rows_in, tags_shaped, kind_shaped, entry_shaped, without_gap, well_shaped}
use Rattle.rows.proofs.RowAtLaws.{chunks-rows}

-- ## Kinds

pub switch_shaped : (kind target : ℕ) (t : CountryTag) → kind ≡ 0 → t.0 ≡ target → is_tag t ≡ kind_shaped kind target
unfolding kind_shaped
switch_shaped zero target t h e = rw (← e)
switch_shaped (suc k) target t h e = absurd (omega arith)

-- What is made of a value where it passes a test tells of the test.
ok_if : {A E : Type 0} (r : Result A E) (b : Bool) (x : A) → ok_of r ≡ cond b (some x) none → is_ok r ≡ b
ok_if (Ok y) true x h = refl
ok_if (Ok y) false x h = absurd (none-ne-some y (sym h))
ok_if (Err e) true x h = absurd (none-ne-some x h)
ok_if (Err e) false x h = refl

-- A switch is shaped if a tag can be made of its target, and a date is good if one can be made of its word.
pub switch_made : {E : Type 0} (kind target : ℕ) (r : Result CountryTag E) → kind ≡ 0 → ok_of r ≡ tag_of_word target → is_ok r ≡ kind_shaped kind target
unfolding tested
switch_made kind target r h e =
    let t : CountryTag = record { 0 = target } in
    ok_if r (is_tag t) t e ∙ switch_shaped kind target t h refl

pub date_made : {E : Type 0} (word : ℕ) (r : Result Eu4Date E) → ok_of r ≡ date_of_word word → is_ok r ≡ good_date (record { 0 = word })
unfolding date_of_word
date_made word r e = ok_if r (good_date (record { 0 = word })) (record { 0 = word }) e

pub life_shaped : (kind target : ℕ) → (kind ≡ 0 → ⊥) → leb kind 2 && eqb target 0 ≡ kind_shaped kind target
unfolding kind_shaped
life_shaped zero target h = absurd (h refl)
life_shaped (suc k) target h = refl

-- ## Without gap

pub gap-beyond : (first end : ℕ) (rs : List NationRow) → end < first → without_gap first rs end ≡ false
unfolding without_gap
gap-beyond first end [] h = ne_eqb first end (λ e. omega arith)
gap-beyond first end (r ∷ rs) h = rw (gap-beyond (first + r.count) end rs (omega arith)) (and-false (eqb r.first first))

gap-cons : (first end : ℕ) (r : NationRow) (rs : List NationRow) → without_gap first (r ∷ rs) end ≡ (eqb r.first first && without_gap (first + r.count) rs end)
unfolding without_gap
gap-cons first end r rs = refl

gap-none : (first end : ℕ) → without_gap first [] end ≡ eqb first end
unfolding without_gap
gap-none first end = refl

-- Tags and entries of rows, the entries from a number on.
abbrev pub follow : ℕ → List NationRow → ℕ → Bool
follow first rs end = all_of tags_shaped rs && without_gap first rs end

-- The rows from number i on, with their entries from `next` on, tell of all rows.
pub record Following (rows : List (List ℕ)) (end next i : ℕ) : Type 0 where
  pub inside : i ≤ length rows
  pub room : next ≤ end
  pub tells : follow next (map nation_row_of (drop i rows)) end ≡ follow 0 (map nation_row_of rows) end

-- The test of one row, as the code makes it.
abbrev row_fits : NationRow → ℕ → ℕ → Bool
row_fits row end next = tags_shaped row && eqb row.first next && leb row.count (end - next)

row-fits : (row : NationRow) (rest : List NationRow) (end next : ℕ) → next ≤ end → row_fits row end next ≡ true
    → (next + row.count ≤ end) × (follow next (row ∷ rest) end ≡ follow (next + row.count) rest end)
row-fits row rest end next room h =
    let tags = tags_shaped row in
    let first = eqb row.first next in
    let both = and_left (tags && first) (leb row.count (end - next)) h in
    let few = leb-true row.count (end - next) (and_right (tags && first) (leb row.count (end - next)) h) in
    (omega arith, simp (gap-cons next end row rest, and_left tags first both, and_right tags first both))

row-fails : (row : NationRow) (rest : List NationRow) (end next : ℕ) → next ≤ end → row_fits row end next ≡ false → follow next (row ∷ rest) end ≡ false
row-fails row rest end next room h =
    rw (gap-cons next end row rest)
    (cases (tags_shaped row)
    (λ t. cases (eqb row.first next)
    (λ f. let many = leb-false row.count (end - next) (simp (t, f) at h) in
    simp (t, f, gap-beyond (next + row.count) end rest (omega arith), and-false))
    (λ f. simp (t, f, and-false)))
    (λ t. simp t))

-- The code has read row number i, and tested it.
module _ (rows : List (List ℕ)) (end next i : ℕ) (row : NationRow) (read : row ≡ nation_row_of (get_or rows i [])) (inside : i < length rows) (f : Following rows end next i) where
  more : map nation_row_of (drop i rows) ≡ row ∷ map nation_row_of (drop (i + 1) rows)
  more = rw (drop-cons rows i [] inside, read, add-one) refl

  module _ (t : Bool) (e : t ≡ tags_shaped row) where
    pub follow_pass : not (t && eqb row.first next && leb row.count (end - next)) ≡ false → Following rows end (next + row.count) (i + 1)
    follow_pass h =
        let step = row-fits row (map nation_row_of (drop (i + 1) rows)) end next f.room (rw e at (not-false (t && eqb row.first next && leb row.count (end - next)) h)) in
        record { inside = omega arith; room = step.0; tells = sym step.1 ∙ (rw more at f.tells) }

    pub follow_stop : not (t && eqb row.first next && leb row.count (end - next)) ≡ true → false ≡ follow 0 (map nation_row_of rows) end
    follow_stop h =
        sym (row-fails row (map nation_row_of (drop (i + 1) rows)) end next f.room (rw e at (not-true (t && eqb row.first next && leb row.count (end - next)) h)))
        ∙ (rw more at f.tells)

pub follow_end : (rows : List (List ℕ)) (end next : ℕ) → Following rows end next (length rows) → eqb next end ≡ follow 0 (map nation_row_of rows) end
follow_end rows end next f = sym (gap-none next end) ∙ (rw (drop-length rows) at f.tells)

-- ## Well shaped

-- What a test of each array found is what `all_of` says of their rows.
each-all : {A : Type 0} (p : A → Bool) (f : List ℕ → A) (rows : List (List ℕ)) → ((k : ℕ) → k < length rows → p (f (get_or rows k [])) ≡ true) → all_of p (map f rows) ≡ true
each-all p f [] h = refl
each-all p f (r ∷ rs) h = simp (h 0 (omega arith)) (each-all p f rs (λ k l. h (suc k) (omega arith)))

all-each : {A : Type 0} (p : A → Bool) (f : List ℕ → A) (rows : List (List ℕ)) → all_of p (map f rows) ≡ true → (k : ℕ) → k < length rows → p (f (get_or rows k [])) ≡ true
all-each p f [] h k l = absurd (omega arith)
all-each p f (r ∷ rs) h zero l = and_left (p (f r)) _ h
all-each p f (r ∷ rs) h (suc k) l = all-each p f rs (and_right (p (f r)) _ h) k (omega arith)

pub rows-pass : {A : Type 0} (p : A → Bool) (f : List ℕ → A) (rows : List (List ℕ)) (b : Bool) → (b ≡ true → (k : ℕ) → k < length rows → p (f (get_or rows k [])) ≡ true)
    → (((k : ℕ) → k < length rows → p (f (get_or rows k [])) ≡ true) → b ≡ true) → b ≡ all_of p (map f rows)
rows-pass p f rows b to back = go b (all_of p (map f rows)) (λ h. each-all p f rows (to h)) (λ h. back (all-each p f rows h))
  where
    go : (a c : Bool) → (a ≡ true → c ≡ true) → (c ≡ true → a ≡ true) → a ≡ c
    go true c u v = sym (u refl)
    go false true u v = v refl
    go false false u v = refl

rearranged : (w a b c : Bool) → w && a && b && c ≡ w && (a && c) && b
rearranged false a b c = refl
rearranged true false b c = refl
rearranged true true false c = sym (and-false c)
rearranged true true true true = refl
rearranged true true true false = refl

-- Of words divided into arrays.
module _ (ws es : List ℕ) (ns ents : List (List ℕ)) (p : ns ≡ first_chunks nation_width (length ws / nation_width) ws) (q : ents ≡ first_chunks entry_width (length es / entry_width) es) where
  by_parts : well_shaped ws es ≡ (is_whole nation_width ws && is_whole entry_width es) && follow 0 (map nation_row_of ns) (length ents) && all_of entry_shaped (map entry_row_of ents)
  unfolding well_shaped nation_rows_in entry_rows_in
  by_parts = rw (p, q, chunks-rows, chunks-rows, ← length-map (whole_rows entry_width es) entry_row_of) (rearranged (is_whole nation_width ws && is_whole entry_width es) _ _ _)

  module _ (a b : List ℕ) (x : length a ≡ length ws % nation_width) (y : length b ≡ length es % entry_width) where
    pub torn : not (eqb (length a) 0 && eqb (length b) 0) ≡ true → false ≡ well_shaped ws es
    torn h = let t = not-true (eqb (length a) 0 && eqb (length b) 0) h in sym (by_parts ∙ rw (← x, ← y, t))

    module _ (h : not (eqb (length a) 0 && eqb (length b) 0) ≡ false) where
      whole : well_shaped ws es ≡ follow 0 (map nation_row_of ns) (length ents) && all_of entry_shaped (map entry_row_of ents)
      whole = let t = not-false (eqb (length a) 0 && eqb (length b) 0) h in by_parts ∙ rw (← x, ← y, t)

      pub not-following : (f : Bool) → f ≡ follow 0 (map nation_row_of ns) (length ents) → f ≡ false → f ≡ well_shaped ws es
      not-following f e g = sym (whole ∙ rw (← e, g))

      pub by_entries : (f g : Bool) → f ≡ follow 0 (map nation_row_of ns) (length ents) → f ≡ true
          → (g ≡ true → (k : ℕ) → k < length ents → entry_shaped (entry_row_of (get_or ents k [])) ≡ true)
          → (((k : ℕ) → k < length ents → entry_shaped (entry_row_of (get_or ents k [])) ≡ true) → g ≡ true)
          → g ≡ well_shaped ws es
      by_entries f g e t to back =
          rows-pass entry_shaped entry_row_of ents g to back
          ∙ sym (whole ∙ rw (← e, t))
