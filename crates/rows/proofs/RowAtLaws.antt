-- A row by its number, from its words; and the rows from a number on.
use mathlib.Core.Path.{◌≡◌, refl, sym, ap, ◌∙◌}
use mathlib.Core.List.{List, [], ◌∷◌, map}
use Prim.Native.Nat.{ℕ, zero, suc, ◌+◌, ◌-◌, ◌/◌, ◌<◌, ◌≤◌}
use native.Mathlib.Numerals.{add-one}
use native.Mathlib.Omega.{arith}
use lib.ListN.{length, get_or, take, drop, length-map}
use lib.Seq.{drop-cons}
use Rattle.std.specs.Simd.{first_chunks}
use Rattle.lists.specs.Lists.{rows_in, whole_rows}
use Rattle.lists.proofs.ListLaws.{map-then}
use Rattle.rules.specs.NationRows.{nation_width, nation_row_of, entry_width, entry_row_of, nation_rows_in, entry_rows_in}
use Rattle.rows.specs.RowAt.{nation_row_at, entry_row_at, entry_at, entries_at}

-- ## Rows of any width

length-rows : {A : Type 0} (width n : ℕ) (ws : List A) → length (rows_in width n ws) ≡ n
length-rows width zero ws = refl
length-rows width (suc n) ws = ap suc (length-rows width n _)

map-get_or : {A B : Type 0} (f : A → B) (xs : List A) (i : ℕ) (d : A) → get_or (map f xs) i (f d) ≡ f (get_or xs i d)
map-get_or f [] i d = refl
map-get_or f (x ∷ xs) zero d = refl
map-get_or f (x ∷ xs) (suc i) d = map-get_or f xs i d

-- The arrays that std divides words into are their rows.
pub chunks-rows : {A : Type 0} (width n : ℕ) (ws : List A) → first_chunks width n ws ≡ rows_in width n ws
chunks-rows width zero ws = refl
chunks-rows width (suc n) ws = ap (λ (l : List (List _)). take width ws ∷ l) (chunks-rows width n (drop width ws))

module _ {A : Type 0} (width : ℕ) (f : List ℕ → A) (ws : List ℕ) where
  -- The rows that the words make.
  abbrev pub rows_of : List A
  rows_of = map f (whole_rows width ws)

  pub rows-count : length ws / width ≡ length rows_of
  rows-count = sym (length-map (whole_rows width ws) f ∙ length-rows width (length ws / width) ws)

  module _ (i : ℕ) where
    -- Row number i is made of its own words.
    pub row-here : f (get_or (whole_rows width ws) i []) ≡ get_or rows_of i (f [])
    row-here = sym (map-get_or f (whole_rows width ws) i [])

    -- Row number i is made of its own words, read as an array; past the last stands one that reads as no words do.
    pub array-here : (blank : List ℕ) → f blank ≡ f [] → f (get_or (first_chunks width (length ws / width) ws) i blank) ≡ get_or rows_of i (f [])
    array-here blank e = rw (chunks-rows width (length ws / width) ws) (sym (map-get_or f (whole_rows width ws) i blank) ∙ rw e)

    -- The rows from a number on begin with the row of that number.
    pub rows_next : i < length rows_of → drop i rows_of ≡ get_or rows_of i (f []) ∷ drop (i + 1) rows_of
    rows_next h = rw (add-one i) (drop-cons rows_of i (f []) h)

-- ## Nation rows

module _ (ws : List ℕ) where
  pub nation_rows_count : length ws / nation_width ≡ length (nation_rows_in ws)
  unfolding nation_rows_in
  nation_rows_count = rows-count nation_width nation_row_of ws

  module _ (i : ℕ) where
    pub nation_here : nation_row_of (get_or (first_chunks nation_width (length ws / nation_width) ws) i (0 ∷ 0 ∷ 0 ∷ 0 ∷ 0 ∷ [])) ≡ nation_row_at ws i
    unfolding nation_row_at nation_rows_in
    nation_here = array-here nation_width nation_row_of ws i _ refl

    pub nations-next : i < length (nation_rows_in ws) → drop i (nation_rows_in ws) ≡ nation_row_at ws i ∷ drop (i + 1) (nation_rows_in ws)
    unfolding nation_row_at nation_rows_in
    nations-next h = rows_next nation_width nation_row_of ws i h

-- The rows that an iterator over the words has left are what the words make.
pub nation_rows_told : (ws : List ℕ) → map nation_row_of (first_chunks nation_width (length ws / nation_width) ws) ≡ nation_rows_in ws
unfolding nation_rows_in
nation_rows_told ws = ap (map nation_row_of) (chunks-rows nation_width (length ws / nation_width) ws)

-- ## Entry rows

module _ (es : List ℕ) where
  module _ (i : ℕ) where
    pub entry_here : entry_row_of (get_or (first_chunks entry_width (length es / entry_width) es) i (0 ∷ 0 ∷ 0 ∷ [])) ≡ entry_row_at es i
    unfolding entry_row_at entry_rows_in
    entry_here = array-here entry_width entry_row_of es i _ refl

    pub entries_next : i < length (entry_rows_in es) → drop i (entry_rows_in es) ≡ entry_row_at es i ∷ drop (i + 1) (entry_rows_in es)
    unfolding entry_row_at entry_rows_in
    entries_next h = rows_next entry_width entry_row_of es i h

-- ## The entries that a nation's row counts

module _ (es : List ℕ) where
  pub counted_all : (first count : ℕ) → entries_at es first (first + count - first) ≡ entries_at es first count
  counted_all first count = let e : first + count - first ≡ count = omega arith in rw e refl

  module _ (at end : ℕ) where
    pub counted_next : at < end → entries_at es at (end - at) ≡ entry_at es at ∷ entries_at es (at + 1) (end - (at + 1))
    counted_next h = let e : end - at ≡ suc (end - (at + 1)) = omega arith in rw (e, add-one at)

    pub counted_end : end ≤ at → entries_at es at (end - at) ≡ []
    counted_end h = let e : end - at ≡ 0 = omega arith in rw e

pub ruleset counted_entries = (counted_all, counted_next, counted_end)
