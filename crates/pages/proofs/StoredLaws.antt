-- The table of nations: the stored tags of all rows, their sorted keys, a tag's line found by them, and how long it can be.
use mathlib.Core.Path.{◌≡◌, sym, ap, ◌∙◌}
use mathlib.Core.Bool.{Bool, true, false}
use mathlib.Core.List.{List, [], ◌∷◌, map}
use mathlib.Core.Option.{Option, none, some}
use Prim.Native.Nat.{ℕ, zero, suc, ◌*◌, ◌/◌, ◌<◌, ◌≤◌}
use native.Mathlib.Omega.{arith}
use borrow.Author.Tests.{ltb-true, le-leb}
use lib.Dec.{leb, ltb}
use lib.ListN.{length, take, drop, get_or, length-map, length-append}
use lib.Seq.{take_at}
use Rattle.std.specs.Prelude as code
use Rattle.std.specs.Prelude.{Some, None}
use Rattle.std.specs.List.{list_all}
use Rattle.std.specs.Simd.{first_chunks}
use Rattle.lists.specs.Lists.{numbers_from}
use Rattle.lists.specs.Options.{option_of}
use Rattle.lists.proofs.BoolLaws.{and_left, and_right}
use Rattle.lists.proofs.ListLaws.{map-then}
use Rattle.sorting.specs.Sort.{sort_by}
use Rattle.sorting.proofs.SortedKeyLaws.{sort-again}
use Rattle.format.specs.declared.tag.CountryTag.{CountryTag}
use Rattle.rules.specs.Lent.{written}
use Rattle.format.specs.declared.values.NationRow.{NationRow}
use Rattle.rules.specs.NationRows.{nation_rows_in, nation_width, nation_row_of}
use Rattle.rows.specs.RowAt.{nation_row_at, tags_stored}
use Rattle.rows.proofs.RowAtLaws.{nations-next, nation_rows_told}
use Rattle.rows.proofs.NumberedLaws.{dropped-numbers}
use Rattle.search.specs.Places.{tag_keys_from, place_from, place_in, keys_per_tag}
use Rattle.search.proofs.PlaceLaws.{length-tag-keys, place-among, place_inside}
use Rattle.pages.specs.Lines.{row_line, absent_line}
use Rattle.pages.proofs.LengthLaws.{row-short}
use Rattle.pages.specs.declared.lines.TheConstants.{FEW_ENTRIES, SHORT_LINE}
use Rattle.pages.specs.Stored.{LineTables, line_at, line_of, lines_of}

-- A sort is in order.
pub sorted-again : (keys sorted : List ℕ) → sorted ≡ sort_by leb keys → sort_by leb sorted ≡ sorted
sorted-again keys sorted e = rw e (sort-again keys)

-- ## The stored tags of all rows

module _ (ws : List ℕ) where
  abbrev rows : List NationRow
  rows = nation_rows_in ws

  -- By their numbers from 0 on.
  pub rows-numbered : rows ≡ map (nation_row_at ws) (numbers_from 0 (length rows))
  rows-numbered = dropped-numbers rows (nation_row_at ws) (nations-next ws) (length rows) 0 (omega arith)

  pub tags-rows : tags_stored ws ≡ map (λ r. r.stored) rows
  tags-rows =
      sym (map-then (nation_row_at ws) (λ (r : NationRow). r.stored) (numbers_from 0 (length rows)))
      ∙ sym (ap (map (λ (r : NationRow). r.stored)) rows-numbered)

  length-tags : length (tags_stored ws) ≡ length rows
  length-tags = ap length tags-rows ∙ length-map rows (λ (r : NationRow). r.stored)

  -- As an iterator over all rows gives them.
  module _ (xs : List (List ℕ)) (all : map nation_row_of xs ≡ map nation_row_of (first_chunks nation_width (length ws / nation_width) ws)) where
    pub rows-left : map nation_row_of xs ≡ rows
    rows-left = all ∙ nation_rows_told ws

    pub tags-left : map (λ n. n.stored) (map nation_row_of xs) ≡ tags_stored ws
    tags-left =
        ap (map (λ (r : NationRow). r.stored)) rows-left ∙ sym tags-rows

    pub count-left : length (map nation_row_of xs) ≡ length rows
    count-left = ap length rows-left

    pub count-tags : length (map (λ n. n.stored) (map nation_row_of xs)) ≡ length rows
    count-tags = ap length tags-left ∙ length-tags

  -- ## Their keys

  abbrev all-keys : List ℕ
  all-keys = tag_keys_from 0 (tags_stored ws)

  length-all : length all-keys ≡ length rows
  length-all = length-tag-keys 0 (tags_stored ws) ∙ length-tags

  -- Sorted in the cells that they were written to, all of them.
  pub keys-sorted : (n : ℕ) (cells₀ cells sorted : List ℕ) (tags : List CountryTag) → tags ≡ tags_stored ws → n ≡ length tags
      → cells ≡ written (tag_keys_from 0 tags) cells₀ → sorted ≡ sort_by leb (take n cells) → sorted ≡ sort_by leb all-keys
  keys-sorted n cells₀ cells sorted tags e l w s =
      let front : take n cells ≡ tag_keys_from 0 tags =
      ap (take n) w ∙ take_at (tag_keys_from 0 tags) (drop (length (tag_keys_from 0 tags)) cells₀) n (length-tag-keys 0 tags ∙ sym l) in
      s ∙ ap (sort_by leb) (front ∙ ap (tag_keys_from 0) e)

-- ## A tag's line

module _ {ws keys : List ℕ} {cells : List Bool} (x : LineTables ws keys cells) (tag : CountryTag) (r : code.Option ℕ)
    (told : option_of r ≡ place_in keys tag) where
  placed : option_of r ≡ place_from 0 tag (tags_stored ws)
  placed = told ∙ place-among tag (tags_stored ws) (omega (arith, length-tags ws, x.few)) keys x.sorted

  line-placed : {o : Option ℕ} → option_of r ≡ o → line_of ws cells tag ≡ line_at ws cells tag o
  unfolding line_of
  line-placed e = ap (line_at ws cells tag) (sym placed ∙ e)

  pub line-nowhere : r ≡ None → line_of ws cells tag ≡ absent_line tag
  line-nowhere e = line-placed (ap option_of e)

  module _ {i : ℕ} (e : r ≡ Some i) where
    pub place-within : i < length cells
    place-within = omega (arith, place_inside tag (tags_stored ws) i (sym placed ∙ ap option_of e), length-tags ws, x.long)

    pub line-there : (n : NationRow) → n ≡ nation_row_at ws i → line_of ws cells tag ≡ row_line n (get_or cells i false)
    line-there n q = line-placed (ap option_of e) ∙ ap (λ (m : NationRow). row_line m (get_or cells i false)) (sym q)

-- ## No line is longer than a short one, where each count is short

row-at-short : (rs : List NationRow) (i : ℕ) (d : NationRow) → d.count < FEW_ENTRIES → list_all (λ r. ltb r.count FEW_ENTRIES) rs ≡ true → (get_or rs i d).count < FEW_ENTRIES
row-at-short [] i d h e = h
row-at-short (r ∷ rs) zero d h e = ltb-true r.count FEW_ENTRIES (and_left (ltb r.count FEW_ENTRIES) _ e)
row-at-short (r ∷ rs) (suc i) d h e = row-at-short rs i d h (and_right (ltb r.count FEW_ENTRIES) _ e)

module _ (ws : List ℕ) (cells : List Bool) (few : list_all (λ r. ltb r.count FEW_ENTRIES) (nation_rows_in ws) ≡ true) where
  line-at-short : (t : CountryTag) (o : Option ℕ) → length (line_at ws cells t o) ≤ SHORT_LINE
  unfolding nation_row_at
  line-at-short t none = omega arith
  line-at-short t (some i) = row-short (nation_row_at ws i) (get_or cells i false) (row-at-short (nation_rows_in ws) i _ (omega arith) few)

  lines-short : (ts : List CountryTag) → length (lines_of ws cells ts) ≤ SHORT_LINE * length ts
  unfolding line_of
  lines-short [] = omega arith
  lines-short (t ∷ ts) = omega (arith, length-append (line_of ws cells t) (lines_of ws cells ts), line-at-short t (place_from 0 t (tags_stored ws)), lines-short ts)

  pub lines-have-room : (ts : List CountryTag) (room : ℕ) → length ts ≤ room / SHORT_LINE → leb (length (lines_of ws cells ts)) room ≡ true
  lines-have-room ts room h = le-leb (length (lines_of ws cells ts)) room (omega (arith, lines-short ts, h))
