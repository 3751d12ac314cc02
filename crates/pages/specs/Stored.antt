-- Tables of nations, and the line of a tag by them: inner steps, which no public call's promise cites.
use Rattle.std.specs.Prelude.{◌≡◌, Bool, false, List, map, ℕ, ◌≤◌, leb, length, get_or}
use Rattle.std.proofs.Math.Option.{Option, none, some}
use Rattle.lists.specs.Lists.{join_of}
use Rattle.sorting.specs.Sort.{sort_by}
use Rattle.format.specs.declared.tag.CountryTag.{CountryTag}
use Rattle.rules.specs.NationRows.{nation_width, nation_rows_in, nation_row_of}
use Rattle.rows.specs.declared.lent_rows.LentRows.{LentRows}
use Rattle.format.specs.declared.values.NationRow.{NationRow}
use Rattle.rows.specs.RowAt.{told_left, nation_row_at, tags_stored}
use Rattle.search.specs.Places.{tag_keys_from, place_from}
use Rattle.pages.specs.Lines.{row_line, absent_line}

-- The tags that the nations which an iterator has left are stored under.
abbrev pub stored_left : LentRows NationRow nation_width → List CountryTag
stored_left rows = map (λ n. n.stored) (told_left nation_row_of rows)

-- What the line of a tag is found by: the sorted keys of all nations, and a status cell for each.
pub record LineTables (ws keys : List ℕ) (cells : List Bool) : Type 0 where
  pub few : length (nation_rows_in ws) ≤ 2000
  pub sorted : keys ≡ sort_by leb (tag_keys_from 0 (tags_stored ws))
  pub long : length (nation_rows_in ws) ≤ length cells

-- The line of a tag, by the number of its nation.
abbrev pub line_at : List ℕ → List Bool → CountryTag → Option ℕ → List ℕ
line_at ws cells t none = absent_line t
line_at ws cells t (some i) = row_line (nation_row_at ws i) (get_or cells i false)

unfoldable pub line_of : List ℕ → List Bool → CountryTag → List ℕ
line_of ws cells t = line_at ws cells t (place_from 0 t (tags_stored ws))

-- The lines of tags.
abbrev pub lines_of : List ℕ → List Bool → List CountryTag → List ℕ
lines_of ws cells ts = join_of (line_of ws cells) ts
