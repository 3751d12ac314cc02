-- The lines of the page as they are written: inner steps, which no public call's promise cites.
use Rattle.std.specs.Prelude.{Bool, cond, List, [], ◌∷◌, ◌++◌, ℕ, ◌/◌, ◌%◌}
use Rattle.lists.specs.Text.{ascii}
use Rattle.format.specs.declared.tag.CountryTag.{CountryTag}
use Rattle.format.specs.declared.values.NationRow.{NationRow}
use Rattle.rules.specs.Page.{decimal}

-- The three lowest bytes of a tag's word, all that a tag has, with a space behind them.
abbrev pub tag_field : CountryTag → List ℕ
tag_field t = t.0 / 65536 % 256 ∷ t.0 / 256 % 256 ∷ t.0 % 256 ∷ 32 ∷ []

-- A status between a space and a line feed.
abbrev pub status_field : Bool → List ℕ
status_field living = cond living (ascii " living\n") (ascii " annexed\n")

-- What stands behind the three tags: the entry count and the status.
abbrev pub count_field : ℕ → Bool → List ℕ
count_field count living = decimal count ++ status_field living

-- The whole line of a nation row.
abbrev pub row_line : NationRow → Bool → List ℕ
row_line r living = tag_field r.stored ++ (tag_field r.initial ++ (tag_field r.latest ++ count_field r.count living))

-- The line of a tag that no nation is stored under.
abbrev pub absent_line : CountryTag → List ℕ
absent_line t = tag_field t ++ ascii "absent\n"

-- A line of a word and a number.
abbrev pub counted_line : List ℕ → ℕ → List ℕ
counted_line word number = word ++ (decimal number ++ (10 ∷ []))

-- The first line, of so many tags.
abbrev pub heading : ℕ → List ℕ
heading = counted_line (ascii "selected ")
