-- What the cells of countries hold: inner steps.
use Rattle.std.specs.Prelude as code
use Rattle.std.specs.Prelude.{None, Some, cond, ◌&&◌, List, [], ◌∷◌, ℕ, zero, suc, ◌+◌, ◌%◌, ltb, eqb, length, get_or, set}
use Rattle.std.proofs.Math.Option.{Option, none, some}
use Rattle.format.specs.declared.tag.CountryTag.{CountryTag}
use Rattle.rules.specs.HistoryRows.{nation_word}
use Rattle.rows.specs.RowAt.{tags_stored}
use Rattle.search.specs.Places.{place_from}

-- The number plus 1 of the first nation stored under a tag; 0 without one.
abbrev pub stored_word : List ℕ → CountryTag → ℕ
stored_word ws t = nation_word (place_from 0 t (tags_stored ws))

-- Cells with a word at a place, unless a word stood there; a place past the end has none.
abbrev pub marked_at : List ℕ → Option ℕ → ℕ → List ℕ
marked_at cells none word = cells
marked_at cells (some p) word = cond (ltb p (length cells) && eqb (get_or cells p 0) 0) (set cells p word) cells

-- The same for each of the tags, by the place that each has, with words from a + 1 on.
unfoldable pub marked_from : (CountryTag → Option ℕ) → List ℕ → ℕ → List CountryTag → List ℕ
marked_from place cells a [] = cells
marked_from place cells a (x ∷ xs) = marked_from place (marked_at cells (place x) (a + 1)) (a + 1) xs

-- The cell at a place; 0 for none.
abbrev pub cell_at_place : List ℕ → Option ℕ → ℕ
cell_at_place cells none = 0
cell_at_place cells (some p) = get_or cells p 0

-- The number that a cell holds, of which 32 bits are kept.
abbrev pub number_in_cell : ℕ → code.Option ℕ
number_in_cell zero = None
number_in_cell (suc n) = Some (n % 4294967296)
