-- The cells of all nations: whether each is living, by the rule.
use mathlib.Core.Path.{◌≡◌, sym, ap, ◌∙◌}
use mathlib.Core.Bool.{Bool, true}
use mathlib.Core.List.{List, ◌++◌, map}
use Prim.Native.Nat.{ℕ, ◌/◌, ◌≤◌}
use native.Mathlib.Omega.{arith}
use lib.ListN.{length, take, drop, length-map, length-append}
use lib.Seq.{take_at}
use Rattle.std.specs.Simd.{first_chunks}
use Rattle.lists.specs.Lists.{numbers_from}
use Rattle.lists.proofs.ListLaws.{map-then}
use Rattle.format.specs.declared.values.NationRow.{NationRow}
use Rattle.rules.specs.NationRows.{nation_width, nation_rows_in, nations_in, well_shaped, nation_row_of}
use Rattle.rules.specs.Page.{is_living}
use Rattle.rows.specs.RowAt.{nation_row_at, nation_numbered}
use Rattle.rows.proofs.NumberedLaws.{nations-numbered}
use Rattle.pages.specs.Status.{nation_with}
use Rattle.pages.proofs.StoredLaws.{rows-left, rows-numbered}
use Rattle.pages.specs.LivingCells.{living_cells}

module _ (ws es : List ℕ) where
  abbrev rows : ℕ
  rows = length (nation_rows_in ws)

  abbrev lives : NationRow → Bool
  lives r = is_living (nation_with es r)

  pub length-living : length (living_cells ws es) ≡ rows
  length-living = length-map (nation_rows_in ws) lives

  -- As an iterator over all rows gives them.
  pub living-left : (xs : List (List ℕ)) → map nation_row_of xs ≡ map nation_row_of (first_chunks nation_width (length ws / nation_width) ws)
      → map lives (map nation_row_of xs) ≡ living_cells ws es
  living-left xs all = ap (map lives) (rows-left ws xs all)

  module _ (cells₀ cells : List Bool) (w : cells ≡ living_cells ws es ++ drop (length (living_cells ws es)) cells₀) where
    pub living-inside : rows ≤ length cells
    living-inside = omega (arith, ap length w ∙ length-append (living_cells ws es) (drop (length (living_cells ws es)) cells₀), length-living)

    -- Of a well-shaped chronicle they are its nations' by the rule.
    pub living-all : well_shaped ws es ≡ true → take rows cells ≡ map is_living (nations_in ws es)
    living-all shaped =
        ap (take rows) w ∙ take_at (living_cells ws es) (drop (length (living_cells ws es)) cells₀) rows length-living
        ∙ ap (map lives) (rows-numbered ws)
        ∙ map-then (nation_row_at ws) lives (numbers_from 0 rows)
        ∙ sym (ap (map is_living) (nations-numbered ws es shaped) ∙ map-then (nation_numbered ws es) is_living (numbers_from 0 rows))
