-- The invariant: the cells of the slots passed stand in front, and those left are as they were.
use mathlib.Core.List.{List, map}
use Prim.Native.Nat.{ℕ, ◌%◌}
use lib.ListN.{drop}
use Rattle.lists.proofs.FillLaws.{Filling}
use Rattle.format.specs.declared.tag.CountryTag.{CountryTag}
use Rattle.nation_tables.specs.Layout.{cell_rows}
use Rattle.nation_tables.specs.Holders.{row_cell}
use Rattle.nation_tables.proofs.holders.start_cells.Given as goal

-- What a row becomes.
abbrev pub made : List CountryTag → ℕ → ℕ
made tags r = row_cell tags (r % cell_rows)

abbrev pub invariant-loop-slot : goal.invariant-loop-slot
invariant-loop-slot l = Filling (map (made l.tags) l.initial.slots) (map (made l.tags) (drop l.slot-index l.initial.slots)) l.initial.slots l.slot-index l.slots
