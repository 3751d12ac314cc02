-- The invariant: the cells passed hold their starts, and what was counted so far is no more than the next one.
use Rattle.std.proofs.Common.{◌-◌, ◌≤◌, length}
use Rattle.lists.proofs.FillLaws.{Filling}
use Rattle.search.specs.Halving.{starts_of}
use Rattle.search.proofs.HalvingLaws.{start_of, starts_from}
use Rattle.search.proofs.halving.index_block.Given as goal

abbrev pub invariant-loop-cell : goal.invariant-loop-cell
invariant-loop-cell l =
    (l.at ≤ length l.keys)
    × (l.at ≤ start_of l.keys l.cell)
    × Filling (starts_of l.keys (length l.initial.starts)) (starts_from l.keys l.cell (length l.initial.starts - l.cell)) l.initial.starts l.cell l.starts
