-- The invariant: the cells of the changes passed stand at the front; those of the changes left find room, and their dates and tags are small.
use mathlib.Core.List.{map}
use Prim.Native.Nat.{◌+◌}
use mathlib.Core.Path.{◌≡◌}
use lib.ListN.{length}
use Rattle.lists.specs.Lists.{All}
use Rattle.lists.proofs.FillLaws.{Filling}
use Rattle.format.specs.Campaign.{campaign_of}
use Rattle.owner_changes.specs.ChangeSteps.{changes_left}
use Rattle.nation_tables.specs.Holders.{holder_cell, holder_cells, Small}
use Rattle.nation_tables.proofs.holders.fill_holders.Given as goal

abbrev pub invariant-loop-n : goal.invariant-loop-n
invariant-loop-n l =
    Filling (holder_cells l.fn.tabled.opened.bytes.now) (map (holder_cell (campaign_of l.fn.tabled.opened.bytes.now).countries) (changes_left l.n-iterator.iter)) l.initial.cells l.n-iterator.count l.cells
    × All Small (changes_left l.n-iterator.iter)
    × (l.n-iterator.count + length (changes_left l.n-iterator.iter) ≡ length l.initial.cells)
