-- All changes have room, by their count.
use mathlib.Core.Path.{sym, ◌∙◌}
use native.Mathlib.Omega.{arith}
use lib.ListN.{length-map, length-take}
use Rattle.format.specs.Campaign.{campaign_of}
use Rattle.owner_changes.specs.ChangeSteps.{entered, KeysFilled}
use Rattle.owner_changes.proofs.EnteringLaws.{record-entered}
use Rattle.owner_changes.proofs.WrittenLaws.{keys_filled}
use Rattle.nation_tables.specs.Holders.{holder_cell}
use Rattle.nation_tables.proofs.slots.CellLaws.{front-is}
use Rattle.nation_tables.proofs.slots.HoldersLaws.{stepped}
use Rattle.nation_tables.proofs.holders.sort_steps.Goals.{After-fill_keys-n}
use Rattle.nation_tables.proofs.holders.sort_steps.Goals as goal

-- The keys of all changes are filled in.
filled-all : (c : After-fill_keys-n) → KeysFilled c.args.tabled.opened.bytes.now c.fill_keys-n.result c.fill_keys-n.new.keys
filled-all c = keys_filled _ _ (c.new.ensures ∙ record-entered c.args.tabled.opened) _ _ _ c.requires.keys c.fill_keys-n.ensures

pub slice_bounds-spread_sort-end : goal.slice_bounds-spread_sort-end
slice_bounds-spread_sort-end c =
    omega (arith, (filled-all (goal.at.slice_bounds-spread_sort-end c).After-fill_keys-n).counted, c.fill_keys-n.auto.keys, c.requires.keys)

pub slice_bounds-settle_changes-end : goal.slice_bounds-settle_changes-end
slice_bounds-settle_changes-end c =
    omega (arith, (filled-all (goal.at.slice_bounds-settle_changes-end c).After-fill_keys-n).counted, c.spread_sort.auto.scratch, c.requires.cells)

pub settle_changes-requires : goal.settle_changes-requires
settle_changes-requires c =
    let counted = (filled-all (goal.at.settle_changes-requires c).After-fill_keys-n).counted in
    simp length-take (omega (arith, counted, c.spread_sort.auto.scratch, c.requires.cells))

pub returns : goal.returns
returns c =
    let r = c.args.tabled.opened in
    let filled = filled-all (goal.at.returns c).After-fill_keys-n in
    let ks = (campaign_of r.bytes.now).countries in
    stepped r.bytes.now r.accepted _ _ _ _ _ filled c.spread_sort.ensures.keys
    (front-is _ _ _ _ c.settle_changes.ensures (length-map (entered r.bytes.now) (holder_cell ks) ∙ sym filled.counted))
