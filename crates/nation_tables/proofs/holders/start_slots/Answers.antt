-- The rows of the start holders, then the cells of these rows, and how many slots have each.
use native.Mathlib.Omega.{arith}
use Rattle.nation_tables.proofs.tables.KeyedLaws.{provinces-few}
use Rattle.nation_tables.proofs.slots.HoldersLaws.{slots-there, began}
use Rattle.nation_tables.proofs.holders.start_slots.Goals as goal

pub start_rows-requires : goal.start_rows-requires
start_rows-requires c = slots-there c.args.tabled.opened _ c.requires.slots

pub count_slots-requires : goal.count_slots-requires
count_slots-requires c =
    omega (arith, provinces-few _ c.args.tabled.opened.accepted, c.requires.slots, c.start_rows.auto.rows, c.start_cells.auto.slots)

pub returns : goal.returns
returns c =
    let r = c.args.tabled.opened in
    let tables = c.args.tabled.tabled in
    began _ r.accepted _ _ _ r.told.provinces tables.tags tables.initials _ _ _ _ _ c.requires.slots c.requires.started
    c.start_rows.ensures c.start_cells.ensures c.count_slots.ensures
