use mathlib.Core.Path.{sym, ap, ◌∙◌}
use Prim.Native.Nat.{◌%◌}
use native.Mathlib.Omega.{arith}
use lib.ListN.{length-map}
use Rattle.lists.proofs.FillLaws.{filling-new, filling-put, filling-whole}
use Rattle.lists.proofs.ListLaws.{map-then}
use Rattle.nation_tables.specs.Layout.{cell_rows}
use Rattle.nation_tables.specs.Holders.{row_cell}
use Rattle.lists.proofs.StepLaws.{map_next, map-end}
use Rattle.nation_tables.proofs.slots.CellLaws.{filling-kept}
use Rattle.nation_tables.proofs.holders.start_cells.Goals as goal
use Rattle.nation_tables.proofs.holders.start_cells.Invariants.{made}

pub loop-slot-init : goal.loop-slot-init
loop-slot-init c = filling-new _ _ (omega (arith, length-map c.args.slots.now (made c.args.tags.now)))

pub loop-slot-preserved : goal.loop-slot-preserved
loop-slot-preserved c =
    let f = made c.args.tags.now in
    let h = c.loop-slot-test.true in
    let kept = filling-kept _ _ _ _ _ 0 c.loop-slot.invariant in
    filling-put _ _ _ _ _ c.loop-slot.invariant _ _ (map_next f c.args.slots.now c.loop-slot.slot-index (omega (arith, c.loop-slot.invariant.long, h))) _
    ((rw c.from_word_unchecked.ensures at c.cell_of.ensures) ∙ ap f kept)

pub shape_of-slots : goal.shape_of-slots
shape_of-slots c = c.loop-slot.invariant.long

pub returns : goal.returns
returns c =
    let f = made c.args.tags.now in
    let none = map-end f c.args.slots.now c.loop-slot.slot-index (omega (arith, c.loop-slot.invariant.long, c.loop-slot-test.false)) in
    filling-whole _ _ _ _ _ c.loop-slot.invariant none (sym (length-map c.args.slots.now f)) ∙ sym (map-then (λ x. x % cell_rows) (row_cell c.args.tags.now) c.args.slots.now)
