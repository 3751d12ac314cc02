use mathlib.Core.Path.{refl, ◌∙◌}
use native.Mathlib.Omega.{arith}
use Rattle.std.proofs.lemmas.Simd.{splat_is_map}
use Rattle.nation_tables.proofs.slots.CellLaws.{slots-counting-none, slots-counting-long, slots-counting-few, slots-counting-next, slots-counting-past, slots-counting-done}
use Rattle.nation_tables.proofs.holders.count_slots.Goals.{then-row-counts, else-row-counts}
use Rattle.nation_tables.proofs.holders.count_slots.Goals as goal

pub loop-slot-init : goal.loop-slot-init
loop-slot-init c = slots-counting-none _ c.args.counts.now _ (c.fill.ensures.after (λ y e. e) ∙ splat_is_map c.args.counts.now _ 0 refl)

pub overflow_add-counts : goal.overflow_add-counts
overflow_add-counts c =
    let more = c.loop-slot-test.true in
    omega (arith, slots-counting-few _ _ _ _ c.loop-slot.invariant more _ c.if-row-counts.true, c.requires, more)

pub loop-slot-preserved : goal.loop-slot-preserved
loop-slot-preserved c =
    let more = c.loop-slot-test.true in
    elim c.if-row-counts.branch [
      | then-row-counts w ↦ rw w.counts-is (slots-counting-next _ _ c.loop-slot.counts c.loop-slot.slot-index c.loop-slot.invariant more)
      | else-row-counts w ↦ rw w.counts-is (slots-counting-past _ _ c.loop-slot.counts c.loop-slot.slot-index c.loop-slot.invariant more w.if-row-counts.false)
    ]

pub shape_of-counts : goal.shape_of-counts
shape_of-counts c =
    omega (arith, slots-counting-long _ _ _ _ c.loop-slot.invariant, c.fill.ensures.len)

pub returns : goal.returns
returns c =
    slots-counting-done _ _ _ _ c.loop-slot.invariant c.args.counts.now (c.fill.ensures.after (λ y e. e) ∙ splat_is_map c.args.counts.now _ 0 refl) c.loop-slot-test.false
