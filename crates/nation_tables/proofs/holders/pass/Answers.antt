use mathlib.Core.Path.{sym, ap, ◌∙◌}
use Prim.Native.Nat.{ℕ}
use lib.ListN.{get_or}
use native.Mathlib.Omega.{arith}
use Rattle.format.specs.declared.rows.ProvinceId.{ProvinceId}
use Rattle.nation_tables.proofs.slots.SlotPassLaws.{pass-none, pass_step, pass-done}
use Rattle.nation_tables.proofs.holders.pass.Goals as goal

pub loop-k-init : goal.loop-k-init
loop-k-init c = pass-none _ _ _ _ c.requires

pub bounds-turns-k : goal.bounds-turns-k
bounds-turns-k c =
    omega (arith, c.loop-k.invariant.told.long, c.requires, c.loop-k-test.true)

pub loop-k-preserved : goal.loop-k-preserved
loop-k-preserved c =
    pass_step _ _ _ _ _ _ c.loop-k.k c.loop-k.invariant c.loop-k-test.true _ _ _ _ (ap (λ (i : ProvinceId). i.0) c.id.ensures) (c.cell_at-cell.ensures ∙ ap (λ (n : ℕ). get_or c.args.cells.now n 0) c.number.ensures) (rw (sym c.unwrap_or-old.ensures) at c.replace.ensures)

pub shape_of-slots : goal.shape_of-slots
shape_of-slots c = c.loop-k.invariant.long

pub shape_of-turns : goal.shape_of-turns
shape_of-turns c = c.loop-k.invariant.told.long

pub returns : goal.returns
returns c = pass-done _ _ _ _ _ _ _ c.loop-k.invariant c.requires c.loop-k-test.false
