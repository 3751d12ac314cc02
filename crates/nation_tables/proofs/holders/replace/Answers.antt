-- Past the end there is no slot, and a store changes nothing.
use mathlib.Core.Path.{sym, ap, ◌∙◌}
use Prim.Native.Nat.{ℕ}
use native.Mathlib.Omega.{arith}
use lib.ListN.{get_or, set, get_or-eq_default}
use lib.Seq.{set_out}
use Rattle.lists.proofs.ElementLaws.{at-any}
use Rattle.nation_tables.specs.Layout.{nobody_cell}
use Rattle.nation_tables.proofs.holders.replace.Goals as goal

pub returns-then-slots-slot : goal.returns-then-slots-slot
returns-then-slots-slot c =
    let e = c.from-slot.ensures in
    let h = c.if-slots-slot.true in
    record {
      old = sym (get_or-eq_default c.args.slots.now nobody_cell {n = c.args.id.0} (omega arith));
      cells = sym (set_out c.args.slots.now c.args.id.0 c.args.cell (omega arith));
    }

pub returns : goal.returns
returns c =
    let e = c.from-slot.ensures in
    let h = c.if-slots-slot.false in
    record {
      old = c.replace.ensures.value ∙ at-any c.args.slots.now _ 0 nobody_cell h ∙ ap (λ (i : ℕ). get_or c.args.slots.now i nobody_cell) e;
      cells = ap (set c.args.slots.now c.from-slot.result) c.replace.ensures.after ∙ ap (λ (i : ℕ). set c.args.slots.now i c.args.cell) e;
    }
