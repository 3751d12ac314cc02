use mathlib.Core.Path.{ap, ◌∙◌}
use native.Mathlib.Nat.{zero-add}
use native.Mathlib.Omega.{arith}
use Rattle.record_check.proofs.TotalLaws.{sum-more, sum-all}
use Rattle.record_check.proofs.sizes.total.Goals as goal

pub overflow_add-sum : goal.overflow_add-sum
overflow_add-sum g c = omega (arith, c.loop-row.invariant.small, c.requires.few)

pub loop-row-init : goal.loop-row-init
loop-row-init g c = record { small = omega arith; same = λ number f. zero-add _ }

pub loop-row-preserved : goal.loop-row-preserved
loop-row-preserved g c =
    let l = c.loop-row in
    record {
      small = omega (arith, l.invariant.small);
      same =
          λ number f. sum-more number g.R.Packed.unpacked c.args.rows.now l.row-index c.row-item.result (omega arith) c.row-item.is l.sum c.count.result
          (f c.unpack.result c.count.result c.count.ensures ∙ ap number c.unpack.ensures) (l.invariant.same number f);
    }

pub returns : goal.returns
returns g c =
    λ number f. sum-all number g.R.Packed.unpacked c.args.rows.now c.loop-row.row-index (omega arith) c.loop-row.sum (c.loop-row.invariant.same number f)
