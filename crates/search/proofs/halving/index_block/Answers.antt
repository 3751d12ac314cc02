use Rattle.std.proofs.Common.{arith, length}
use native.Mathlib.Nat.{sub-zero}
use Rattle.lists.proofs.FillLaws.{filling-new, filling-put}
use Rattle.search.specs.Halving.{starts_of}
use Rattle.search.proofs.HalvingLaws.{start_of, start-on, start-inside, start-grows, starts-next, starts-long}
use Rattle.search.proofs.halving.index_block.Goals as goal

pub loop-cell-init : goal.loop-cell-init
loop-cell-init c =
    let n = length c.args.starts.now in
    (omega arith, omega arith, rw (sub-zero n) (filling-new (starts_of c.args.keys.now n) c.args.starts.now (omega (arith, starts-long c.args.keys.now n))))

pub loop-cell-preserved : goal.loop-cell-preserved
loop-cell-preserved c =
    let n = length c.args.starts.now in
    let on = start-on c.args.keys.now c.loop-cell.at c.loop-cell.cell _ c.loop-cell.invariant.1 c.count_before-at.ensures.value in (
      omega (arith, on, start-inside c.args.keys.now c.loop-cell.cell),
      omega (arith, on, start-grows c.args.keys.now c.loop-cell.cell),
      filling-put _ _ _ _ _ c.loop-cell.invariant.2 (start_of c.args.keys.now c.loop-cell.cell) _ (starts-next c.args.keys.now c.loop-cell.cell n c.loop-cell-test.true) _ on,
    )
