use Rattle.std.proofs.Common.{refl, ◌+◌, ◌-◌, ◌/◌, arith}
use Rattle.search.proofs.HalvingLaws.{encloses-all, encloses-one, halved}
use Rattle.search.proofs.halving.count_up_to.Goals as goal

pub loop-size-init : goal.loop-size-init
loop-size-init c = encloses-all c.args.keys.now _

pub loop-size-preserved : goal.loop-size-preserved
loop-size-preserved c =
    let n = c.loop-size.size / 2 in
    let t = c.loop-size-test.true in
    halved c.args.keys.now c.args.x c.loop-size.base c.loop-size.size n (c.loop-size.base + n - 1) _ _ c.loop-size.invariant (omega arith) (omega arith) (omega arith) refl refl c.step-base.ensures.0 c.step-base.ensures.1

pub returns : goal.returns
returns c =
    let t = c.loop-size-test.false in
    let z = c.if-size-eq0.false in
    let h = halved c.args.keys.now c.args.x c.loop-size.base c.loop-size.size 1 c.loop-size.base _ _ c.loop-size.invariant (omega arith) (omega arith) (omega arith) (omega arith) refl c.step.ensures.0 c.step.ensures.1 in
    encloses-one _ _ _ _ h (omega arith)
