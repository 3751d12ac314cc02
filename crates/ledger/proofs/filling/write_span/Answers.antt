use mathlib.Core.Path.{refl, ap}
use Prim.Native.Nat.{◌+◌}
use native.Mathlib.Omega.{arith}
use borrow.Author.Rules.{rules}
use borrow.Author.Tests.{tests}
use Rattle.record.specs.Cursors.{points_left}
use Rattle.ledger.proofs.ReadLaws.{read-all}
use Rattle.ledger.proofs.FillsLaws.{writing-start, writing-inside, writing-next, writing-done, span-written}
use Rattle.ledger.proofs.filling.write_span.Goals as goal

pub loop-point-init : goal.loop-point-init
loop-point-init c = writing-start _ _ _ _

pub loop-point-preserved : goal.loop-point-preserved
loop-point-preserved c = writing-next c.loop-point.invariant c.in-Some.point _ _ c.write_year-n.ensures

pub overflow_mul-n-2 : goal.overflow_mul-n-2
overflow_mul-n-2 c = omega (arith, (writing-inside c.loop-point.invariant).0)

pub slice_bounds-write_zeros-count : goal.slice_bounds-write_zeros-count
slice_bounds-write_zeros-count c = (writing-inside c.loop-point.invariant).0

pub slice_bounds-write_zeros-start : goal.slice_bounds-write_zeros-start
slice_bounds-write_zeros-start c = (writing-inside c.loop-point.invariant).0

pub offset_bounds-out-n-2 : goal.offset_bounds-out-n-2
offset_bounds-out-n-2 c = omega (arith, (writing-inside c.loop-point.invariant).0)

pub returns : goal.returns
returns c =
    let sp = c.args.span in
    let all = read-all sp c.args.points _ _ c.year-first.ensures c.year-last.ensures _ c.skip_while.ensures.source c.skip_while.ensures.closure c.skip_while.ensures.done_skipping
    _ c.take_while-point-items.ensures.source c.take_while-point-items.ensures.closure c.take_while-point-items.ensures.done
    _ _ c.into_iter-point-iterator.ensures.into_iter_gives c.loop-point.yielded c.loop-point.yielded_by _ _ c.in-None.is c.next.ensures.steps
    (λ x b q k. search (rules, tests)) (λ x b q k. search (rules, tests)) in
    span-written sp (points_left c.args.points) _ _ _ _ _ _ refl (ap (λ n. n + 1) c.year-first.ensures) all
    (writing-done c.loop-point.invariant _ (ap (λ n. n + 1) c.year-last.ensures) _ _ c.write_zeros.ensures)
