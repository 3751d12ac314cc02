use mathlib.Core.Path.{refl, ap}
use Prim.Native.Nat.{◌+◌}
use native.Mathlib.Omega.{arith}
use borrow.Author.Rules.{rules}
use borrow.Author.Tests.{tests}
use Rattle.record.specs.Cursors.{points_left}
use Rattle.ledger.proofs.ReadLaws.{read-all}
use Rattle.ledger.proofs.FilledLaws.{count-start, count-next, count-end}
use Rattle.ledger.proofs.point_counts.count_span.Goals as goal

pub loop-point-init : goal.loop-point-init
loop-point-init c = count-start _ _ _

pub loop-point-preserved : goal.loop-point-preserved
loop-point-preserved c =
    count-next c.loop-point.invariant c.in-Some.point _ (omega (arith, c.min-n.ensures, c.saturating_add.ensures, c.saturating_sub-zeros.ensures, c.ranges.most))

pub returns : goal.returns
returns c =
    let sp = c.args.span in
    let all = read-all sp c.args.points _ _ c.year-first.ensures c.year-last.ensures _ c.skip_while.ensures.source c.skip_while.ensures.closure c.skip_while.ensures.done_skipping
    _ c.take_while-point-items.ensures.source c.take_while-point-items.ensures.closure c.take_while-point-items.ensures.done
    _ _ c.into_iter-point-iterator.ensures.into_iter_gives c.loop-point.yielded c.loop-point.yielded_by _ _ c.in-None.is c.next.ensures.steps
    (λ x b q k. search (rules, tests)) (λ x b q k. search (rules, tests)) in
    count-end c.loop-point.invariant sp (points_left c.args.points) refl (ap (λ n. n + 1) c.year-first.ensures) all _
    (omega (arith, c.min.ensures, c.saturating_add-2.ensures, c.saturating_sub-zeros-2.ensures, c.year-last.ensures, c.ranges.most))
