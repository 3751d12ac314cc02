use mathlib.Core.Path.{◌≡◌, ap, ◌∙◌}
use Rattle.std.proofs.Common.{rules}
use native.Mathlib.Omega.{arith}
use Prim.Native.Nat.{◌+◌}
use Rattle.lists.specs.Lists.{one}
use Rattle.format.specs.Dates.{earlier, same_date}
use Rattle.owner_changes.specs.ChangeSteps.{changes_left, entered}
use Rattle.owner_changes.proofs.ChangeLaws.{entered-few}
use Rattle.owner_changes.proofs.EnteringLaws.{record-entered}
use Rattle.owner_changes.proofs.EnterRowLaws.{byte-one}
use Rattle.owner_changes.proofs.CountLaws.{CountingChanges, counting-none, counting_more, counting-small, counting-done, run-counted}
use Rattle.owner_changes.proofs.owners.count_on.Goals.{After-from-first, After-from-count}
use Rattle.owner_changes.proofs.owners.count_on.Goals as goal

-- One change more before the day, or on it.
early : (c : After-from-first) → CountingChanges (λ x. earlier x.date c.args.day) (entered c.args.opened.bytes.now) (changes_left c.next.new.self) (c.loop-change.first + c.from-first.result)
early c =
    let before : c.lt.result ≡ earlier c.in-Some.change.date c.args.day = search rules in
    counting_more _ c.loop-change.invariant.0 c.in-Some.ensures.steps c.from-first.result (c.from-first.ensures ∙ byte-one c.lt.result ∙ ap one before)

on-day : (c : After-from-count) → CountingChanges (λ x. same_date x.date c.args.day) (entered c.args.opened.bytes.now) (changes_left c.next.new.self) (c.loop-change.count + c.from-count.result)
on-day c = counting_more _ c.loop-change.invariant.1 c.in-Some.ensures.steps c.from-count.result (c.from-count.ensures ∙ byte-one c.eq.result ∙ ap one c.eq.ensures)

pub loop-change-init : goal.loop-change-init
loop-change-init c =
    let all = ap changes_left c.into_iter-change-iterator.ensures.into_iter_gives ∙ c.new-change-items.ensures ∙ record-entered c.args.opened in
    let few = entered-few _ c.args.opened.accepted in
    (counting-none _ all few, counting-none _ all few)

pub overflow_add-first : goal.overflow_add-first
overflow_add-first c = omega (arith, counting-small _ (early (goal.at.overflow_add-first c).After-from-first))

pub overflow_add-count : goal.overflow_add-count
overflow_add-count c = omega (arith, counting-small _ (on-day (goal.at.overflow_add-count c).After-from-count))

pub loop-change-preserved : goal.loop-change-preserved
loop-change-preserved c =
    (early (goal.at.loop-change-preserved c).After-from-first, on-day (goal.at.loop-change-preserved c).After-from-count)

pub returns : goal.returns
returns c =
    let none = c.in-None.ensures.steps.0 in
    run-counted _ _ _ _ (counting-done _ c.loop-change.invariant.0 none) (counting-done _ c.loop-change.invariant.1 none)
