use mathlib.Core.Path.{sym, ap, ◌∙◌}
use native.Mathlib.Omega.{arith}
use lib.ListN.{length}
use borrow.Author.Tests.{not-true, not-false}
use Rattle.owner_changes.proofs.ChangeLaws.{walk_same, walk-change, walk-end}
use Rattle.owner_changes.proofs.changes.ProvinceChangesIterator.next.Goals as goal

pub returns-then-ne-clause-steps : goal.returns-then-ne-clause-steps
returns-then-ne-clause-steps c = c.loop-event.invariant ∙ walk-change _ _ c.in-Some.ensures.steps (not-true _ (sym c.ne.ensures ∙ c.if-ne.true))

pub returns-then-ne-clause-goes : goal.returns-then-ne-clause-goes
returns-then-ne-clause-goes c =
    let first = c.loop-event.invariant ∙ walk-change _ _ c.in-Some.ensures.steps (not-true _ (sym c.ne.ensures ∙ c.if-ne.true)) in
    record { on = λ _. (tt, tt, omega (arith, ap length first)); keeps = tt; rests = λ _. tt }

pub loop-event-preserved : goal.loop-event-preserved
loop-event-preserved c = c.loop-event.invariant ∙ walk_same _ _ c.in-Some.ensures.steps (not-false _ (sym c.ne.ensures ∙ c.if-ne.false))

pub returns-clause-steps : goal.returns-clause-steps
returns-clause-steps c = (c.loop-event.invariant ∙ walk-end _ _ _ c.in_default.ensures.steps.0, walk-end _ _ _ c.in_default.ensures.steps.1)
