use mathlib.Core.Path.{◌≡◌, ap, ◌∙◌}
use mathlib.Core.List.{List, [], ◌∷◌}
use Prim.Native.Nat.{◌+◌}
use native.Mathlib.Omega.{arith}
use lib.ListN.{length}
use Rattle.std.specs.Prelude.{Some}
use Rattle.lists.proofs.ProgressLaws.{progress}
use Rattle.format.specs.declared.rows.WarEvent.{WarEvent}
use Rattle.record.specs.Cursors.{war_events_left, wars_left}
use Rattle.rules.specs.Bookings.{joinings_from}
use Rattle.bookings.specs.AtHand.{wars_told}
use Rattle.bookings.specs.Walking.{joinings_left}
use Rattle.bookings.proofs.JoiningLaws.{step-on, step-past, step-joining, walk_none, nowhere, wars-next}
use Rattle.bookings.proofs.joinings.JoiningsIterator.next.Goals.{In-Some}
use Rattle.bookings.proofs.joinings.JoiningsIterator.next.Goals as goal

-- The war at hand is the first of those left.
here : (c : In-Some) → joinings_left c.args.self.now ≡ joinings_from c.loop-at.war (war_events_left c.in-Some.events ∷ wars_left c.loop-at.wars)
here c = c.loop-at.invariant.0 ∙ ap (λ at. joinings_from c.loop-at.war (wars_told at c.loop-at.wars)) c.in-Some.is

pub returns-then-event-le-LAST_JOINING-clause-steps : goal.returns-then-event-le-LAST_JOINING-clause-steps
returns-then-event-le-LAST_JOINING-clause-steps c =
    here (goal.at.returns-then-event-le-LAST_JOINING-clause-steps c).In-Some
    ∙ ap (λ (es : List WarEvent). joinings_from c.loop-at.war (es ∷ wars_left c.loop-at.wars)) c.in-Some-next.ensures.steps
    ∙ step-joining c.loop-at.war _ (wars_left c.loop-at.wars) c.in-Some-next.event c.if-event-le-LAST_JOINING.true

pub returns-then-event-le-LAST_JOINING-clause-goes : goal.returns-then-event-le-LAST_JOINING-clause-goes
returns-then-event-le-LAST_JOINING-clause-goes c = progress (λ x. x) joinings_left {r = Some _} (returns-then-event-le-LAST_JOINING-clause-steps c)

pub loop-at-preserved-else-event-le-LAST_JOINING : goal.loop-at-preserved-else-event-le-LAST_JOINING
loop-at-preserved-else-event-le-LAST_JOINING c = (
  here (goal.at.loop-at-preserved-else-event-le-LAST_JOINING c).In-Some
      ∙ ap (λ (es : List WarEvent). joinings_from c.loop-at.war (es ∷ wars_left c.loop-at.wars)) c.in-Some-next.ensures.steps
      ∙ step-past c.loop-at.war _ (wars_left c.loop-at.wars) c.in-Some-next.event c.if-event-le-LAST_JOINING.false,
  omega (arith, c.loop-at.invariant.1, ap (λ at. length (wars_told at c.loop-at.wars)) c.in-Some.is),
)

pub loop-at-preserved : goal.loop-at-preserved
loop-at-preserved c =
    let next = wars-next c.loop-at.wars _ c.next-at.new.self c.next-at.ensures.steps in (
      here (goal.at.loop-at-preserved c).In-Some
          ∙ ap (λ (es : List WarEvent). joinings_from c.loop-at.war (es ∷ wars_left c.loop-at.wars)) c.in-None.ensures.steps.0
          ∙ step-on c.loop-at.war [] (wars_left c.loop-at.wars)
          ∙ ap (joinings_from (c.loop-at.war + 1)) next,
      omega (arith, c.loop-at.invariant.1, ap (λ at. length (wars_told at c.loop-at.wars)) c.in-Some.is, ap length next),
    )

pub returns-clause-steps : goal.returns-clause-steps
returns-clause-steps c =
    (c.loop-at.invariant.0 ∙ walk_none c.loop-at.war c.loop-at.at c.loop-at.wars c.in_default.not-Some, nowhere c.loop-at.war)
