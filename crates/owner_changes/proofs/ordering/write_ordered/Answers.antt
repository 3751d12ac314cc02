-- The outcome by its case: no room, or the rows of the changes ahead, entered and put in order.
use mathlib.Core.Path.{◌≡◌, sym, ap, ◌∙◌}
use mathlib.Core.Bool.{true}
use lib.Dec.{leb}
use lib.ListN.{length}
use Rattle.owner_changes.specs.ChangeSteps.{changes_ahead}
use Rattle.owner_changes.specs.RowSteps.{change_room}
use Rattle.owner_changes.proofs.AheadLaws.{ahead-narrow}
use Rattle.owner_changes.proofs.RowOrderLaws.{ahead-over, ahead-room, entered-whole, entered-falls, ahead-ordered}
use Rattle.owner_changes.proofs.ordering.write_ordered.Goals.{After-enter_rows-walked}
use Rattle.owner_changes.proofs.ordering.write_ordered.Goals as goal

-- All changes find room.
fits : (c : After-enter_rows-walked) → leb (length (changes_ahead c.args.provinces)) (change_room c.args.out.now) ≡ true
fits c = sym (c.has_room.ensures ∙ ap (leb _) c.min.ensures) ∙ c.if-not-has_room.false

pub returns-then-not-has_room : goal.returns-then-not-has_room
returns-then-not-has_room c =
    ahead-over c.args.provinces _ (sym (c.has_room.ensures ∙ ap (leb _) c.min.ensures) ∙ c.if-not-has_room.true)

pub order_rows-requires-clause-whole : goal.order_rows-requires-clause-whole
order_rows-requires-clause-whole c =
    let room = ahead-room c.args.provinces c.args.out.now (fits (goal.at.order_rows-requires-clause-whole c).After-enter_rows-walked) in
    entered-whole c.args.provinces _ _ _ c.enter_rows-walked.ensures room.1 (ahead-narrow c.args.provinces)

pub order_rows-requires-clause-falls_value : goal.order_rows-requires-clause-falls_value
order_rows-requires-clause-falls_value c = entered-falls c.args.provinces _ _ _ c.enter_rows-walked.ensures

pub returns : goal.returns
returns c =
    ahead-ordered c.args.provinces _ _ _ c.enter_rows-walked.ensures (fits (goal.at.returns c).After-enter_rows-walked) _ c.order_rows.ensures
