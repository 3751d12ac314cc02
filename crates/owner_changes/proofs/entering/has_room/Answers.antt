-- Nobody has more changes than there are owner events, and there is a change of a number where there are more than so many.
use mathlib.Core.Path.{ap, ◌∙◌}
use lib.Dec.{leb}
use lib.ListN.{length}
use Rattle.owner_changes.proofs.AheadLaws.{none-behind}
use Rattle.owner_changes.proofs.RowOrderLaws.{room-for-events}
use Rattle.owner_changes.proofs.entering.has_room.Goals as goal

pub returns-then-enough : goal.returns-then-enough
returns-then-enough c = room-for-events c.args.provinces _ c.events_left.ensures c.if-enough.true

pub returns : goal.returns
returns c = none-behind c.new.result c.nth.new.self c.args.room c.nth.result c.is_none.result c.nth.ensures.ran c.is_none.ensures ∙ ap (λ changes. leb (length changes) c.args.room) c.new.ensures
