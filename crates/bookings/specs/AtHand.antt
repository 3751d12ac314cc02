-- The wars that an iterator over joinings has before it: inner steps.
use Rattle.std.specs.Prelude as code
use Rattle.std.specs.Prelude.{List, [], ◌∷◌, Some, None}
use Rattle.format.specs.declared.rows.WarEvent.{WarEvent}
use Rattle.record.specs.declared.cursors.Wars.{Wars}
use Rattle.record.specs.Cursors.{WarEvents, war_events_left, wars_left}

-- The war at hand, if there is one, and those behind it.
abbrev pub wars_told : code.Option WarEvents → Wars → List (List WarEvent)
wars_told (Some events) wars = war_events_left events ∷ wars_left wars
wars_told None wars = []
