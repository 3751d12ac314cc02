-- Drafts, and which of them have players: inner steps.
use Rattle.std.specs.Prelude.{Bool, false, not, ltb}
use Rattle.players.specs.declared.drafts.Draft.{Draft}

-- The draft that stands where none was written.
abbrev pub blank : Draft
blank =
    record {
      initial = record { 0 = 0 };
      latest = record { 0 = 0 };
      stored = record { 0 = 0 };
      nation = 0;
      human = false;
      released = false;
      first = 0;
      count = 0;
    }

-- A draft has players, or it is a leftover.
abbrev pub is_played : Draft → Bool
is_played d = ltb 0 d.count

abbrev pub is_leftover : Draft → Bool
is_leftover d = not (is_played d)
