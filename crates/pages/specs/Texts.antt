-- What the text of a page comes to: its lines by nation rows with a status cell for each, and what is left of the lent bytes.
use Rattle.std.specs.Prelude as code
use Rattle.std.specs.Prelude.{Some, None, Bool, List, ◌++◌, ℕ, length}
use Rattle.format.specs.declared.tag.CountryTag.{CountryTag}
use Rattle.rules.specs.Lent.{refused, gives, written, fits, room_number, Outcome, outcome}
use Rattle.pages.specs.Lines.{heading}
use Rattle.pages.specs.Stored.{lines_of}

-- How many bytes were written, or none for want of room, with the lent bytes after the call.
abbrev pub lines_outcome : code.Option ℕ → List ℕ → Outcome ℕ (List ℕ)
lines_outcome (Some n) after = record { answer = gives n; memory = after }
lines_outcome None after = record { answer = refused 10; memory = after }

-- Bytes are written where they have room, and counted.
abbrev pub call_lines : List ℕ → List ℕ → Outcome ℕ (List ℕ)
call_lines text before = outcome (room_number (fits text before)) (length text) (written text before) before

-- The text of tags, by nation rows and a status cell for each.
abbrev pub lines_text : List ℕ → List Bool → List CountryTag → List ℕ
lines_text ws cells tags = heading (length tags) ++ lines_of ws cells tags
