-- What the program page prints, in a slice: how the file is told, and the outcome.
use Rattle.std.specs.Prelude as code
use Rattle.std.specs.Prelude.{Some, None, List, ℕ}
use Rattle.std.specs.Borrow.{Bor}
use Rattle.std.proofs.Math.Option.{Option, none, some}
use Rattle.rules.specs.Lent.{Outcome}
use Rattle.rules.specs.PageOutcomes.{call_program}
use Rattle.pages.specs.Texts.{call_lines}

-- The bytes that were read of the file, if it could be read.
abbrev pub file_read : code.Option (Bor (List ℕ)) → Option (List ℕ)
file_read (Some xs) = some xs.now
file_read None = none

-- The most bytes that the program prints: 15 for the first line, and 25 for each of 16,384 tags.
abbrev pub most_printed : ℕ
most_printed = 409615

-- What the program prints stands at the front of the lent slice, and is counted; a slice that is shorter is refused by 10.
unfoldable pub call_print : Option (List ℕ) → List ℕ → List ℕ → Outcome ℕ (List ℕ)
call_print file selection before = call_lines (call_program file selection) before
