-- The numbers so far are those of what was read.
use Rattle.std.proofs.Common.{◌-◌, ◌≤◌, length, take}
use Rattle.std.specs.Io.KnownBytes.{Consumes}
use Rattle.stored_input.specs.Reading.{number_bytes}
use Rattle.stored_input.proofs.numbers.U32StoredToEnd.fill_to_end.Given as goal

abbrev pub invariant-loop-at : goal.invariant-loop-at
invariant-loop-at g l = (l.at ≤ length l.buf) × Consumes (g.R.Read.remaining l.initial.list) (g.R.Read.remaining l.list) (number_bytes (take l.at l.buf))

abbrev pub decreases-loop-at : goal.decreases-loop-at
decreases-loop-at g l = length l.initial.buf - l.at
