-- What is filled lies within the buffer, of which each turn fills more, and was the next of the input.
use Rattle.std.proofs.Common.{◌≡◌, ◌-◌, length}
use Rattle.stored_input.specs.Reading.{BeginsRead}
use Rattle.stored_input.proofs.try_read_full.Given as goal

abbrev pub invariant-loop-done : goal.invariant-loop-done
invariant-loop-done g l = (length l.buf ≡ length l.initial.buf) × BeginsRead (g.R.Read.remaining l.initial.input) (g.R.Read.remaining l.input) l.buf l.done

abbrev pub decreases-loop-done : goal.decreases-loop-done
decreases-loop-done g l = length l.buf - l.done
