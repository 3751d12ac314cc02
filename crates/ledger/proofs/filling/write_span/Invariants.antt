-- The invariant: what the points read so far give stands at the front, as far as it found room.
use Rattle.format.specs.Dates.{year}
use Rattle.ledger.proofs.FillsLaws.{Writing}
use Rattle.ledger.proofs.filling.write_span.Given as goal

abbrev pub invariant-loop-point : goal.invariant-loop-point
invariant-loop-point l = Writing l.fn.span.tag (year l.fn.span.end) l.initial.running l.initial.out l.yielded l.running l.n l.out
