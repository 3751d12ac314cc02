-- The invariant: what the points read so far give is counted, held to the limit.
use Rattle.format.specs.Dates.{year}
use Rattle.ledger.proofs.FilledLaws.{Counting}
use Rattle.ledger.proofs.point_counts.count_span.Given as goal

abbrev pub invariant-loop-point : goal.invariant-loop-point
invariant-loop-point l = Counting (year l.fn.span.end) l.initial.running l.most l.yielded l.running l.n
