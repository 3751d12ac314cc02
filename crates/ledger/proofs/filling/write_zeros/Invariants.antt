-- The invariant: the zeros of the first i years stand at the front.
use Prim.Native.Nat.{◌+◌}
use Rattle.rules.specs.Ledger.{zeros}
use Rattle.ledger.proofs.FillsLaws.{FillingRows}
use Rattle.ledger.proofs.filling.write_zeros.Given as goal

abbrev pub invariant-loop-i : goal.invariant-loop-i
invariant-loop-i l = FillingRows (zeros l.tag l.running l.until) (zeros l.tag (l.running + l.i) l.until) l.initial.out l.i l.out
