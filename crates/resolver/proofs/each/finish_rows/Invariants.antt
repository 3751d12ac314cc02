-- Invariant: the rows passed are turned.
use Prim.Native.Nat.{◌≤◌}
use Rattle.resolver.specs.Passes.{finished_row}
use Rattle.resolver.proofs.PassLaws.{Passing}
use Rattle.resolver.proofs.each.finish_rows.Given as goal

abbrev pub invariant-loop-i : goal.invariant-loop-i
invariant-loop-i l = (l.i ≤ l.i-end) × Passing (finished_row l.nations l.initial.out) l.initial.out l.i l.out
