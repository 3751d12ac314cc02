-- Invariant: the rows passed are answered.
use Prim.Native.Nat.{◌≤◌}
use Rattle.resolver.specs.Passes.{claim_row}
use Rattle.resolver.proofs.PassLaws.{Passing}
use Rattle.resolver.proofs.each.answer_each.Given as goal

abbrev pub invariant-loop-i : goal.invariant-loop-i
invariant-loop-i l =
    (l.i ≤ l.i-end)
    × Passing (claim_row l.fn.chronicle.nations.now l.fn.chronicle.entries.now l.questions) l.initial.out l.i l.out
