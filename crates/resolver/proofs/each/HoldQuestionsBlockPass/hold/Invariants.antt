-- Invariant: the rows passed are held against the block.
use Prim.Native.Nat.{◌≤◌}
use Rattle.resolver.specs.Passes.{block_row}
use Rattle.resolver.proofs.PassLaws.{Passing}
use Rattle.resolver.proofs.each.HoldQuestionsBlockPass.hold.Given as goal

abbrev pub invariant-loop-i : goal.invariant-loop-i
invariant-loop-i l =
    (l.i ≤ l.i-end)
    × Passing (block_row l.self.questions.now l.block.sorted.keys.now l.block.owners.now l.initial.out) l.initial.out l.i l.out
