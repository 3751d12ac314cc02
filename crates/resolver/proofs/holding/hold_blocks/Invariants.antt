-- Invariant: what the claims that are left make of the rows is what all make of the rows before.
use lib.ListN.{length}
use Rattle.resolver.specs.Claims.{claims_in, claims_left}
use Rattle.resolver.proofs.HoldingLaws.{Between}
use Rattle.resolver.proofs.holding.hold_blocks.Given as goal

abbrev pub invariant-loop-taken : goal.invariant-loop-taken
invariant-loop-taken g l =
    Between (g.P.BlockPass.held l.pass) (claims_in l.fn.chronicle.nations.now l.fn.chronicle.entries.now) l.initial.out (claims_left l.claims) l.out l.keys l.owners l.scratch

abbrev pub decreases-loop-taken : goal.decreases-loop-taken
decreases-loop-taken g l = length (claims_left l.claims)
