-- Invariant: the claims taken so far stand in front as keys and nation numbers, and the others are left.
use Rattle.resolver.specs.Claims.{claims_left}
use Rattle.resolver.proofs.BlockLaws.{Taking}
use Rattle.resolver.proofs.blocks.fill_block.Given as goal

abbrev pub invariant-loop-count : goal.invariant-loop-count
invariant-loop-count l = Taking (claims_left l.fn.claims) (claims_left l.claims) l.room l.count l.initial.keys l.keys l.initial.owners l.owners
