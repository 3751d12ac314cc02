use Prim.Native.Nat.{ℕ}
use native.Mathlib.Omega.{arith}
use lib.ListN.{length-replicate}
use borrow.Author.Rules.{rules}
use Rattle.resolver.specs.Claims.{claims_in}
use Rattle.resolver.proofs.HoldingLaws.{between-first, between-last, between-next, part-in-order, nothing_left, fewer-left}
use Rattle.resolver.proofs.holding.hold_blocks.Goals as goal
use Rattle.resolver.specs.declared.blocks.TheConstants.{BLOCK}

pub loop-taken-init : goal.loop-taken-init
loop-taken-init g c =
    between-first _ (claims_in c.args.chronicle.nations.now c.args.chronicle.entries.now) c.args.out.now _ _ _ _ c.new-claims.ensures
    (length-replicate {A = ℕ} BLOCK 0) (length-replicate {A = ℕ} BLOCK 0) (length-replicate {A = ℕ} BLOCK 0)

pub invariant_of-sorted : goal.invariant_of-sorted
invariant_of-sorted g c = record { sorted = part-in-order _ _ _ _ _ _ _ _ c.in-Some.ensures.sorts }

pub loop-taken-smaller : goal.loop-taken-smaller
loop-taken-smaller g c = fewer-left _ _ _ _ _ _ _ _ c.in-Some.ensures.sorts c.in-Some.ensures.some

pub loop-taken-preserved : goal.loop-taken-preserved
loop-taken-preserved g c =
    between-next _ _ _ _ _ _ _ _ c.loop-taken.invariant _ _ _ _ _ _ c.in-Some.ensures.sorts c.in-Some.ensures.some c.hold.ensures
    c.hold.auto.out c.sort_block.auto.keys c.sort_block.auto.owners c.sort_block.auto.scratch

pub returns : goal.returns
returns g c =
    between-last _ _ _ _ _ _ _ _ c.loop-taken.invariant
    (nothing_left _ _ _ _ _ _ _ _ c.in_default.ensures.sorts (omega (arith, c.loop-taken.invariant.keys_long, c.loop-taken.invariant.owners_long)) (search rules))
