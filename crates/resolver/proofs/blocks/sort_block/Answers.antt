-- The keys of the block are sorted in their place.
use Rattle.resolver.proofs.BlockLaws.{block-sorted, block_inside, scratch-cleared, taken-some}
use Rattle.resolver.proofs.blocks.sort_block.Goals as goal

pub returns-clause-sorts : goal.returns-clause-sorts
returns-clause-sorts c =
    block-sorted _ _ _ _ _ _ _ _ _ _ _ c.fill_block-taken.ensures c.spread_sort.ensures _ (taken-some _ _ c.then_some.ensures).0

pub returns-clause-scratch : goal.returns-clause-scratch
returns-clause-scratch c = scratch-cleared _ _ _ _ _ (block_inside _ _ _ _ _ _ _ _ c.fill_block-taken.ensures) c.spread_sort.ensures _ (taken-some _ _ c.then_some.ensures).0

pub returns-clause-some : goal.returns-clause-some
returns-clause-some c = (taken-some _ _ c.then_some.ensures).1
