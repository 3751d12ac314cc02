use mathlib.Core.Path.{refl, sym, ◌∙◌}
use borrow.Author.Rules.{rules}
use Rattle.resolver.proofs.BlockLaws.{taking-start, taking-next, taking-end, taking-full, block-told}
use Rattle.resolver.proofs.blocks.fill_block.Goals as goal

pub loop-count-init : goal.loop-count-init
loop-count-init c = taking-start _ _ _ _ _ c.min.ensures c.min-room.ensures

pub loop-count-preserved : goal.loop-count-preserved
loop-count-preserved c =
    taking-next _ _ _ _ _ _ _ _ c.loop-count.invariant _ _ _ (search rules) c.in-Some.ensures.steps c.lowest_key.ensures.0

pub returns-in_default : goal.returns-in_default
returns-in_default c =
    let none_left = c.in_default.ensures.steps in
    block-told _ _ _ _ _ _ _ _ _ _ _ (taking-end _ _ _ _ _ _ _ _ c.loop-count.invariant none_left.0) c.min.ensures c.min-room.ensures (none_left.0 ∙ sym none_left.1) refl

pub returns : goal.returns
returns c =
    block-told _ _ _ _ _ _ _ _ _ _ _ (taking-full _ _ _ _ _ _ _ _ c.loop-count.invariant (search rules)) c.min.ensures c.min-room.ensures refl (search rules)
