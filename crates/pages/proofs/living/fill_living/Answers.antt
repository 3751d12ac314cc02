use native.Mathlib.Omega.{arith}
use Rattle.lists.proofs.FillLaws.{filling-new}
use Rattle.pages.proofs.LivingCellLaws.{length-living, living-left}
use Rattle.pages.proofs.living.fill_living.Goals as goal

pub loop-i-init : goal.loop-i-init
loop-i-init c =
    rw (c.into_iter-i-iterator.ensures.into_iter_gives, c.enumerate-i-items.ensures.source, c.enumerate-i-items.ensures.count, living-left c.args.nations.now c.args.entries.now _ c.new.ensures)
    (filling-new _ _ (omega (arith, length-living c.args.nations.now c.args.entries.now, c.requires)))
