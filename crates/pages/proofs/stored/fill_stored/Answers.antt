use native.Mathlib.Omega.{arith}
use Rattle.lists.proofs.FillLaws.{filling-new}
use Rattle.search.proofs.PlaceLaws.{length-tag-keys}
use Rattle.pages.specs.Stored.{stored_left}
use Rattle.pages.proofs.stored.fill_stored.Goals as goal

pub loop-i-init : goal.loop-i-init
loop-i-init c =
    rw (c.into_iter-i-iterator.ensures.into_iter_gives, c.enumerate-i-items.ensures.source, c.enumerate-i-items.ensures.count)
    (filling-new _ _ (omega (arith, length-tag-keys 0 (stored_left c.args.nations), c.requires, c.fits-keys)))
