use native.Mathlib.Omega.{arith}
use Rattle.lists.proofs.FillLaws.{filling-new}
use Rattle.search.proofs.PlaceLaws.{length-tag-keys}
use Rattle.players.specs.TagTables.{country_tags_left}
use Rattle.players.proofs.tag_tables.fill_countries.Goals as goal

pub loop-n-init : goal.loop-n-init
loop-n-init c =
    rw (c.into_iter-n-iterator.ensures.into_iter_gives, c.enumerate-n-items.ensures.source, c.enumerate-n-items.ensures.count)
    (filling-new _ _ (omega (arith, length-tag-keys 0 (country_tags_left c.args.countries), c.requires.0)))
