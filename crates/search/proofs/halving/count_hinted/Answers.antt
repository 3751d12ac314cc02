-- The keys before the part and those behind it show that its count is that of all.
use Rattle.lists.proofs.BoolLaws.{and_left, and_right}
use Rattle.search.proofs.HalvingLaws.{part-counted}
use Rattle.search.proofs.halving.count_hinted.Goals as goal

pub returns-then-are_at_most-are_above : goal.returns-then-are_at_most-are_above
returns-then-are_at_most-are_above c =
    let part = c.in-Some.ensures.lookup.0 in
    let t = c.if-are_at_most-are_above.true in
    part-counted c.args.keys.now _ c.args.hints.start c.args.hints.end _ part.0 part.1 (c.are_at_most.ensures (and_left _ _ t)) (c.are_above.ensures (and_right _ _ t)) (rw part.2 at c.count_up_to.ensures)
