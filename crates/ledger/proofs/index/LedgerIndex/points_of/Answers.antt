-- The first name with the tag tells where its points stand.
use Rattle.std.proofs.Common.{ap, arith, ◌∙◌}
use mathlib.Core.Option.{map}
use Rattle.lists.specs.Options.{option_of}
use Rattle.record.specs.Cursors.{points_left}
use Rattle.ledger.proofs.IndexLaws.{found_none, found_inside, found_few, found-points}
use Rattle.ledger.proofs.index.LedgerIndex.points_of.Goals as goal

pub returns-in_err-number : goal.returns-in_err-number
returns-in_err-number c =
    ap (λ o. map points_left (option_of o)) c.from_residual.ensures
    ∙ found_none c.args.self.now.indexed c.args.tag _ c.first_place.ensures c.in_err-number.was

pub offset_bounds-self-number : goal.offset_bounds-self-number
offset_bounds-self-number c = let few = found_few c.args.self.now.indexed c.args.tag _ c.first_place.ensures c.in_ok-number.was in omega (arith, few)

pub bounds-self-number : goal.bounds-self-number
bounds-self-number c = found_inside c.args.self.now.indexed c.args.tag _ c.first_place.ensures c.in_ok-number.was

pub returns : goal.returns
returns c =
    found-points c.args.self.now.indexed c.args.tag _ c.first_place.ensures c.in_ok-number.was _ _ (rw c.len.ensures.value at c.points_from.ensures)
