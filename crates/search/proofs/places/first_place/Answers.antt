-- The key behind all that are below the tag's lowest is the tag's, or it has none.
use Rattle.std.proofs.Common.{sym, ap, ◌∙◌, arith, ltb-false, ltb-true}
use Rattle.lists.specs.Options.{option_of}
use Rattle.search.proofs.PlaceLaws.{placed_past, placed-key}
use Rattle.search.proofs.places.first_place.Goals as goal

pub returns-in_err-key : goal.returns-in_err-key
returns-in_err-key c =
    ap option_of c.from_residual.ensures
    ∙ placed_past c.args.tag c.args.sorted.keys.now c.args.sorted.sorted _ c.tag_key-low.ensures _ c.count_below.ensures.value (ltb-false _ _ (sym c.in_err-key.ensures.lookup.0))

pub returns : goal.returns
returns c =
    let lookup = c.in_ok-key.ensures.lookup in
    ap option_of c.then_some.ensures
    ∙ placed-key c.args.tag c.args.sorted.keys.now c.args.sorted.sorted _ c.tag_key-low.ensures _ c.count_below.ensures.value _ (ltb-true _ _ (sym lookup.0)) (lookup.4 (omega arith) 0)
