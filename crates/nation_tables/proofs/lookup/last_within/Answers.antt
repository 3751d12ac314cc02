-- The last of the keys below `high`: if it is not below `low`, it is the last between.
use Rattle.std.proofs.Common.{sym, ap, ◌∙◌, arith, ltb-false, ltb-true}
use Rattle.lists.specs.Options.{option_of}
use Rattle.nation_tables.proofs.tables.LookupLaws.{no_last, last-told}
use Rattle.nation_tables.proofs.lookup.last_within.Goals as goal

pub returns-in_err-key : goal.returns-in_err-key
returns-in_err-key c =
    let below = c.count_below.ensures in
    ap option_of c.from_residual.ensures
    ∙ no_last _ _ c.args.sorted.keys.now c.args.sorted.sorted _ below.inside below.value (ltb-false _ _ (sym c.in_err-key.ensures.item.0))

pub returns : goal.returns
returns c =
    let item = c.in_ok-key.ensures.item in
    let below = c.count_below.ensures in
    ap option_of c.then_some.ensures
    ∙ last-told _ _ c.args.sorted.keys.now c.args.sorted.sorted _ below.inside below.value _ (ltb-true _ _ (sym item.0)) (item.4 (omega arith) 0) _ c.row_in.ensures
