-- The count of keys below `low` is the place of the first key that is not: if there is one below `high`, it is the first between.
use Rattle.std.proofs.Common.{sym, ap, ◌∙◌, arith, ltb-false, ltb-true}
use Rattle.lists.specs.Options.{option_of}
use Rattle.nation_tables.proofs.tables.LookupLaws.{no-first, first-told}
use Rattle.nation_tables.proofs.lookup.first_within.Goals as goal

pub returns-in_err-key : goal.returns-in_err-key
returns-in_err-key c =
    ap option_of c.from_residual.ensures
    ∙ no-first _ _ c.args.sorted.keys.now c.args.sorted.sorted _ c.count_between.ensures.value (ltb-false _ _ (sym c.in_err-key.ensures.lookup.0))

pub returns : goal.returns
returns c =
    let lookup = c.in_ok-key.ensures.lookup in
    ap option_of c.then_some.ensures
    ∙ first-told _ _ c.args.sorted.keys.now c.args.sorted.sorted _ c.count_between.ensures.value _ (ltb-true _ _ (sym lookup.0)) (lookup.4 (omega arith) 0) _ c.row_in.ensures
