use mathlib.Core.Path.{sym}
use native.Mathlib.Omega.{arith}
use Rattle.lists.proofs.FillLaws.{filling-new, filling-put, filling-written}
use Rattle.nation_tables.proofs.tables.CountryLaws.{length-word-keys, keys-next, keys-end, front-sorted}
use Rattle.nation_tables.proofs.countries.row_keys.Goals as goal

pub loop-i-init : goal.loop-i-init
loop-i-init c =
    filling-new _ _ (rw length-word-keys (omega (arith, c.requires.1)))

pub loop-i-preserved : goal.loop-i-preserved
loop-i-preserved c =
    filling-put _ _ _ _ _ c.loop-i.invariant _ _ (keys-next c.args.words.now c.loop-i.i c.loop-i-test.true) _ (rw c.from_word_unchecked.ensures at c.row_key.ensures)

pub returns : goal.returns
returns c =
    let none = keys-end c.args.words.now c.loop-i.i c.loop-i-test.false in
    front-sorted _ _ _ _ _ (filling-written _ _ _ _ _ c.loop-i.invariant none) (sym (length-word-keys 0 c.args.words.now)) c.sort_keys.ensures.keys
