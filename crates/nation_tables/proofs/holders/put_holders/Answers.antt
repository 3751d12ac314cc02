use mathlib.Core.Path.{refl}
use native.Mathlib.Omega.{arith}
use lib.ListN.{length-map}
use Rattle.lists.proofs.FillLaws.{filling-new, filling-put, filling-written}
use Rattle.nation_tables.specs.Holders.{cell_word}
use Rattle.lists.proofs.StepLaws.{map_next, map-end}
use Rattle.nation_tables.proofs.holders.put_holders.Goals as goal

pub loop-i-init : goal.loop-i-init
loop-i-init c = filling-new _ _ (omega (arith, length-map c.args.slots.now cell_word, c.requires))

pub bounds-out-i : goal.bounds-out-i
bounds-out-i c =
    omega (arith, c.loop-i.invariant.long, c.requires, c.loop-i-test.true)

pub loop-i-preserved : goal.loop-i-preserved
loop-i-preserved c =
    filling-put _ _ _ _ _ c.loop-i.invariant _ _ (map_next cell_word c.args.slots.now c.loop-i.i c.loop-i-test.true) _ refl

pub shape_of-out : goal.shape_of-out
shape_of-out c = c.loop-i.invariant.long

pub returns : goal.returns
returns c =
    filling-written _ _ _ _ _ c.loop-i.invariant (map-end cell_word c.args.slots.now c.loop-i.i c.loop-i-test.false)
