use mathlib.Core.Path.{refl}
use Prim.Native.Nat.{◌/◌}
use borrow.Author.Rules.{rules}
use lib.ListN.{length}
use Rattle.resolver.specs.Passes.{finished_row}
use Rattle.resolver.proofs.PassLaws.{passing-start, passing-put, passing-done, second-still, finished-row}
use Rattle.resolver.proofs.each.finish_rows.Goals as goal
use Rattle.rules.specs.Questions.{answer_width}

pub loop-i-init : goal.loop-i-init
loop-i-init c = (search rules, passing-start _ _)

pub loop-i-preserved : goal.loop-i-preserved
loop-i-preserved c = (
  search rules,
  passing-put _ _ _ _ c.loop-i.invariant.1 _ _ _ refl (search rules) c.put_row.ensures (search rules)
      (finished-row c.args.nations.now c.args.out.now c.loop-i.i _ _ _ c.answer_row.ensures c.row_owner-owner.ensures (second-still _ _ _ _ c.loop-i.invariant.1 _ refl)),
)

pub shape_of-out : goal.shape_of-out
shape_of-out c = c.loop-i.invariant.1.long

pub returns : goal.returns
returns c =
    passing-done (finished_row c.args.nations.now c.args.out.now) c.args.out.now c.loop-i.i (length c.args.out.now / answer_width) _ c.loop-i.invariant.1 (search rules) (search rules)
