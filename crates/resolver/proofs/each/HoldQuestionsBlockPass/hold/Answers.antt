use mathlib.Core.Path.{refl}
use Prim.Native.Nat.{◌/◌}
use borrow.Author.Rules.{rules}
use lib.ListN.{length}
use Rattle.rules.specs.Questions.{answer_width}
use Rattle.resolver.specs.Passes.{block_row}
use Rattle.resolver.proofs.PassLaws.{passing-start, passing-put, passing-done, first-still, second-still, block-row}
use Rattle.resolver.proofs.each.HoldQuestionsBlockPass.hold.Goals as goal

pub loop-i-init : goal.loop-i-init
loop-i-init c = (search rules, passing-start _ _)

pub loop-i-preserved : goal.loop-i-preserved
loop-i-preserved c =
    let block = c.args.block.now in (
      search rules,
      passing-put _ _ _ _ c.loop-i.invariant.1 _ _ _ refl (search rules) c.put_row.ensures (search rules)
          (block-row c.args.self.now.questions.now block.sorted.keys.now block.owners.now c.args.out.now c.loop-i.i _ _ _ _ _ c.updated_row-row.ensures refl c.question_at-question.ensures
          (first-still _ _ _ _ c.loop-i.invariant.1 _ refl) (second-still _ _ _ _ c.loop-i.invariant.1 _ refl)),
    )

pub returns : goal.returns
returns c =
    let block = c.args.block.now in
    passing-done (block_row c.args.self.now.questions.now block.sorted.keys.now block.owners.now c.args.out.now) c.args.out.now c.loop-i.i (length c.args.out.now / answer_width) _ c.loop-i.invariant.1 (search rules) (search rules)
