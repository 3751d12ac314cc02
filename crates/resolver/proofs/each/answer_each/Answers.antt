use mathlib.Core.Path.{◌≡◌, refl}
use mathlib.Core.Option.{map}
use Prim.Native.Nat.{◌/◌}
use borrow.Author.Rules.{rules}
use lib.ListN.{length}
use Rattle.lists.specs.Options.{option_of}
use Rattle.rules.specs.Questions.{answer_width}
use Rattle.resolver.specs.Passes.{claim_row}
use Rattle.resolver.proofs.PassLaws.{passing-start, passing-put, passing-done, claim-row}
use Rattle.resolver.proofs.each.answer_each.Goals as goal

pub loop-i-init : goal.loop-i-init
loop-i-init c = (search rules, passing-start _ _)

pub loop-i-preserved : goal.loop-i-preserved
loop-i-preserved c =
    let nation : option_of c.map-nation.result ≡ map (λ claim. claim.nation) (option_of c.best_claim-best.result) = search rules in (
      search rules,
      passing-put _ _ _ _ c.loop-i.invariant.1 _ _ _ refl (search rules) c.put_row.ensures (search rules)
          (claim-row c.args.chronicle.nations.now c.args.chronicle.entries.now c.args.questions.now c.loop-i.i _ _ _ _ c.answer_row.ensures nation c.best_claim-best.ensures c.question_at-question.ensures),
    )

pub shape_of-out : goal.shape_of-out
shape_of-out c = c.loop-i.invariant.1.long

pub returns : goal.returns
returns c =
    passing-done (claim_row c.args.chronicle.nations.now c.args.chronicle.entries.now c.args.questions.now) c.args.out.now c.loop-i.i (length c.args.out.now / answer_width) _ c.loop-i.invariant.1 (search rules) (search rules)
