use native.Mathlib.Omega.{arith}
use Rattle.lists.proofs.FillLaws.{filling-new}
use Rattle.players.proofs.ArrangeStepLaws.{drafts_next, length-all-names, names_more}
use Rattle.players.proofs.draft_names.write_names.Goals as goal

pub loop-draft-init : goal.loop-draft-init
loop-draft-init c =
    (c.requires.inside, filling-new _ _ (omega (arith, length-all-names c.args.keys.now c.args.drafts.now c.requires.inside, c.requires.room)))

pub loop-draft-preserved : goal.loop-draft-preserved
loop-draft-preserved c =
    let more = drafts_next c.args.drafts.now c.loop-draft.draft-index _ c.loop-draft-test.true in
    let inside = rw more at c.loop-draft.invariant.0 in
    (inside.1, names_more _ _ _ c.copy_names.new.out c.args.keys.now _ _ _ _ c.loop-draft.invariant.1 more inside.0 c.copy_names.ensures)
