-- One by one, or block by block and then turned.
use mathlib.Core.Path.{sym, ◌∙◌}
use native.Mathlib.Omega.{arith}
use borrow.Author.Tests.{ltb-true}
use Rattle.resolver.proofs.HoldingLaws.{answered-each, answered-rows}
use Rattle.resolver.proofs.each.answer_all.Goals as goal

pub returns-else-fit_in_rows : goal.returns-else-fit_in_rows
returns-else-fit_in_rows c =
    answered-each c.args.chronicle.nations.now c.args.chronicle.entries.now c.args.questions.now _ c.args.out.now c.question_count.ensures (omega (arith, c.requires.room, c.question_count.ensures)) _ c.answer_each.ensures

pub returns-then-fit_in_rows : goal.returns-then-fit_in_rows
returns-then-fit_in_rows c =
    answered-rows c.args.chronicle.nations.now c.args.chronicle.entries.now c.args.questions.now _ c.args.out.now c.question_count.ensures (omega (arith, c.requires.room, c.question_count.ensures))
    c.requires.shaped (ltb-true _ _ (sym c.fit_in_rows.ensures ∙ c.if-fit_in_rows.true)) c.requires.good
    _ _ _ (c.fill.ensures.after (λ y e. e)) c.hold_blocks.ensures c.hold_blocks.auto.out c.finish_rows.ensures
