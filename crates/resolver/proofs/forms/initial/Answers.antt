-- The tests, then the best claim of the chronicle that was opened, which is what was lent.
use mathlib.Core.Path.{ap, ◌∙◌}
use Rattle.rules.specs.Lent.{gives}
use Rattle.rules.specs.Outcomes.{call_initial}
use Rattle.resolver.proofs.ResolverAnswerLaws.{question-refused, initial-gives}
use Rattle.resolver.proofs.forms.initial.Goals as goal

pub returns-in_err-chronicle : goal.returns-in_err-chronicle
unfolding call_initial
returns-in_err-chronicle c = question-refused _ _ _ _ c.from_residual.ensures (c.in_err-chronicle.ensures.number)

pub returns : goal.returns
returns c =
    let p = c.in_ok-chronicle.ensures.chronicle in
    ap gives (rw p.0 at c.plain_answer.ensures) ∙ initial-gives c.args.nations.now c.args.entries.now _ c.args.tag (rw p.0 at c.best_initial-best.ensures) c.in_ok-chronicle.ensures.number
