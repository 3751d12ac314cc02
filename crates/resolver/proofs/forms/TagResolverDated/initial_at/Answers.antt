-- The tests, then the best claim of the chronicle that was opened, which is what was lent.
use mathlib.Core.Path.{ap, ◌∙◌}
use mathlib.Core.List.{[]}
use Rattle.rules.specs.Lent.{gives}
use Rattle.rules.specs.Outcomes.{call_initial_on}
use Rattle.resolver.proofs.ResolverAnswerLaws.{question-refused, initial-on-gives, day-in-front}
use Rattle.resolver.proofs.forms.TagResolverDated.initial_at.Goals as goal

pub returns-in_err-chronicle : goal.returns-in_err-chronicle
unfolding call_initial_on
returns-in_err-chronicle c = question-refused _ _ _ _ c.from_residual.ensures (c.in_err-chronicle.ensures.number ∙ day-in-front _ _ c.args.self.day _ [])

pub returns : goal.returns
returns c =
    let p = c.in_ok-chronicle.ensures.chronicle in
    ap gives (rw (p.0, p.1) at c.switched_answer.ensures) ∙ initial-on-gives c.args.nations.now c.args.entries.now _ c.args.tag (rw p.0 at c.best_initial-best.ensures) c.args.self.day (c.in_ok-chronicle.ensures.number ∙ day-in-front _ _ c.args.self.day _ [])
