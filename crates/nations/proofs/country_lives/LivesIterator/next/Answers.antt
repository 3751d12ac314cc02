use mathlib.Core.Path.{sym, ◌∙◌}
use Rattle.nations.specs.CountryLives.{walk_in}
use Rattle.nations.proofs.WalkLaws.{none-left}
use Rattle.nations.proofs.country_lives.LivesIterator.next.Goals as goal

pub returns-clause-steps : goal.returns-clause-steps
returns-clause-steps c =
    let none = none-left _ _ _ _ (walk_in c.loop-self.self) (sym c.more.ensures ∙ c.loop-self-test.false) in
    (c.loop-self.invariant ∙ none, none)
