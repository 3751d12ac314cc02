-- The chronicle's test, and then those of the tag and the dates as one.
use Rattle.std.proofs.Common.{rules, tests, ◌≡◌, ◌∙◌}
use Rattle.std.specs.List.{list_all}
use Rattle.std.proofs.lemmas.Iterator.{YieldsList-from_slice}
use Rattle.std.proofs.lemmas.Iterator.Search.{all_from_yields_List}
use Rattle.format.specs.Dates.{good_date}
use Rattle.format.proofs.RefusalNumberLaws.{refuses, handed-on}
use Rattle.resolver.proofs.ResolverAnswerLaws.{asked-torn, asked-bad, asked-good}
use Rattle.resolver.proofs.forms.open_asked.Goals.{After-all}
use Rattle.resolver.proofs.forms.open_asked.Goals as goal

-- Whether every date is good.
all-good : (c : After-all) → c.all.result ≡ list_all good_date c.args.dates.now
all-good c =
    all_from_yields_List good_date c.all.new.self _ c.all.result c.all.ensures.ran
    (YieldsList-from_slice c.args.dates.now c.iter.ensures.rest) (λ x b q k. search (rules, tests))

pub returns-in_err-chronicle-clause-number : goal.returns-in_err-chronicle-clause-number
returns-in_err-chronicle-clause-number c =
    handed-on _ _ c.from_residual.ensures ∙ asked-torn _ _ _ _ _ (refuses _) c.in_err-chronicle.ensures.number

pub returns-then-not-is_valid-all-clause-number : goal.returns-then-not-is_valid-all-clause-number
returns-then-not-is_valid-all-clause-number c =
    asked-bad _ _ _ _ c.in_ok-chronicle.ensures.number _ _ c.is_valid.ensures (all-good (goal.at.returns-then-not-is_valid-all-clause-number c).After-all) c.if-not-is_valid-all.true

pub returns-clause-number : goal.returns-clause-number
returns-clause-number c =
    asked-good _ _ _ _ c.in_ok-chronicle.ensures.number _ _ c.is_valid.ensures (all-good (goal.at.returns-clause-number c).After-all) c.if-not-is_valid-all.false
