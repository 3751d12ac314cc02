use mathlib.Core.Path.{◌∙◌}
use Rattle.std.specs.Prelude.{Some}
use Rattle.lists.proofs.ProgressLaws.{progress}
use Rattle.resolver.specs.Claims.{claims_left}
use Rattle.resolver.proofs.ClaimLaws.{claims-switch, claims-silent}
use Rattle.resolver.proofs.claims.ClaimsIterator.next.Goals as goal

pub returns-in-TagSwitch-clause-steps : goal.returns-in-TagSwitch-clause-steps
returns-in-TagSwitch-clause-steps c =
    c.loop-entry.invariant ∙ claims-switch _ _ _ _ _ _ c.in-Some.entry.date c.in-Some.entry.kind c.in-Some.ensures.steps _ c.in-TagSwitch.is

pub returns-in-TagSwitch-clause-goes : goal.returns-in-TagSwitch-clause-goes
returns-in-TagSwitch-clause-goes c = progress (λ x. x) claims_left {r = Some _} (returns-in-TagSwitch-clause-steps c)

pub loop-entry-preserved : goal.loop-entry-preserved
loop-entry-preserved c =
    c.loop-entry.invariant ∙ claims-silent _ _ _ _ _ _ c.in-Some.entry.date c.in-Some.entry.kind c.in-Some.ensures.steps c.in_default-kind.not-TagSwitch
