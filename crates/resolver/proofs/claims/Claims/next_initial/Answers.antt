-- Past the last nation, or its first claim.
use Rattle.resolver.proofs.ClaimLaws.{claims-end, claims-initial}
use Rattle.resolver.proofs.claims.Claims.next_initial.Goals as goal

pub returns-in_err-row : goal.returns-in_err-row
returns-in_err-row c =
    let none_left = claims-end _ _ _ _ _ c.requires c.in_err-row.ensures.steps.0 in rw c.from_residual.ensures (none_left, none_left)

pub returns : goal.returns
returns c = claims-initial _ _ _ _ _ _ _ _ c.requires c.in_ok-row.ensures.steps c.new.ensures
