-- At most 60,000 rows are counted.
use native.Mathlib.Omega.{arith}
use Rattle.owner_changes.proofs.OutcomeLaws.{owners-few}
use Rattle.page.proofs.HostLaws.{outcome-returned}
use Rattle.page.proofs.province_owners.Goals as goal

pub returns : goal.returns
returns c = outcome-returned _ _ c.returned.type_inv c.returned.ensures _ _ c.province_owners.ensures (λ n e. omega (arith, owners-few _ _ n e))
