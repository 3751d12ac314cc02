-- As many rows are counted as there are questions, each of two words.
use native.Mathlib.Omega.{arith}
use Rattle.resolver.proofs.ResolveEachLaws.{each-few}
use Rattle.page.proofs.HostLaws.{outcome-returned}
use Rattle.page.proofs.resolving.resolver_resolve_each.Goals as goal

pub returns : goal.returns
returns c = outcome-returned _ _ c.returned.type_inv c.returned.ensures _ _ c.resolve_each.ensures (λ n e. omega (arith, each-few _ _ _ _ n e))
