-- A slice that has room for three words of each row has more words than rows.
use native.Mathlib.Omega.{arith}
use Rattle.page.proofs.LedgersLaws.{ledgers-given}
use Rattle.page.proofs.HostLaws.{outcome-returned}
use Rattle.page.proofs.ledgers.nation_ledgers.Goals as goal

pub returns : goal.returns
returns c = outcome-returned _ _ c.returned.type_inv c.returned.ensures _ _ c.nation_ledgers.ensures (λ n e. omega (arith, ledgers-given _ _ _ _ n e))
