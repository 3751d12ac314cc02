-- A slice that has room for three words of each row has more words than rows.
use native.Mathlib.Omega.{arith}
use Rattle.page.proofs.LedgersLaws.{ledger-given}
use Rattle.page.proofs.HostLaws.{outcome-returned}
use Rattle.page.proofs.ledgers.nation_ledger.Goals as goal

pub returns : goal.returns
returns c = outcome-returned _ _ c.returned.type_inv c.returned.ensures _ _ c.nation_ledger.ensures (λ n e. omega (arith, ledger-given _ _ _ _ _ n e))
