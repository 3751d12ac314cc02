-- At most the bytes of the longest page are counted.
use native.Mathlib.Omega.{arith}
use Rattle.pages.proofs.PrintLaws.{page-few}
use Rattle.page.proofs.HostLaws.{outcome-returned}
use Rattle.page.proofs.paging.page.Goals as goal

pub returns : goal.returns
returns c = outcome-returned _ _ c.returned.type_inv c.returned.ensures _ _ c.write_page.ensures (λ n e. omega (arith, page-few _ _ _ n e))
