-- Rows are counted up to the largest number that can be told.
use Rattle.page.proofs.HostLaws.{number-returned}
use Rattle.page.proofs.LedgersLaws.{rows-given}
use Rattle.page.proofs.ledgers.nation_ledger_rows.Goals as goal

pub returns : goal.returns
returns c = number-returned _ _ c.returned.type_inv c.returned.ensures _ (rw c.can_return-most.ensures at c.nation_ledger_rows.ensures) (rows-given _ _ _ _ _)
