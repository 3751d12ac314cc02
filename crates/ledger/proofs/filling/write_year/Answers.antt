-- The point alone, or behind the zeros.
use borrow.Author.Rules.{rules}
use Rattle.ledger.proofs.FillsLaws.{fills-then, year-alone}
use Rattle.ledger.proofs.filling.write_year.Goals as goal

pub returns-then-point-running : goal.returns-then-point-running
returns-then-point-running c =
    year-alone _ _ _ _ _ _ (search rules) c.write_point.ensures

pub returns : goal.returns
returns c =
    fills-then _ _ _ _ _ c.write_zeros-n.ensures _ c.write_point-2.new.out c.write_point-2.ensures
