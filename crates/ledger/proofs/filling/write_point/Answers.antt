use Rattle.ledger.proofs.FillsLaws.{point-put}
use Rattle.ledger.proofs.filling.write_point.Goals as goal

pub returns : goal.returns
returns c = point-put _ c.args.out.now _ _ _ _ c.to_row.ensures c.put.ensures.room c.put.ensures.cells c.from.ensures
