use Rattle.resolver.proofs.PassLaws.{row-put}
use Rattle.resolver.proofs.words.put_row.Goals as goal

pub returns : goal.returns
returns c = row-put _ _ _ _ c.requires c.put.ensures.cells
