-- The first and the last year by the number's size.
use Rattle.format.proofs.DateLaws.{years-by-size}
use Rattle.format.proofs.date.Eu4Date.in_years.Goals as goal

pub returns : goal.returns
returns c = years-by-size c.args.self.0
