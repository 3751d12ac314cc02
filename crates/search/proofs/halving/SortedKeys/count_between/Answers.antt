-- None is below 0.
use borrow.Author.Rules.{rules}
use Rattle.search.proofs.HalvingLaws.{none_below}
use Rattle.search.proofs.halving.SortedKeys.count_between.Goals as goal

pub returns-then-x-lt2-clause-value : goal.returns-then-x-lt2-clause-value
returns-then-x-lt2-clause-value c = (none_below _ c.args.x (search rules)).counted c.args.self.sorted
