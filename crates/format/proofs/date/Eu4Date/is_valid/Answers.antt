-- Years and day together are the rule.
use Rattle.format.proofs.DateLaws.{good-in-parts}
use Rattle.format.proofs.date.Eu4Date.is_valid.Goals as goal

pub returns : goal.returns
returns c =
    rw (c.is_day.ensures, c.month_day.ensures, c.in_years.ensures) (good-in-parts c.args.self)
