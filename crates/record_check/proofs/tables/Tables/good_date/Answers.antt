-- A date in its years whose day the table has.
use mathlib.Core.Path.{ap, ap₂, ◌∙◌}
use mathlib.Core.Bool.{false, ◌&&◌}
use Prim.Native.Nat.{ℕ}
use lib.ListN.{get_or}
use Rattle.format.specs.Days.{month_day}
use Rattle.format.proofs.DateLaws.{good-in-parts}
use Rattle.record_check.proofs.tables.Tables.good_date.Goals as goal

pub returns : goal.returns
returns c =
    let t = c.args.self.now in
    ap₂ ◌&&◌ c.in_years.ensures (ap (λ (k : ℕ). get_or t.days.now k false) c.month_day.ensures ∙ t.day_rule.rule (month_day c.args.date))
    ∙ good-in-parts c.args.date
