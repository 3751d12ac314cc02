-- The days of the month are marked at once, between the number of its hundred and the rest of it.
use native.Mathlib.Omega.{arith}
use Rattle.record_check.proofs.DayLaws.{month-short, day-good, days-open, days-fill, days-close}
use Rattle.record_check.proofs.tables.mark_days.Goals as goal

pub returns : goal.returns
returns c =
    let month = c.args.month in
    let short = month-short month in
    let days = c.month_days-days.ensures in
    days-close _ month _ (omega (arith, days))
    (days-fill _ c.fill.new.self _ _ (days-open c.args.table.now month _ (omega arith) (omega arith) c.requires.2) (omega (arith, days, short, c.requires))
    (c.fill.ensures.after (λ y e. e)) (λ k l h. day-good k month (omega (arith, days, short)) (omega arith) (omega (arith, days))))
