-- The test is the definition, with the days that `month_days` gives.
use mathlib.Core.Path.{ap}
use mathlib.Core.Bool.{◌&&◌}
use Prim.Native.Nat.{ℕ, ◌%◌}
use lib.Dec.{leb}
use Rattle.format.specs.Days.{is_day}
use Rattle.format.proofs.date.is_day.Goals as goal

pub returns : goal.returns
unfolding is_day
returns c =
    let day = c.args.month_day % 100 in
    ap (λ (days : ℕ). leb 1 day && leb day days) c.month_days.ensures
