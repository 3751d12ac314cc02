use mathlib.Core.Path.{◌≡◌, subst}
use Prim.Native.Nat.{ℕ, ◌+◌, ◌*◌}
use native.Mathlib.Omega.{arith}
use Rattle.record_check.specs.Tables.{DaysTo}
use Rattle.record_check.proofs.DayLaws.{days-whole}
use Rattle.record_check.proofs.tables.fill_days.Goals as goal

pub loop-month-init : goal.loop-month-init
loop-month-init c = c.requires

pub mark_days-requires : goal.mark_days-requires
mark_days-requires c = (omega arith, omega arith, c.loop-month.invariant)

pub loop-month-preserved : goal.loop-month-preserved
loop-month-preserved c =
    let next : 100 * c.loop-month.month + 100 ≡ 100 * (c.loop-month.month + 1) = omega arith in
    subst (λ (end : ℕ). DaysTo c.mark_days.new.table end) next c.mark_days.ensures

pub returns : goal.returns
returns c =
    let all : 100 * c.loop-month.month ≡ 1300 = omega arith in
    days-whole c.loop-month.table (subst (λ (end : ℕ). DaysTo c.loop-month.table end) all c.loop-month.invariant)
