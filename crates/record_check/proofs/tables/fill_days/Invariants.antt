-- The days of the months before `month` are marked, and no other.
use Prim.Native.Nat.{◌*◌}
use Rattle.record_check.specs.Tables.{DaysTo}
use Rattle.record_check.proofs.tables.fill_days.Given as goal

abbrev pub invariant-loop-month : goal.invariant-loop-month
invariant-loop-month l = DaysTo l.table (100 * l.month)
