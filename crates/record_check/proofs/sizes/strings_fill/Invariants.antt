-- The strings that are left fill what is left.
use mathlib.Core.Path.{◌≡◌}
use Prim.Native.Nat.{◌-◌}
use Rattle.record_check.proofs.StringLaws.{filled}
use Rattle.record_check.proofs.sizes.strings_fill.Given as goal

abbrev pub invariant-loop : goal.invariant-loop
invariant-loop l = filled l.rest (l.n - l.counter) ≡ filled l.bytes l.n
