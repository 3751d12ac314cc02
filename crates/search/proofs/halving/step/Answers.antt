-- What is multiplied is 0 or 1.
use Prim.Native.Nat.{◌-◌, ◌/◌}
use native.Mathlib.Omega.{arith}
use Rattle.search.proofs.HalvingLaws.{factor-none, factor-one, factor-most}
use Rattle.search.proofs.halving.step.Goals as goal

pub overflow_mul-result : goal.overflow_mul-result
overflow_mul-result c =
    omega (arith, factor-most ((c.args.top - c.args.key / 2) / 9223372036854775808) c.args.half (omega arith))

pub returns : goal.returns
returns c = (
  λ h. factor-one ((c.args.top - c.args.key / 2) / 9223372036854775808) c.args.half (omega arith),
  λ h. factor-none ((c.args.top - c.args.key / 2) / 9223372036854775808) c.args.half (omega arith),
)
