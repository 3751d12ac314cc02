-- The mask keeps the bits from n on: none is set exactly below 2^n.
use mathlib.Core.Path.{ap, ◌∙◌}
use Prim.Native.Nat.{ℕ}
use native.Mathlib.Omega.{arith}
use lib.Dec.{eqb}
use lib.Bits.{bit_and}
use Rattle.record_check.proofs.FlagLaws.{masked-off}
use Rattle.record_check.proofs.flags.flags_defined.Goals as goal

pub returns : goal.returns
returns c =
    ap (λ (m : ℕ). eqb (bit_and c.args.flags m) 0) c.unwrap_or-others.ensures ∙ masked-off c.checked_shl.result c.args.flags c.args.n (omega arith) c.checked_shl.ensures
