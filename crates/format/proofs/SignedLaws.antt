-- A word read in two's complement, as the library's cast reads it.
use Rattle.std.proofs.Common.{◌≡◌, ap, ℕ, ◌-◌, suc, cond, pos, negsuc, ltb, arith}
use mir.Syntax.{w32}
use mir.Val.{to_z}
use Rattle.format.specs.Bytes.{signed32}

pub signed_word : (w : ℕ) → to_z w32 w ≡ signed32 w
unfolding signed32
signed_word w =
    let e : 4294967296 - suc w ≡ 4294967295 - w = omega arith in
    ap (λ (k : ℕ). cond (ltb w 2147483648) (pos w) (negsuc k)) e
