-- The keys from `to` and `date` on, below those of the next tag.
use mathlib.Core.Path.{◌≡◌}
use Prim.Native.Nat.{◌+◌, ◌*◌, ◌/◌}
use native.Mathlib.Omega.{arith}
use Rattle.nation_tables.specs.Keys.{settling_key}
use Rattle.nation_tables.specs.Layout.{tag_span}
use Rattle.nation_tables.proofs.settling.settling_row.Goals as goal

pub returns : goal.returns
returns c =
    let low : c.settling_key-low.result / 2 * 2 ≡ settling_key c.args.to.0 c.args.date.0 0 = omega (arith, c.settling_key-low.ensures) in
    let high : (c.from-word.result + 1) * tag_span ≡ settling_key (c.args.to.0 + 1) 0 0 = omega (arith, c.from-word.ensures) in
    rw (low, high) at c.first_within.ensures
