-- The keys of an initial are those from its word times key_rows on, below the next word's.
use mathlib.Core.Path.{◌≡◌, ◌∙◌}
use Prim.Native.Nat.{◌+◌, ◌*◌, ◌/◌}
use native.Mathlib.Omega.{arith}
use Rattle.nation_tables.specs.Layout.{key_rows}
use Rattle.nation_tables.proofs.countries.mapped_row.Goals as goal

pub returns : goal.returns
returns c =
    let w = c.args.tag.0 in
    let low : c.from-low.result ≡ w = c.from-low.ensures ∙ c.from.ensures in
    let even : (w * key_rows + key_rows) / 2 * 2 ≡ w * key_rows + key_rows = omega arith in
    rw (low, even) at c.last_within.ensures
