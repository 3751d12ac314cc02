-- The entries below `b` hold the rule, each by the one test of a byte.
use mathlib.Core.Path.{◌≡◌}
use mathlib.Core.Bool.{false}
use Prim.Native.Nat.{ℕ, ◌<◌}
use lib.ListN.{length, get_or}
use Rattle.format.specs.Tags.{tag_byte}
use Rattle.record_check.proofs.tables.fill_tag_bytes.Given as goal

abbrev pub invariant-loop-b : goal.invariant-loop-b
invariant-loop-b l =
    record { size : length l.table ≡ 256; below : (k : ℕ) → k < l.b → get_or l.table k false ≡ tag_byte k }
