-- The sum so far with the counts that are left is the sum of all; no count has more than 32 bits.
use mathlib.Core.Path.{◌≡◌}
use Prim.Native.Nat.{ℕ, ◌+◌, ◌*◌, ◌≤◌}
use lib.ListN.{drop}
use Rattle.record_check.proofs.TotalLaws.{left}
use Rattle.record_check.proofs.sizes.total.Given as goal

abbrev pub invariant-loop-row : goal.invariant-loop-row
invariant-loop-row g l =
    record {
      small : l.sum ≤ l.row-index * 4294967295;
      same :
          (number : g.row.R.Denot → ℕ) → ((row : g.row.R.Denot) (n : ℕ) → goal.F-post g l.count row n → n ≡ number row)
          → l.sum + left number g.R.Packed.unpacked (drop l.row-index l.rows) ≡ left number g.R.Packed.unpacked l.rows;
    }
