use mathlib.Core.Path.{◌≡◌, sym, ◌∙◌}
use mathlib.Core.Bool.{false}
use Prim.Native.Nat.{ℕ, ◌≤◌}
use native.Mathlib.Decide.{dec_lt}
use native.Mathlib.Omega.{arith}
use borrow.Author.Tests.{le-leb, lt-leb, ne_eqb}
use lib.ListN.{get_or, length-set, get_or-eq_default}
use Rattle.lists.proofs.TableLaws.{entry_set}
use Rattle.format.specs.Tags.{tag_byte}
use Rattle.record_check.proofs.tables.fill_tag_bytes.Goals as goal

-- A number that is no byte is no tag's byte.
past : (b : ℕ) → 256 ≤ b → tag_byte b ≡ false
unfolding tag_byte
past b h =
    simp (
      le-leb 48 b (omega arith),
      lt-leb b 57 (omega arith),
      le-leb 65 b (omega arith),
      lt-leb b 90 (omega arith),
      le-leb 97 b (omega arith),
      lt-leb b 122 (omega arith),
      ne_eqb b 45 (λ e. omega arith),
    )

pub loop-b-init : goal.loop-b-init
loop-b-init c = record { size = c.told-table; below = λ k h. absurd (omega arith) }

pub loop-b-preserved : goal.loop-b-preserved
loop-b-preserved c =
    record {
      size = simp length-set c.loop-b.invariant.size;
      below = λ k h. entry_set tag_byte false c.loop-b.table c.loop-b.b k _ (omega arith) c.tag_byte.ensures (λ e. c.loop-b.invariant.below k (omega arith));
    }

pub returns : goal.returns
returns c =
    let l = c.loop-b in
    record {
      rule =
          λ b. elim (dec_lt b 256) as (λ _. get_or l.table b false ≡ tag_byte b) [
            | yes p ↦ l.invariant.below b (omega arith)
            | no p ↦ get_or-eq_default l.table false (omega (arith, l.invariant.size)) ∙ sym (past b (omega arith))
          ];
    }
