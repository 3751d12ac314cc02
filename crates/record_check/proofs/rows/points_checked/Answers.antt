use mathlib.Core.Path.{◌≡◌, sym, ap, ◌∙◌}
use mathlib.Core.Bool.{Bool, true, false, cond}
use mathlib.Core.List.{List, map}
use Prim.Native.Nat.{ℕ, ◌≤◌}
use native.Mathlib.Omega.{arith}
use lib.Dec.{leb}
use lib.ListN.{length, take}
use Rattle.std.proofs.lemmas.List.{take_all}
use Rattle.lists.specs.Lists.{all_of}
use Rattle.format.specs.Rows.{point_at}
use Rattle.format.specs.RecordNumber.{first_in, year_number}
use Rattle.record_check.proofs.FirstBadLaws.{points-told}
use Rattle.record_check.proofs.rows.points_checked.Goals as goal

-- What the loop found of all points.
found : (good b : Bool) (rows : List (List ℕ)) (i : ℕ) → length rows ≤ i → good ≡ all_of (λ row. leb (point_at row 0).year 9999) (take i rows) → good ≡ b
    → cond b 0 9 ≡ first_in (λ p. year_number p.year) (map (λ row. point_at row 0) rows)
found good b rows i h e q =
    ap (λ x. cond x 0 9) (sym q ∙ e ∙ ap (all_of (λ row. leb (point_at row 0).year 9999)) (take_all i rows h)) ∙ points-told rows

pub returns-then-year_allowed : goal.returns-then-year_allowed
returns-then-year_allowed c =
    found (leb c.loop-row.latest 9999) true c.args.rows.now c.loop-row.row-index (omega arith) c.loop-row.invariant
    (sym c.year_allowed.ensures ∙ c.if-year_allowed.true)

pub returns-else-year_allowed : goal.returns-else-year_allowed
returns-else-year_allowed c =
    found (leb c.loop-row.latest 9999) false c.args.rows.now c.loop-row.row-index (omega arith) c.loop-row.invariant
    (sym c.year_allowed.ensures ∙ c.if-year_allowed.false)
