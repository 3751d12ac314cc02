-- A nation's ledger span by span: the points of one span, those of the spans that are left, and how they are counted and written.
use mathlib.Core.Path.{◌≡◌, refl, sym, ap, subst, ◌∙◌}
use mathlib.Core.List.{List, [], ◌++◌}
use mathlib.Core.Option.{Option, none, some, map, none-ne-some, some-injective}
use Prim.Native.Nat.{ℕ, ◌+◌, ◌-◌, ◌*◌, ◌/◌, ◌≤◌, min}
use native.Mathlib.Omega.{arith}
use lib.ListN.{length, take, length-append}
use lib.Seq.{take_all, take-nil}
use Rattle.std.specs.Prelude as code
use Rattle.std.specs.Prelude.{Some, None}
use Rattle.lists.specs.Lists.{first_that}
use Rattle.lists.specs.Options.{option_of}
use Rattle.format.specs.Tags.{same_tag}
use Rattle.format.specs.Campaign.{Ledger}
use Rattle.record.specs.Cursors.{Points, points_left}
use Rattle.rules.specs.Lent.{written}
use Rattle.format.specs.declared.values.LedgerPoint.{LedgerPoint}
use Rattle.format.specs.declared.values.Span.{Span}
use Rattle.rules.specs.Ledger.{row_points, span_points, point_rows, ledger_width}
use Rattle.ledger.specs.PointSteps.{span_filled, FillsSpan}
use Rattle.ledger.proofs.FillsLaws.{FillingRows, fills-done}

-- ## One span

module _ (ls : List Ledger) (sp : Span) {r : code.Option Points}
    (told : map points_left (option_of r) ≡ map (λ l. l.points) (first_that (λ l. same_tag l.tag sp.tag) ls)) where
  pub points-found : (c : Points) → r ≡ Some c → span_filled c sp ≡ span_points ls sp
  unfolding span_points row_points
  points-found c e = go (first_that (λ l. same_tag l.tag sp.tag) ls) (sym (ap (λ (o : code.Option Points). map points_left (option_of o)) e) ∙ told)
    where
      go : (o : Option Ledger) → some (points_left c) ≡ map (λ l. l.points) o → span_filled c sp ≡ row_points sp o
      go none h = absurd (none-ne-some (points_left c) (sym h))
      go (some l) h = rw (some-injective (points_left c) l.points h)

  pub points_none : r ≡ None → span_points ls sp ≡ []
  unfolding span_points row_points
  points_none e = go (first_that (λ l. same_tag l.tag sp.tag) ls) (sym (ap (λ (o : code.Option Points). map points_left (option_of o)) e) ∙ told)
    where
      go : (o : Option Ledger) → none ≡ map (λ l. l.points) o → row_points sp o ≡ []
      go none h = refl
      go (some l) h = absurd (none-ne-some l.points h)

-- ## Counts

-- What is counted and what is left are as many as all, where no more than most are counted.
pub record PointsCounted (all left : List LedgerPoint) (most n : ℕ) : Type 0 where
  pub few : n ≤ most
  pub same : min (n + length left) most ≡ min (length all) most

pub points-start : (all left : List LedgerPoint) (most : ℕ) → left ≡ all → PointsCounted all left most 0
points-start all left most e = record { few = omega arith; same = omega (arith, ap length e) }

module _ {all left : List LedgerPoint} {most n : ℕ} (k : PointsCounted all left most n) where
  -- The next points, held to what is left of the most.
  pub count-more : (ps rest : List LedgerPoint) (m : ℕ) → left ≡ ps ++ rest → m ≡ min (length ps) (most - n) → PointsCounted all rest most (n + m)
  count-more ps rest m e h =
      let l : length left ≡ length ps + length rest = ap length e ∙ length-append ps rest in
      record { few = omega (arith, k.few); same = omega (arith, k.few, k.same) }

  pub count-end : left ≡ [] → n ≡ min (length all) most
  count-end e = omega (arith, k.few, k.same, ap length e)

-- ## Rows

-- Where there is room for all points, all are written.
pub fills-whole : (ps : List LedgerPoint) (r : ℕ) (before after : List ℕ) → FillsSpan ps r before after → ledger_width * length ps ≤ length before
    → (r ≡ length ps) × (after ≡ written (point_rows ps) before)
fills-whole ps r before after f h =
    let few : length ps ≤ length before / ledger_width = omega arith in (
      omega (arith, f.counted),
      f.cells ∙ ap (λ (l : List LedgerPoint). written (point_rows l) before) (take_all (length before / ledger_width) ps few),
    )

-- Points that are the same.
pub fills_same : (ps qs : List LedgerPoint) (r : ℕ) (before after : List ℕ) → FillsSpan ps r before after → ps ≡ qs → FillsSpan qs r before after
fills_same ps qs r before after f e = subst (λ (l : List LedgerPoint). FillsSpan l r before after) e f

-- Nothing is written where there is no point.
pub fills-none : (ps : List LedgerPoint) (before : List ℕ) → ps ≡ [] → FillsSpan ps 0 before before
unfolding point_rows
fills-none ps before e = rw e (record { counted = omega arith; cells = rw (take-nil (length before / ledger_width)) })

module _ {all left : List LedgerPoint} {before : List ℕ} {n : ℕ} {now : List ℕ} (f : FillingRows all left before n now) where
  pub rows-filled : left ≡ [] → FillsSpan all n before now
  rows-filled e = fills-done all left before n now f (ap (take (length before / ledger_width - n)) e ∙ take-nil (length before / ledger_width - n))
