use Rattle.std.proofs.Common.{refl, sym, ap, ◌∙◌}
use Rattle.search.specs.Places.{place_in}
use Rattle.rows.proofs.RowAtLaws.{nation_rows_told}
use Rattle.players.specs.Marks.{marked_from}
use Rattle.players.proofs.MarkLaws.{marks_left, tags-read, marks-end, marks_next}
use Rattle.players.proofs.marks.mark_nations.Goals as goal

pub loop-number-init : goal.loop-number-init
loop-number-init c = (
  refl,
  rw (c.into_iter-number-iterator.ensures.into_iter_gives, c.enumerate-number-items.ensures.source, c.enumerate-number-items.ensures.count)
      (ap (marks_left (place_in c.args.countries.keys.now) c.args.cells.now 0) (c.new.ensures ∙ nation_rows_told c.args.nations.now)),
)

pub loop-number-preserved : goal.loop-number-preserved
loop-number-preserved c =
    let s = c.in-Some.ensures.steps in (
      c.mark_cell.auto.cells ∙ c.loop-number.invariant.0,
      rw s.2 (marks_next (place_in c.args.countries.keys.now) c.loop-number.cells _ _ _ c.in-Some.row s.0 c.mark_cell.new.cells _ c.first_place.ensures (rw s.1 at c.mark_cell.ensures))
          ∙ c.loop-number.invariant.1,
    )

pub returns : goal.returns
returns c =
    sym (marks-end (place_in c.args.countries.keys.now) c.loop-number.cells _ _ c.in-None.ensures.steps.0.0)
    ∙ c.loop-number.invariant.1
    ∙ ap (marked_from (place_in c.args.countries.keys.now) c.args.cells.now 0) (tags-read c.args.nations.now)
