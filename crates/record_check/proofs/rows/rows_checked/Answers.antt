use mathlib.Core.Path.{sym, ap, ◌∙◌}
use mathlib.Core.List.{map}
use Rattle.std.proofs.Common.{rules}
use Rattle.std.proofs.lemmas.List.{nil_from_length}
use Rattle.format.specs.RecordNumber.{first_in, first_of}
use Rattle.format.proofs.RefusalNumberLaws.{handed-on}
use Rattle.record_check.proofs.FirstBadLaws.{block-passes, block-refuses}
use Rattle.record_check.proofs.GoodLaws.{none_bad}
use Rattle.record_check.proofs.rows.rows_checked.Goals as goal

pub loop-block-preserved-in-Continue-1 : goal.loop-block-preserved-in-Continue-1
loop-block-preserved-in-Continue-1 g c = (
  search rules,
  tt,
  sym (block-passes g.R.Checked.number g.R.Packed.unpacked _ c.in-Some.block.now _ c.in-Some.ensures.steps.1.0 c.in_ok-first_bad.ensures)
      ∙ c.loop-block.invariant.2,
)

pub returns-in_err-first_bad : goal.returns-in_err-first_bad
returns-in_err-first_bad g c =
    handed-on c.from_residual.result c.in_err-first_bad.field-0.0 c.from_residual.ensures
    ∙ block-refuses g.R.Checked.number g.R.Packed.unpacked _ c.in-Some.block.now _ c.in-Some.ensures.steps.1.0 c.in_err-first_bad.field-0.0 c.in_err-first_bad.ensures
    ∙ c.loop-block.invariant.2

pub loop-block-preserved : goal.loop-block-preserved
loop-block-preserved g c = (
  search rules,
  tt,
  sym (block-passes g.R.Checked.number g.R.Packed.unpacked _ c.in-Some.block.now _ c.in-Some.ensures.steps.1.0
      (none_bad g.R.Checked.number g.R.Packed.unpacked c.in-Some.block.now (sym c.all_good.ensures ∙ c.if-not-all_good.false)))
      ∙ c.loop-block.invariant.2,
)

pub returns : goal.returns
unfolding first_in first_of
returns g c =
    sym (ap (λ l. first_in g.R.Checked.number (map g.R.Packed.unpacked l)) (nil_from_length _ c.in-None.ensures.steps.1.0)) ∙ c.loop-block.invariant.2
