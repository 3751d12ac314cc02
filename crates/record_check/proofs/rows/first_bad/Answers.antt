use mathlib.Core.Path.{sym, ap, ◌∙◌}
use native.Mathlib.Omega.{arith}
use Rattle.format.proofs.RefusalNumberLaws.{handed-on}
use Rattle.record_check.proofs.FirstBadLaws.{row-passes, row-refuses, rows-pass}
use Rattle.record_check.proofs.rows.first_bad.Goals as goal

pub returns-in_err-checked : goal.returns-in_err-checked
returns-in_err-checked g c =
    handed-on c.from_residual.result c.in_err-checked.field-0.0 c.from_residual.ensures
    ∙ row-refuses g.R.Checked.number g.R.Packed.unpacked c.args.rows.now c.loop-row.row-index c.row-item.result (omega arith) c.row-item.is
    c.in_err-checked.field-0.0 (c.in_err-checked.ensures ∙ ap g.R.Checked.number c.unpack.ensures)
    ∙ c.loop-row.invariant

pub loop-row-preserved : goal.loop-row-preserved
loop-row-preserved g c =
    sym (row-passes g.R.Checked.number g.R.Packed.unpacked c.args.rows.now c.loop-row.row-index c.row-item.result (omega arith) c.row-item.is
    (c.in_ok-checked.ensures ∙ ap g.R.Checked.number c.unpack.ensures))
    ∙ c.loop-row.invariant

pub returns : goal.returns
returns g c = rows-pass g.R.Checked.number g.R.Packed.unpacked c.args.rows.now c.loop-row.row-index (omega arith) ∙ c.loop-row.invariant
