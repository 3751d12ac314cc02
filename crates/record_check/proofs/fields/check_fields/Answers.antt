-- The first test that refuses gives its number; those before it pass.
use mathlib.Core.Path.{sym, ◌∙◌}
use Rattle.format.proofs.FirstLaws.{first_one}
use Rattle.format.proofs.RefusalNumberLaws.{pass, stop, handed-on}
use Rattle.record_check.proofs.DayLaws.{days-none}
use Rattle.record_check.proofs.FirstBadLaws.{fields-told}
use Rattle.record_check.proofs.fields.check_fields.Goals as goal

pub fill_days-requires : goal.fill_days-requires
fill_days-requires c = days-none

pub returns-in_err-head_checked : goal.returns-in_err-head_checked
returns-in_err-head_checked c =
    handed-on c.from_residual.result c.in_err-head_checked.field-0.0 c.from_residual.ensures
    ∙ fields-told c.args.parsed
    (stop _ c.in_err-head_checked.field-0.0 c.in_err-head_checked.ensures)

pub returns-in_err-rows_checked : goal.returns-in_err-rows_checked
returns-in_err-rows_checked c =
    handed-on c.from_residual-in_err-rows_checked.result c.in_err-rows_checked.field-0.0 c.from_residual-in_err-rows_checked.ensures
    ∙ fields-told c.args.parsed
    (pass _ c.in_ok-head_checked.ensures (stop _ c.in_err-rows_checked.field-0.0 c.in_err-rows_checked.ensures))

pub returns-in_err-rows_checked-2 : goal.returns-in_err-rows_checked-2
returns-in_err-rows_checked-2 c =
    handed-on c.from_residual-in_err-rows_checked-2.result c.in_err-rows_checked-2.field-0.0 c.from_residual-in_err-rows_checked-2.ensures
    ∙ fields-told c.args.parsed
    (pass _ c.in_ok-head_checked.ensures (pass _ c.in_ok-rows_checked.ensures (stop _ c.in_err-rows_checked-2.field-0.0 c.in_err-rows_checked-2.ensures)))

pub returns-in_err-rows_checked-3 : goal.returns-in_err-rows_checked-3
returns-in_err-rows_checked-3 c =
    handed-on c.from_residual-in_err-rows_checked-3.result c.in_err-rows_checked-3.field-0.0 c.from_residual-in_err-rows_checked-3.ensures
    ∙ fields-told c.args.parsed
    (pass _ c.in_ok-head_checked.ensures (pass _ c.in_ok-rows_checked.ensures (pass _ c.in_ok-rows_checked-2.ensures
    (stop _ c.in_err-rows_checked-3.field-0.0 c.in_err-rows_checked-3.ensures))))

pub returns-in_err-rows_checked-4 : goal.returns-in_err-rows_checked-4
returns-in_err-rows_checked-4 c =
    handed-on c.from_residual-in_err-rows_checked-4.result c.in_err-rows_checked-4.field-0.0 c.from_residual-in_err-rows_checked-4.ensures
    ∙ fields-told c.args.parsed
    (pass _ c.in_ok-head_checked.ensures (pass _ c.in_ok-rows_checked.ensures (pass _ c.in_ok-rows_checked-2.ensures
    (pass _ c.in_ok-rows_checked-3.ensures (stop _ c.in_err-rows_checked-4.field-0.0 c.in_err-rows_checked-4.ensures)))))

pub returns-in_err-rows_checked-5 : goal.returns-in_err-rows_checked-5
returns-in_err-rows_checked-5 c =
    handed-on c.from_residual-in_err-rows_checked-5.result c.in_err-rows_checked-5.field-0.0 c.from_residual-in_err-rows_checked-5.ensures
    ∙ fields-told c.args.parsed
    (pass _ c.in_ok-head_checked.ensures (pass _ c.in_ok-rows_checked.ensures (pass _ c.in_ok-rows_checked-2.ensures
    (pass _ c.in_ok-rows_checked-3.ensures (pass _ c.in_ok-rows_checked-4.ensures (stop _ c.in_err-rows_checked-5.field-0.0 c.in_err-rows_checked-5.ensures))))))

pub returns-in_err-rows_checked-6 : goal.returns-in_err-rows_checked-6
returns-in_err-rows_checked-6 c =
    handed-on c.from_residual-in_err-rows_checked-6.result c.in_err-rows_checked-6.field-0.0 c.from_residual-in_err-rows_checked-6.ensures
    ∙ fields-told c.args.parsed
    (pass _ c.in_ok-head_checked.ensures (pass _ c.in_ok-rows_checked.ensures (pass _ c.in_ok-rows_checked-2.ensures
    (pass _ c.in_ok-rows_checked-3.ensures (pass _ c.in_ok-rows_checked-4.ensures (pass _ c.in_ok-rows_checked-5.ensures
    (stop _ c.in_err-rows_checked-6.field-0.0 c.in_err-rows_checked-6.ensures)))))))

pub returns-in_err-rows_checked-7 : goal.returns-in_err-rows_checked-7
returns-in_err-rows_checked-7 c =
    handed-on c.from_residual-in_err-rows_checked-7.result c.in_err-rows_checked-7.field-0.0 c.from_residual-in_err-rows_checked-7.ensures
    ∙ fields-told c.args.parsed
    (pass _ c.in_ok-head_checked.ensures (pass _ c.in_ok-rows_checked.ensures (pass _ c.in_ok-rows_checked-2.ensures
    (pass _ c.in_ok-rows_checked-3.ensures (pass _ c.in_ok-rows_checked-4.ensures (pass _ c.in_ok-rows_checked-5.ensures
    (pass _ c.in_ok-rows_checked-6.ensures (stop _ c.in_err-rows_checked-7.field-0.0 c.in_err-rows_checked-7.ensures))))))))

pub returns : goal.returns
returns c =
    fields-told c.args.parsed
    (pass _ c.in_ok-head_checked.ensures (pass _ c.in_ok-rows_checked.ensures (pass _ c.in_ok-rows_checked-2.ensures
    (pass _ c.in_ok-rows_checked-3.ensures (pass _ c.in_ok-rows_checked-4.ensures (pass _ c.in_ok-rows_checked-5.ensures
    (pass _ c.in_ok-rows_checked-6.ensures (pass _ c.in_ok-rows_checked-7.ensures (c.points_checked.ensures ∙ sym (first_one _))))))))))
