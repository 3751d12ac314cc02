-- The tests in turn: limits, room for the rows, totals and strings.
use mathlib.Core.Path.{◌≡◌, sym, ap, ◌∙◌}
use mathlib.Core.Bool.{◌&&◌}
use native.Mathlib.Omega.{arith}
use Rattle.format.specs.declared.refused.Refusal.TheVariants.{SizesDisagree}
use Rattle.format.specs.RefusalNumber.{refusal_number}
use Rattle.format.specs.RecordNumber.{sizes_agree}
use Rattle.format.proofs.RefusalNumberLaws.{handed-on}
use Rattle.record_check.proofs.TotalLaws.{few-rows, sizes-limits, sizes-short, sizes-told}
use Rattle.record_check.proofs.VerdictLaws.{zero-if, number-if}
use Rattle.record_check.proofs.sizes.sizes_checked.Goals.{After-strings_fill}
use Rattle.record_check.proofs.sizes.sizes_checked.Goals as goal

pub returns-then-not-within_limits-clause-number : goal.returns-then-not-within_limits-clause-number
returns-then-not-within_limits-clause-number c =
    number-if 3 (sizes-limits c.args.s.now c.read_head-head.result c.read_head-head.ensures (sym c.within_limits.ensures ∙ c.if-not-within_limits.true))

pub returns-in_err-sections-clause-number : goal.returns-in_err-sections-clause-number
returns-in_err-sections-clause-number c =
    let short = rw c.in_err-sections.ensures.ok_part at c.sections_of.ensures in
    let same : c.in_err-sections.field-0.0 ≡ SizesDisagree = grind arith in
    handed-on c.from_residual.result _ c.from_residual.ensures ∙ ap refusal_number same
    ∙ number-if 3 (sizes-short c.args.s.now c.read_head-head.result c.read_head-head.ensures short)

pub totals_agree-requires : goal.totals_agree-requires
totals_agree-requires c =
    let read = rw c.in_ok-sections.ensures.ok_part at c.sections_of.ensures in
    few-rows c.args.s.now c.read_head-head.result c.in_ok-sections.sections (sym c.within_limits.ensures ∙ c.if-not-within_limits.false) read

told : (c : After-strings_fill) → c.totals_agree.result && c.strings_fill.result ≡ sizes_agree c.args.s.now
told c =
    let read = rw c.in_ok-sections.ensures.ok_part at c.sections_of.ensures in
    sizes-told c.args.s.now c.read_head-head.result c.in_ok-sections.sections c.totals_agree.result c.strings_fill.result c.read_head-head.ensures read
    (sym c.within_limits.ensures ∙ c.if-not-within_limits.false) c.totals_agree.ensures c.strings_fill.ensures

pub returns-then-totals_agree-strings_fill-clause-number : goal.returns-then-totals_agree-strings_fill-clause-number
returns-then-totals_agree-strings_fill-clause-number c =
    zero-if 3 (sym (told (goal.at.returns-then-totals_agree-strings_fill-clause-number c).After-strings_fill) ∙ c.if-totals_agree-strings_fill.true)

pub returns-else-totals_agree-strings_fill-clause-number : goal.returns-else-totals_agree-strings_fill-clause-number
returns-else-totals_agree-strings_fill-clause-number c =
    number-if 3 (sym (told (goal.at.returns-else-totals_agree-strings_fill-clause-number c).After-strings_fill) ∙ c.if-totals_agree-strings_fill.false)
