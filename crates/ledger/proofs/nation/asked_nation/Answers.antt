-- The shape is tested before the number.
use mathlib.Core.Path.{◌∙◌}
use Rattle.format.proofs.RefusalNumberLaws.{handed-on}
use Rattle.ledger.proofs.LedgerOutcomeLaws.{asked-refused, asked-unlisted, asked-listed}
use Rattle.ledger.proofs.nation.asked_nation.Goals as goal

pub returns-in_err-open-clause-number : goal.returns-in_err-open-clause-number
returns-in_err-open-clause-number c = handed-on _ _ c.from_residual.ensures ∙ asked-refused _ _ _ _ c.in_err-open.ensures.number

pub returns-then-nation_count-nation-clause-number : goal.returns-then-nation_count-nation-clause-number
returns-then-nation_count-nation-clause-number c = asked-unlisted _ _ _ c.in_ok-open.ensures.number _ c.nation_count.ensures c.if-nation_count-nation.true

pub returns-clause-number : goal.returns-clause-number
returns-clause-number c = asked-listed _ _ _ c.in_ok-open.ensures.number _ c.nation_count.ensures c.if-nation_count-nation.false
