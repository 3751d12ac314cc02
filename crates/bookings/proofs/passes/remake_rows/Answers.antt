use borrow.Author.Rules.{rules}
use Rattle.bookings.proofs.BookingPassLaws.{passing-first, passing-made, passing-out, passing-full}
use Rattle.bookings.proofs.passes.remake_rows.Goals as goal

pub loop-i-init : goal.loop-i-init
loop-i-init g c = (search rules, passing-first _ _ _ _ (search rules))

pub loop-i-preserved : goal.loop-i-preserved
loop-i-preserved g c = (
  search rules,
  passing-made _ _ _ _ _ _ _ c.loop-i.invariant.1 _ _ _ (search rules) c.in-Some.ensures.steps c.remake_row.ensures c.remake_row.auto.out,
)

pub shape_of-out : goal.shape_of-out
shape_of-out g c = c.loop-i.invariant.1.long

pub returns-in_default : goal.returns-in_default
returns-in_default g c = passing-out _ _ _ _ _ _ _ c.loop-i.invariant.1 c.in_default.ensures.steps.0

pub returns : goal.returns
returns g c = passing-full _ _ _ _ _ _ _ c.loop-i.invariant.1 (search rules)
