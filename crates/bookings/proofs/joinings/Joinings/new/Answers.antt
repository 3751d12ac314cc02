-- The number of every war fits, and what is left is what the record's wars tell.
use mathlib.Core.Path.{sym, ap, ◌∙◌}
use native.Mathlib.Omega.{arith}
use lib.ListN.{length}
use Rattle.rules.specs.Bookings.{joinings_from}
use Rattle.bookings.proofs.JoiningLaws.{wars-next, wars-fit, joinings-told}
use Rattle.bookings.proofs.joinings.Joinings.new.Goals as goal

pub invariant_of-result : goal.invariant_of-result
invariant_of-result c = let next = wars-next c.args.opened.wars c.next-events.result c.next-events.new.self c.next-events.ensures.steps in record { few = omega (arith, ap length next, wars-fit c.args.opened) }

pub returns : goal.returns
returns c = ap (joinings_from 0) (sym (wars-next c.args.opened.wars c.next-events.result c.next-events.new.self c.next-events.ensures.steps)) ∙ joinings-told c.args.opened
