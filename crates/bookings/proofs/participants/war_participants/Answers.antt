-- A refused record, or the outcome of the record that was opened.
use mathlib.Core.Path.{ap, ◌∙◌}
use Rattle.std.proofs.lemmas.Result.{err_from_is_err_and}
use Rattle.rules.specs.Outcomes.{call_war_participants}
use Rattle.bookings.proofs.BookingOutcomeLaws.{bookings-refused}
use Rattle.bookings.proofs.participants.war_participants.Goals as goal

pub returns-in_err-opened : goal.returns-in_err-opened
returns-in_err-opened c =
    let p = err_from_is_err_and c.from_residual.result c.from_residual.ensures.1 in
    rw (p.1, p.2) (bookings-refused c.args.s.now c.args.nations.now c.args.entries.now c.args.out.now _ c.in_err-opened.ensures.number)

pub returns : goal.returns
returns c =
    c.war_participants_of.ensures
    ∙ ap (λ xs. call_war_participants xs c.args.nations.now c.args.entries.now c.args.out.now) c.in_ok-opened.ensures.bytes
