-- Invariant: the rows passed are made anew.
use Prim.Native.Nat.{◌-◌, ◌*◌, ◌≤◌}
use lib.ListN.{take}
use Rattle.rules.specs.Bookings.{booking_width}
use Rattle.bookings.specs.Walking.{joinings_left}
use Rattle.bookings.proofs.BookingPassLaws.{Passing}
use Rattle.bookings.proofs.passes.remake_rows.Given as goal

abbrev pub invariant-loop-i : goal.invariant-loop-i
invariant-loop-i g l =
    (l.i ≤ l.i-end)
    × Passing (g.P.RowPass.pass_row l.fn.pass) (take l.i-end (joinings_left l.fn.joinings)) l.fn.out (take (l.i-end - l.i) (joinings_left l.joinings)) (booking_width * l.i) l.out
