-- One by one, or block by block and then turned.
use mathlib.Core.Path.{sym, ◌∙◌}
use native.Mathlib.Omega.{arith}
use borrow.Author.Tests.{ltb-true}
use Rattle.bookings.specs.Walking.{joinings_left}
use Rattle.bookings.proofs.BookingBlockLaws.{booked-rows, booked-each}
use Rattle.bookings.proofs.passes.book_rows.Goals as goal

pub returns-else-fit_in_rows : goal.returns-else-fit_in_rows
returns-else-fit_in_rows c =
    booked-each c.args.chronicle.nations.now c.args.chronicle.entries.now (joinings_left c.args.counted.joinings) c.args.out.now _ c.requires.room c.remake_rows-else-fit_in_rows.ensures

pub returns-then-fit_in_rows : goal.returns-then-fit_in_rows
returns-then-fit_in_rows c =
    booked-rows c.args.chronicle.nations.now c.args.chronicle.entries.now c.requires.shaped (ltb-true _ _ (sym c.fit_in_rows.ensures ∙ c.if-fit_in_rows.true))
    (joinings_left c.args.counted.joinings) c.args.counted.n c.args.out.now _ _ _ c.args.counted.counted c.requires.good (omega (arith, c.args.counted.counted, c.requires.room)) (c.fill.ensures.after (λ y e. e)) c.hold_blocks.ensures c.hold_blocks.auto.out c.remake_rows.ensures
