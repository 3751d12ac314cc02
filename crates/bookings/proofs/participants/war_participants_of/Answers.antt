-- The outcome by its case: a torn chronicle, too short a slice, or the rows of all joinings.
use mathlib.Core.Path.{◌≡◌, ap, ◌∙◌}
use mathlib.Core.Bool.{true}
use mathlib.Core.List.{List}
use Prim.Native.Nat.{ℕ}
use native.Mathlib.Omega.{arith}
use denote.Ref.{Bor}
use lib.ListN.{length}
use Rattle.std.proofs.lemmas.Result.{err_from_is_err_and}
use Rattle.format.specs.declared.values.Joining.{Joining}
use Rattle.format.proofs.RefusalNumberLaws.{refuses}
use Rattle.record.specs.Opened.{campaign_in}
use Rattle.rules.specs.Bookings.{joinings_of}
use Rattle.rules.specs.NationRows.{well_shaped}
use Rattle.rows.proofs.NumberedLaws.{opened_shaped}
use Rattle.bookings.specs.Passes.{rows_by, claimed_row}
use Rattle.bookings.proofs.JoiningLaws.{told-good}
use Rattle.bookings.proofs.BookingOutcomeLaws.{bookings-torn, bookings-short, bookings-rows}
use Rattle.bookings.proofs.participants.war_participants_of.Goals.{In_ok-chronicle, After-new-counted}
use Rattle.bookings.proofs.participants.war_participants_of.Goals as goal

-- The chronicle that was opened is well shaped, and is what was lent.
shaped : (c : In_ok-chronicle) → well_shaped c.args.nations.now c.args.entries.now ≡ true
shaped c = opened_shaped c.args.nations.now c.args.entries.now c.in_ok-chronicle.ensures.number

nations : (c : In_ok-chronicle) → c.in_ok-chronicle.chronicle.nations.now ≡ c.args.nations.now
nations c = ap (λ (b : Bor (List ℕ)). b.now) c.in_ok-chronicle.ensures.chronicle.0

entries : (c : In_ok-chronicle) → c.in_ok-chronicle.chronicle.entries.now ≡ c.args.entries.now
entries c = ap (λ (b : Bor (List ℕ)). b.now) c.in_ok-chronicle.ensures.chronicle.1

-- As many joinings as the record has.
counted : (c : After-new-counted) → c.new-counted.result.n ≡ length (joinings_of (campaign_in c.args.opened))
counted c = c.new-counted.result.counted ∙ ap length c.new-counted.ensures

pub returns-in_err-chronicle : goal.returns-in_err-chronicle
returns-in_err-chronicle c =
    let r = c.args.opened in
    let p = err_from_is_err_and c.from_residual.result c.from_residual.ensures.1 in
    rw (p.1, p.2) (bookings-torn r.bytes.now c.args.nations.now c.args.entries.now c.args.out.now r.accepted _ (refuses _) c.in_err-chronicle.ensures.number)

pub returns-then-out-counted : goal.returns-then-out-counted
returns-then-out-counted c =
    let at = goal.at.returns-then-out-counted c in
    let r = c.args.opened in
    bookings-short r.bytes.now c.args.nations.now c.args.entries.now c.args.out.now r.accepted (shaped at.In_ok-chronicle) _ (counted at.After-new-counted) c.if-out-counted.true

pub book_rows-requires : goal.book_rows-requires
book_rows-requires c =
    let at = goal.at.book_rows-requires c in
    rw (nations at.In_ok-chronicle, entries at.In_ok-chronicle)
    record {
      good = told-good c.args.opened _ c.new-counted.ensures;
      shaped = shaped at.In_ok-chronicle;
      room = omega (arith, c.if-out-counted.false, c.new-counted.result.counted);
    }

pub returns : goal.returns
returns c =
    let at = goal.at.returns c in
    let r = c.args.opened in
    bookings-rows r.bytes.now c.args.nations.now c.args.entries.now c.args.out.now r.accepted (shaped at.In_ok-chronicle) _ (counted at.After-new-counted) c.if-out-counted.false _
    ((rw (nations at.In_ok-chronicle, entries at.In_ok-chronicle) at c.book_rows.ensures) ∙ ap (λ (js : List Joining). rows_by (λ j _. claimed_row c.args.nations.now c.args.entries.now j) js c.args.out.now) c.new-counted.ensures)
