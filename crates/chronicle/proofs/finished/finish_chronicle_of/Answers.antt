-- Each call's answer tells what the next needs; none that is made behind the first write refuses.
use mathlib.Core.Path.{◌≡◌, sym, ap₂, ◌∙◌}
use mathlib.Core.Bool.{Bool, true, ◌&&◌}
use Prim.Native.Nat.{◌*◌}
use native.Mathlib.Omega.{arith}
use lib.ListN.{length-take}
use Rattle.std.proofs.lemmas.Result.{err_from_is_err_and}
use Rattle.lists.proofs.BoolLaws.{both}
use Rattle.format.specs.declared.tag.CountryTag.{CountryTag}
use Rattle.format.specs.declared.date.Eu4Date.{Eu4Date}
use Rattle.format.specs.Tags.{is_tag}
use Rattle.format.specs.Dates.{good_date}
use Rattle.record.specs.Opened.{campaign_in}
use Rattle.nations.specs.LentCells.{nation_cells}
use Rattle.chronicle.specs.Finishing.{lent_slices}
use Rattle.chronicle.proofs.FinishLaws.{Wrote, bookings-fit, stopped-question, stopped-bookings, stopped-nations, nations-inside, entries-inside, resolver-never, bookings-never, finishes}
use Rattle.chronicle.proofs.finished.finish_chronicle_of.Goals.{In_ok-counts}
use Rattle.chronicle.proofs.finished.finish_chronicle_of.Goals as goal

pub returns-then-not-is_valid : goal.returns-then-not-is_valid
returns-then-not-is_valid c =
    stopped-question c.args.opened.bytes.now c.args.tag.0 c.args.day.0 _ c.args.opened.accepted
    (ap₂ (λ (a b : Bool). a && b) (sym c.is_valid.ensures) (sym c.is_valid-2.ensures) ∙ c.if-not-is_valid.true)

-- The tag and the day are good.
asked : {a b : Bool} (t : CountryTag) (d : Eu4Date) → a ≡ is_tag t → b ≡ good_date d → a && b ≡ true → (is_tag t ≡ true) × (good_date d ≡ true)
asked {a} {b} t d e f h = let p = both a b h in (sym e ∙ p.0, sym f ∙ p.1)

pub returns-then-bookings-booking_count : goal.returns-then-bookings-booking_count
returns-then-bookings-booking_count c =
    let a = asked c.args.tag c.args.day c.is_valid.ensures c.is_valid-2.ensures c.if-not-is_valid.false in
    stopped-bookings c.args.opened.bytes.now c.args.tag.0 c.args.day.0 _ c.args.opened.accepted a.0 a.1 _ c.booking_count.ensures c.if-bookings-booking_count.true

pub returns-in_err-counts : goal.returns-in_err-counts
returns-in_err-counts c =
    let a = asked c.args.tag c.args.day c.is_valid.ensures c.is_valid-2.ensures c.if-not-is_valid.false in
    let p = err_from_is_err_and c.from_residual.result c.from_residual.ensures.1 in
    rw (p.1, p.2) (stopped-nations c.args.opened.bytes.now c.args.tag.0 c.args.day.0 (lent_slices c.args.nations.now c.args.entries.now c.args.holders.now c.args.held.now c.args.changes.now c.args.bookings.now) c.args.opened.accepted a.0 a.1 _ _ c.in_err-counts.ensures)

-- What nations wrote, and that there is room for the bookings.
wrote : (c : In_ok-counts)
    → Wrote c.args.opened.bytes.now c.args.tag.0 c.args.day.0 (lent_slices c.args.nations.now c.args.entries.now c.args.holders.now c.args.held.now c.args.changes.now c.args.bookings.now)
    c.in_ok-counts.counts
    (nation_cells c.nation_events_of.new.nations c.nation_events_of.new.entries c.nation_events_of.new.holders c.nation_events_of.new.held c.nation_events_of.new.changes)
wrote c =
    let a = asked c.args.tag c.args.day c.is_valid.ensures c.is_valid-2.ensures c.if-not-is_valid.false in
    record {
      accepted = c.args.opened.accepted;
      tagged = a.0;
      dated = a.1;
      called = c.in_ok-counts.ensures;
      fit = bookings-fit (campaign_in c.args.opened) c.args.bookings.now _ c.booking_count.ensures c.if-bookings-booking_count.false;
    }

pub overflow_mul-written : goal.overflow_mul-written
overflow_mul-written c = omega (arith, nations-inside (wrote (goal.at.overflow_mul-written c).In_ok-counts))

pub slice_bounds-written-end : goal.slice_bounds-written-end
slice_bounds-written-end c = nations-inside (wrote (goal.at.slice_bounds-written-end c).In_ok-counts)

pub slice_bounds-written-end-2 : goal.slice_bounds-written-end-2
slice_bounds-written-end-2 c = omega (arith, length-take (5 * c.in_ok-counts.counts.nations) c.nation_events_of.new.nations, nations-inside (wrote (goal.at.slice_bounds-written-end-2 c).In_ok-counts))

pub overflow_mul-listed : goal.overflow_mul-listed
overflow_mul-listed c = omega (arith, entries-inside (wrote (goal.at.overflow_mul-listed c).In_ok-counts))

pub slice_bounds-listed-end : goal.slice_bounds-listed-end
slice_bounds-listed-end c = entries-inside (wrote (goal.at.slice_bounds-listed-end c).In_ok-counts)

pub slice_bounds-listed-end-2 : goal.slice_bounds-listed-end-2
slice_bounds-listed-end-2 c = omega (arith, length-take (3 * c.in_ok-counts.counts.entries) c.nation_events_of.new.entries, entries-inside (wrote (goal.at.slice_bounds-listed-end-2 c).In_ok-counts))

pub returns-in_err-found : goal.returns-in_err-found
returns-in_err-found c = resolver-never (wrote (goal.at.returns-in_err-found c).In_ok-counts) _ (rw c.at.ensures at c.in_err-found.ensures)

pub returns-in_err-bookings : goal.returns-in_err-bookings
returns-in_err-bookings c = bookings-never (wrote (goal.at.returns-in_err-bookings c).In_ok-counts) _ _ c.in_err-bookings.ensures

pub returns : goal.returns
returns c = finishes (wrote (goal.at.returns c).In_ok-counts) _ _ _ (rw c.at.ensures at c.in_ok-found.ensures) c.in_ok-bookings.ensures
