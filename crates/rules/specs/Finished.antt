-- Rules 12: the finished chronicle, made by one call on lent memory, and what is guaranteed of the cells that this call leaves.
use Rattle.std.specs.Prelude.{◌≡◌, Bool, true, ◌&&◌, List, [], ◌∷◌, ℕ, length}
use Rattle.std.proofs.Math.Option.{Option, some}
use Rattle.std.proofs.Math.ListN.{get_elem?}
use Rattle.lists.specs.Lists.{without}
use Rattle.format.specs.declared.tag.CountryTag.{CountryTag}
use Rattle.format.specs.declared.date.Eu4Date.{Eu4Date}
use Rattle.format.specs.Dates.{good_date, not_after}
use Rattle.format.specs.Campaign.{Campaign, campaign_of}
use Rattle.format.specs.RecordNumber.{refusal, first_of}
use Rattle.format.specs.declared.values.Booking.{Booking}
use Rattle.format.specs.declared.values.Joining.{Joining}
use Rattle.format.specs.declared.values.NationCounts.{NationCounts}
use Rattle.format.specs.declared.values.TagData.{TagData}
use Rattle.rules.specs.Chronicle.{Nation}
use Rattle.rules.specs.Lent.{gives, written, fits, room_number, Outcome, outcome}
use Rattle.rules.specs.Changes.{changes_of, change_rows}
use Rattle.rules.specs.Nations.{nations_of}
use Rattle.rules.specs.Holding.{wears}
use Rattle.rules.specs.NationRows.{nations_in}
use Rattle.rules.specs.Resolver.{resolve_on}
use Rattle.rules.specs.Bookings.{joinings_of, bookings_of, booking_rows}
use Rattle.rules.specs.CallNumbers.{asked_tag, asked_date, asked_tag_number, asked_date_number}
use Rattle.rules.specs.Outcomes.{answers_of, NationCells, cells_of, all_fit, all_written, counts_of}
use Rattle.rules.specs.Guarantee.{Living, WornAlone, nations_given, entries_given, changes_given, bookings_given}

-- ## The call

-- The slices lent: those of `nation_events`, and one for the bookings. (Rules 12.4)
pub record LentSlices : Type 0 where
  pub chronicle : NationCells
  pub bookings : List ℕ

-- The answer: how many rows `nation_events` wrote of each kind, whose the tag is that was asked for, and how many bookings there are. (Rules 12.4)
pub record FinishedAnswer : Type 0 where
  pub counts : NationCounts
  pub found : Option TagData
  pub bookings : ℕ

-- What a campaign's finished chronicle writes, before it is known where: the words of `nation_events`, and the bookings by the nations that these tell.
-- (Rules 12.4)
unfoldable pub finished_cells_of : Campaign → LentSlices
finished_cells_of c = record { chronicle = cells_of (answers_of c); bookings = booking_rows (bookings_of c (nations_of c)) }

-- Each lent slice has room for its part. (Rules 12.4)
abbrev pub slices_fit : LentSlices → LentSlices → Bool
slices_fit cells before = all_fit cells.chronicle before.chronicle && fits cells.bookings before.bookings

-- Each lent slice with its part in it. (Rules 12.4)
abbrev pub slices_written : LentSlices → LentSlices → LentSlices
slices_written cells before =
    record { chronicle = all_written cells.chronicle before.chronicle; bookings = written cells.bookings before.bookings }

-- A campaign's answer: its nations are those that the resolver, set to the day, is asked of for the tag on that day. (Rules 12.4)
unfoldable pub finished_answer_of : Campaign → CountryTag → Eu4Date → FinishedAnswer
finished_answer_of c tag day =
    record {
      counts = counts_of (answers_of c);
      found = resolve_on day (nations_of c) tag day;
      bookings = length (bookings_of c (nations_of c));
    }

-- Refused by the record's number, by 12 for a bad tag or a bad day, or by 10 where any slice is too short. (Rules 12.4)
unfoldable pub call_finish_chronicle : List ℕ → ℕ → ℕ → LentSlices → Outcome FinishedAnswer LentSlices
call_finish_chronicle xs tag day before =
    let c = campaign_of xs in
    let cells = finished_cells_of c in
    outcome
    (first_of (refusal xs ∷ asked_tag_number tag ∷ asked_date_number day ∷ room_number (slices_fit cells before) ∷ []))
    (finished_answer_of c (asked_tag tag) (asked_date day)) (slices_written cells before) before

-- ## What is guaranteed of the cells that it leaves

-- As `nation_events` left them: its counts, and its five slices. (Rules 12.4)
abbrev pub chronicle_left : FinishedAnswer → LentSlices → Outcome NationCounts NationCells
chronicle_left answer cells = record { answer = gives answer.counts; memory = cells.chronicle }

-- The nations that the rows at the front of the cells tell, and the bookings there. (Rules 12.8, 12.7)
abbrev pub nations_left : FinishedAnswer → LentSlices → List Nation
nations_left answer cells = nations_in (nations_given (chronicle_left answer cells)) (entries_given (chronicle_left answer cells))

abbrev pub bookings_left : FinishedAnswer → LentSlices → List Booking
bookings_left answer cells = bookings_given (record { answer = gives answer.bookings; memory = cells.bookings })

-- Of a record's bytes, the tag and the day that were asked for, the answer, and the cells that the call left. (Rules 12.4)
pub record FinishedCells (xs : List ℕ) (tag : CountryTag) (day : Eu4Date) (answer : FinishedAnswer) (cells : LentSlices) : Type 0 where
  -- The rows at the front, as many as the answer counts, are the record's changes, and its listed nations with all their entries. (Rules 12.8)
  pub changes : changes_given (chronicle_left answer cells) ≡ change_rows (changes_of (campaign_of xs))
  pub nations : nations_left answer cells ≡ nations_of (campaign_of xs)
  -- For each of these nations and each good day from the start on, its entries tell whether it holds. (Rules 12.5)
  pub living :
      (i : ℕ) (n : Nation) (d : Eu4Date)
      → get_elem? (nations_left answer cells) i ≡ some n
      → good_date d ≡ true
      → not_after (campaign_of xs).start d ≡ true
      → Living (campaign_of xs) n d
  -- If one of them wears the tag that was asked for on the day that was asked for, and wears it alone, then that tag is found, and its stored tag. The
  -- day is good, as a bad one is refused. (Rules 12.6)
  pub found :
      (i : ℕ) (n : Nation)
      → get_elem? (nations_left answer cells) i ≡ some n
      → not_after (campaign_of xs).start day ≡ true
      → wears n day ≡ tag
      → WornAlone n (without i (nations_left answer cells)) day
      → answer.found ≡ some (record { current = tag; stored = n.stored })
  -- Whoever joins a war on such a day, under the tag that one of them wears alone, is booked under its stored tag. Joining k has row k. (Rules 12.7)
  pub booked :
      (i : ℕ) (n : Nation) (d : Eu4Date)
      → get_elem? (nations_left answer cells) i ≡ some n
      → good_date d ≡ true
      → not_after (campaign_of xs).start d ≡ true
      → WornAlone n (without i (nations_left answer cells)) d
      → (k : ℕ) (j : Joining)
      → get_elem? (joinings_of (campaign_of xs)) k ≡ some j
      → j.date ≡ d
      → j.tag ≡ wears n d
      → get_elem? (bookings_left answer cells) k ≡ some (record { war = j.war; tag = wears n d; stored = n.stored })
