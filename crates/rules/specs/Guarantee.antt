-- The guarantee of the finished chronicle: one claim for each accepted record. All calls are lent room enough, and what nations wrote goes to resolver and
-- bookings as it stands.
use Rattle.std.specs.Prelude.{◌≡◌, Bool, true, false, ◌&&◌, ◌||◌, List, [], ℕ, ◌+◌, ◌*◌, take}
use Rattle.std.proofs.Math.Option.{some}
use Rattle.std.proofs.Math.ListN.{get_elem?}
use Rattle.lists.specs.Lists.{one, any_of, count_of, without}
use Rattle.format.specs.declared.tag.CountryTag.{CountryTag}
use Rattle.format.specs.declared.date.Eu4Date.{Eu4Date}
use Rattle.format.specs.Tags.{same_tag}
use Rattle.format.specs.Dates.{good_date, earlier, not_after}
use Rattle.format.specs.Campaign.{Campaign, campaign_of}
use Rattle.format.specs.RecordNumber.{refusal}
use Rattle.format.specs.declared.values.EntryKind.{EntryKind}
use Rattle.format.specs.declared.values.Entry.{Entry}
use Rattle.format.specs.declared.values.Joining.{Joining}
use Rattle.format.specs.declared.values.Booking.{Booking}
use Rattle.format.specs.declared.values.NationCounts.{NationCounts}
use Rattle.rules.specs.Chronicle.{is_appeared, is_annexed, Nation}
use Rattle.rules.specs.Lent.{Answer, refused, gives, fits, Outcome}
use Rattle.rules.specs.Changes.{changes_of, change_rows, change_width}
use Rattle.rules.specs.Nations.{nations_of}
use Rattle.rules.specs.Holding.{holds_on, wears}
use Rattle.rules.specs.NationRows.{nation_width, entry_width, nations_in}
use Rattle.rules.specs.Resolver.{is_switch_to}
use Rattle.rules.specs.Bookings.{joinings_of, booking_width, bookings_of, booking_rows, bookings_in}
use Rattle.rules.specs.Outcomes.{answers_of, NationCells, cells_of, all_fit, counts_of, call_nation_events, call_resolve_on, call_war_participants}

-- ## What is counted, and whose tag it is

-- How many entries of a kind are dated after the start and up to D. (Rules 12.5)
abbrev pub counted : (EntryKind → Bool) → Eu4Date → Eu4Date → List Entry → ℕ
counted is start day es = count_of (λ e. is e.kind && (earlier start e.date && not_after e.date day)) es

-- The LIVING EQUATION of a nation and a day D: 1 for holding on the start day, or 0, and the Appeared counted up to D come to as much as
-- 1 for holding on D, or 0, and the Annexed. (Subtracted from the one side, the Annexed stand on the other: so no number lies below 0.) (Rules 12.5)
abbrev pub Living : Campaign → Nation → Eu4Date → Type 0
Living c n day =
    one (holds_on c c.start n.stored) + counted is_appeared c.start day n.entries
    ≡ one (holds_on c day n.stored) + counted is_annexed c.start day n.entries

-- The tag names a nation: as its initial, or as the target of any of its switches, on whatever day. (Rules 4.18)
abbrev pub is_named : CountryTag → Nation → Bool
is_named t n = same_tag n.initial t || any_of (λ e. is_switch_to t e.kind) n.entries

-- What the nation wears on D names none of the others. (Rules 12.6)
abbrev pub WornAlone : Nation → List Nation → Eu4Date → Type 0
WornAlone n others day = any_of (is_named (wears n day)) others ≡ false

-- ## The rows written

-- The words of the rows that a call counts in its answer, at the front of a lent slice. A refused call wrote none. (Rules 12.4)
abbrev pub rows_given : {A : Type 0} → ℕ → (A → ℕ) → Answer A → List ℕ → List ℕ
rows_given width count (refused number) cells = []
rows_given width count (gives values) cells = take (width * count values) cells

-- The nation words and the entry words that nations wrote: exactly these are lent to resolver and bookings. (Rules 12.4)
abbrev pub nations_given : Outcome NationCounts NationCells → List ℕ
nations_given o = rows_given nation_width (λ c. c.nations) o.answer o.memory.nations

abbrev pub entries_given : Outcome NationCounts NationCells → List ℕ
entries_given o = rows_given entry_width (λ c. c.entries) o.answer o.memory.entries

-- The change words that nations wrote. (Rules 12.8)
abbrev pub changes_given : Outcome NationCounts NationCells → List ℕ
changes_given o = rows_given change_width (λ c. c.changes) o.answer o.memory.changes

-- The bookings that bookings wrote. (Rules 12.7)
abbrev pub bookings_given : Outcome ℕ (List ℕ) → List Booking
bookings_given o = bookings_in (rows_given booking_width (λ n. n) o.answer o.memory)

-- ## The claim

-- A nation on a day D, with the other listed nations: of a record's bytes, and of the nation and entry words that are lent. (Rules 12.5)
pub record OnDay (xs ws es : List ℕ) (n : Nation) (others : List Nation) (day : Eu4Date) : Type 0 where
  pub living : Living (campaign_of xs) n day
  -- Set to D and asked on D for the tag that the nation wears, the resolver finds this very tag, and the nation's stored tag.
  pub resolver :
      WornAlone n others day
      → call_resolve_on ws es day.0 (wears n day).0 day.0
      ≡ gives (some (record { current = wears n day; stored = n.stored }))
  -- Whoever joins a war on D under that tag is booked under the nation's stored tag. Joining k has row k, which names its war and its tag.
  pub bookings :
      WornAlone n others day
      → (lent : List ℕ)
      → fits (booking_rows (bookings_of (campaign_of xs) (nations_in ws es))) lent ≡ true
      → (k : ℕ) (j : Joining)
      → get_elem? (joinings_of (campaign_of xs)) k ≡ some j
      → j.date ≡ day
      → j.tag ≡ wears n day
      → get_elem? (bookings_given (call_war_participants xs ws es lent)) k
      ≡ some (record { war = j.war; tag = wears n day; stored = n.stored })

-- A finished chronicle: what nations answered, and the memory that it left. (Rules 12.4)
pub record Chronicled (xs : List ℕ) (o : Outcome NationCounts NationCells) : Type 0 where
  pub answer : o.answer ≡ gives (counts_of (answers_of (campaign_of xs)))
  -- The rows written tell the record's changes and its nations with their entries, no more and no fewer.
  pub changes : changes_given o ≡ change_rows (changes_of (campaign_of xs))
  pub nations : nations_in (nations_given o) (entries_given o) ≡ nations_of (campaign_of xs)
  -- For each listed nation and each day from the start date on. A day is any good date.
  pub on_day :
      (i : ℕ) (n : Nation) (day : Eu4Date)
      → get_elem? (nations_in (nations_given o) (entries_given o)) i ≡ some n
      → good_date day ≡ true
      → not_after (campaign_of xs).start day ≡ true
      → OnDay xs (nations_given o) (entries_given o) n (without i (nations_in (nations_given o) (entries_given o))) day

-- THE GUARANTEE, of a record's bytes: if it is accepted, then whatever memory with room for the answer is lent to nations.
pub record FinishedChronicle (xs : List ℕ) : Type 0 where
  pub holds :
      refusal xs ≡ 0
      → (lent : NationCells)
      → all_fit (cells_of (answers_of (campaign_of xs))) lent ≡ true
      → Chronicled xs (call_nation_events xs lent)
