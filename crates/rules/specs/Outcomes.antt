-- Rules 2: the outcome of each call on owner changes, nations, resolver, war bookings and ledger.
-- Each takes what it is given as it is given: the record's bytes, lent words, a question's tag, date or nation number as words.
-- Numbers are listed in the order of the checks: the record's own, then 11, 12, 13, 10.
use Rattle.std.specs.Prelude.{Bool, ◌&&◌, List, [], ◌∷◌, map, ℕ, min, length}
use Rattle.std.proofs.Math.Option.{Option, none, some}
use Rattle.std.proofs.Math.ListN.{get_elem?}
use Rattle.lists.specs.Lists.{join_of}
use Rattle.format.specs.declared.tag.CountryTag.{CountryTag}
use Rattle.format.specs.Campaign.{Campaign, campaign_of}
use Rattle.format.specs.RecordNumber.{refusal, first_of}
use Rattle.format.specs.declared.values.OwnerChange.{OwnerChange}
use Rattle.format.specs.declared.values.DateRun.{DateRun}
use Rattle.format.specs.declared.values.TagData.{TagData}
use Rattle.format.specs.declared.values.LedgerPoint.{LedgerPoint}
use Rattle.format.specs.declared.values.NationCounts.{NationCounts}
use Rattle.rules.specs.Chronicle.{Nation}
use Rattle.rules.specs.Lent.{Answer, answered, written, fits, room_number, Outcome, outcome}
use Rattle.rules.specs.Changes.{changes_of, change_rows, events_on}
use Rattle.rules.specs.Nations.{nations_of, holders_of, held_of}
use Rattle.rules.specs.NationRows.{nation_words, entry_words, nations_in, holder_word}
use Rattle.rules.specs.Resolver.{resolve, initial, resolve_on, initial_on}
use Rattle.rules.specs.Bookings.{bookings_of, booking_rows}
use Rattle.rules.specs.Ledger.{nation_ledger, point_rows}
use Rattle.rules.specs.CallNumbers.{chronicle_number, asked_tag, asked_date, asked_tag_number, asked_date_number, asked_nation_number}

-- ## `province_owners`: the number of changes, and their rows

-- Refused by the record's number, or 10. It is given the record's bytes and the lent slice. (Rules 3.4)
unfoldable pub call_province_owners : List ℕ → List ℕ → Outcome ℕ (List ℕ)
call_province_owners xs before =
    let changes = changes_of (campaign_of xs) in
    let rows = change_rows changes in
    outcome (first_of (refusal xs ∷ room_number (fits rows before) ∷ [])) (length changes) (written rows before) before

-- ## `events_on`: asked of a record and a date

-- Refused by the record's number, or 12. It is lent nothing. (Rules 3.5)
unfoldable pub call_events_on : List ℕ → ℕ → Answer DateRun
call_events_on xs date =
    answered (first_of (refusal xs ∷ asked_date_number date ∷ [])) (events_on (changes_of (campaign_of xs)) (asked_date date))

-- ## `nation_events`

-- All that a campaign's changes and nations answer, as one value. (Rules 4.14)
pub record Answers : Type 0 where
  pub changes : List OwnerChange
  pub nations : List Nation
  pub holders : List (Option CountryTag)
  pub held : List ℕ

-- They are worked out from the campaign. (Rules 4.14)
unfoldable pub answers_of : Campaign → Answers
answers_of c = record { changes = changes_of c; nations = nations_of c; holders = holders_of c; held = held_of c }

-- The slices that are lent to it, or the words that it writes into each. (Rules 4.14)
pub record NationCells : Type 0 where
  pub nations : List ℕ
  pub entries : List ℕ
  pub holders : List ℕ
  pub held : List ℕ
  pub changes : List ℕ

-- The words of nations, of entries, of the holder in each slot, of how many slots each country row has, and of changes. (Rules 4.14)
unfoldable pub cells_of : Answers → NationCells
cells_of a =
    record {
      nations = nation_words a.nations;
      entries = entry_words a.nations;
      holders = map holder_word a.holders;
      held = a.held;
      changes = change_rows a.changes;
    }

-- Each lent slice has room for its part of the answer. (Rules 4.14)
abbrev pub all_fit : NationCells → NationCells → Bool
all_fit cells before =
    fits cells.nations before.nations
    && fits cells.entries before.entries
    && fits cells.holders before.holders
    && fits cells.held before.held
    && fits cells.changes before.changes

-- Each lent slice with its part of the answer in it. (Rules 4.14)
abbrev pub all_written : NationCells → NationCells → NationCells
all_written cells before =
    record {
      nations = written cells.nations before.nations;
      entries = written cells.entries before.entries;
      holders = written cells.holders before.holders;
      held = written cells.held before.held;
      changes = written cells.changes before.changes;
    }

-- They are the lengths of the lists. (Rules 4.14)
unfoldable pub counts_of : Answers → NationCounts
counts_of a =
    record {
      nations = length a.nations;
      entries = length (join_of (λ n. n.entries) a.nations);
      slots = length a.holders;
      countries = length a.held;
      changes = length a.changes;
    }

-- Refused by the record's number, or 10. (Rules 4.14)
unfoldable pub call_nation_events : List ℕ → NationCells → Outcome NationCounts NationCells
call_nation_events xs before =
    let answers = answers_of (campaign_of xs) in
    let cells = cells_of answers in
    outcome (first_of (refusal xs ∷ room_number (all_fit cells before) ∷ [])) (counts_of answers) (all_written cells before) before

-- ## Resolver: lent nation words and entry words, asked for a tag, a date, and set to a day

-- Plain resolve of (tag, date): 11, 12. (Rules 5.1)
unfoldable pub call_resolve : List ℕ → List ℕ → ℕ → ℕ → Answer (Option TagData)
call_resolve ws es tag date =
    answered (first_of (chronicle_number ws es ∷ asked_tag_number tag ∷ asked_date_number date ∷ []))
    (resolve (nations_in ws es) (asked_tag tag) (asked_date date))

-- Plain initial of a tag: 11, 12. (Rules 5.1)
unfoldable pub call_initial : List ℕ → List ℕ → ℕ → Answer (Option TagData)
call_initial ws es tag =
    answered (first_of (chronicle_number ws es ∷ asked_tag_number tag ∷ [])) (initial (nations_in ws es) (asked_tag tag))

-- Set to a day, resolve of (tag, date): 11, 12. (Rules 5.1)
unfoldable pub call_resolve_on : List ℕ → List ℕ → ℕ → ℕ → ℕ → Answer (Option TagData)
call_resolve_on ws es day tag date =
    answered (first_of (chronicle_number ws es ∷ asked_date_number day ∷ asked_tag_number tag ∷ asked_date_number date ∷ []))
    (resolve_on (asked_date day) (nations_in ws es) (asked_tag tag) (asked_date date))

-- Set to a day, initial of a tag: 11, 12. (Rules 5.1)
unfoldable pub call_initial_on : List ℕ → List ℕ → ℕ → ℕ → Answer (Option TagData)
call_initial_on ws es day tag =
    answered (first_of (chronicle_number ws es ∷ asked_date_number day ∷ asked_tag_number tag ∷ []))
    (initial_on (asked_date day) (nations_in ws es) (asked_tag tag))

-- ## `war_participants`: the number of bookings, and their rows

-- Refused by the record's number, 11, or 10. It is given the record, the nation and entry words, and the lent slice. (Rules 6.2)
unfoldable pub call_war_participants : List ℕ → List ℕ → List ℕ → List ℕ → Outcome ℕ (List ℕ)
call_war_participants xs ws es before =
    let bookings = bookings_of (campaign_of xs) (nations_in ws es) in
    let rows = booking_rows bookings in
    outcome (first_of (refusal xs ∷ chronicle_number ws es ∷ room_number (fits rows before) ∷ []))
    (length bookings) (written rows before) before

-- ## `nation_ledger`: the number of points, and their rows

-- The points of the nation that is asked for; no nation has none. (Rules 7.9)
abbrev pub asked_points : Campaign → Option Nation → List LedgerPoint
asked_points c none = []
asked_points c (some n) = nation_ledger c n

-- Refused by the record's number, 11, 13, or 10. It is given the record, the nation and entry words, a nation number and the lent slice. (Rules 7.9)
unfoldable pub call_nation_ledger : List ℕ → List ℕ → List ℕ → ℕ → List ℕ → Outcome ℕ (List ℕ)
call_nation_ledger xs ws es number before =
    let nation = get_elem? (nations_in ws es) number in
    let points = asked_points (campaign_of xs) nation in
    let rows = point_rows points in
    outcome (first_of (refusal xs ∷ chronicle_number ws es ∷ asked_nation_number nation ∷ room_number (fits rows before) ∷ []))
    (length points) (written rows before) before

-- ## `nation_ledger_rows`: how many points `nation_ledger` would give, asked before room is lent

-- No more than a given number is counted. Refused by the record's number, 11, or 13; it is lent nothing. (Rules 7.11)
unfoldable pub call_nation_ledger_rows : List ℕ → List ℕ → List ℕ → ℕ → ℕ → Answer ℕ
call_nation_ledger_rows xs ws es number most =
    let nation = get_elem? (nations_in ws es) number in
    answered (first_of (refusal xs ∷ chronicle_number ws es ∷ asked_nation_number nation ∷ []))
    (min (length (asked_points (campaign_of xs) nation)) most)

-- ## `nation_ledgers`: the points of every nation in turn, and how many each has

-- The slices that are lent to it, or the words that it writes into each. (Rules 7.12)
pub record LedgerCells : Type 0 where
  pub rows : List ℕ
  pub counts : List ℕ

-- The rows of the first nation, behind them those of the next, and so on; and for each nation the number of its points. (Rules 7.12)
unfoldable pub ledger_cells_of : Campaign → List Nation → LedgerCells
ledger_cells_of c ns =
    record { rows = point_rows (join_of (nation_ledger c) ns); counts = map (λ n. length (nation_ledger c n)) ns }

-- Refused by the record's number, 11, or 10 where either slice is too short. The answer is the number of all points. (Rules 7.12)
unfoldable pub call_nation_ledgers : List ℕ → List ℕ → List ℕ → LedgerCells → Outcome ℕ LedgerCells
call_nation_ledgers xs ws es before =
    let nations = nations_in ws es in
    let cells = ledger_cells_of (campaign_of xs) nations in
    outcome
    (first_of
    (refusal xs
    ∷ chronicle_number ws es
    ∷ room_number (fits cells.rows before.rows && fits cells.counts before.counts)
    ∷ []))
    (length (join_of (nation_ledger (campaign_of xs)) nations))
    (record { rows = written cells.rows before.rows; counts = written cells.counts before.counts })
    before
