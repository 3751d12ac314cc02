-- The guarantee of the cells that the one call leaves: whatever it is lent and asked for, it holds where the call does not refuse.
use Rattle.std.specs.Prelude as code
use Rattle.std.specs.Prelude.{Ok, Err, IfOk}
use mathlib.Core.Path.{◌≡◌, refl, sym, ap, subst, ◌∙◌}
use mathlib.Core.Bool.{Bool, true, false, cond}
use mathlib.Core.List.{List, [], ◌∷◌}
use mathlib.Core.Option.{Option, some}
use Prim.Native.Nat.{ℕ, suc}
use native.Mathlib.Omega.{arith}
use lib.ListN.{length, get_elem?, length-map}
use Rattle.lists.proofs.BoolLaws.{and_left, and_right}
use Rattle.format.specs.declared.tag.CountryTag.{CountryTag}
use Rattle.format.specs.declared.values.TagData.{TagData}
use Rattle.format.specs.declared.values.NationCounts.{NationCounts}
use Rattle.format.specs.declared.refused.Refusal.{Refusal}
use Rattle.format.specs.Tags.{is_tag}
use Rattle.format.specs.Dates.{good_date}
use Rattle.format.specs.Campaign.{Campaign, campaign_of}
use Rattle.format.specs.RecordNumber.{refusal, first_of}
use Rattle.format.proofs.FirstLaws.{first-zero}
use Rattle.rules.specs.Chronicle.{Nation}
use Rattle.rules.specs.Lent.{gives, written, fits, room_number, Outcome, outcome_of}
use Rattle.rules.specs.Nations.{nations_of}
use Rattle.rules.specs.Bookings.{bookings_of, booking_rows}
use Rattle.rules.specs.Resolver.{resolve_on}
use Rattle.rules.specs.NationRows.{nations_in, nation_words, entry_words, well_shaped}
use Rattle.rules.specs.CallNumbers.{asked_tag, asked_date, asked_tag_number, asked_date_number}
use Rattle.rules.specs.Outcomes.{answers_of, NationCells, cells_of, all_fit, all_written, counts_of, call_nation_events, call_resolve_on, call_war_participants}
use Rattle.rules.specs.Guarantee.{nations_given, entries_given, bookings_given, Chronicled}
use Rattle.rules.specs.Finished.{LentSlices, FinishedAnswer, finished_cells_of, slices_fit, slices_written, finished_answer_of, call_finish_chronicle, FinishedCells}
use Rattle.rules.proofs.LentLaws.{answered-given}
use Rattle.rules.proofs.GuaranteeLaws.{nations-answer, nations-written, entries-written, written-shaped, bookings-answer, chronicled}

-- ## Nothing refuses

test-passed : (b : Bool) (n : ℕ) → cond b 0 (suc n) ≡ 0 → b ≡ true
test-passed true n h = refl
test-passed false n h = absurd (omega (arith, h))

-- What it takes: an accepted record, a tag, a good day, and room in each slice.
pub record Granted (xs : List ℕ) (tag day : ℕ) (before : LentSlices) : Type 0 where
  pub accepted : refusal xs ≡ 0
  pub tagged : is_tag (asked_tag tag) ≡ true
  pub dated : good_date (asked_date day) ≡ true
  pub room : all_fit (cells_of (answers_of (campaign_of xs))) before.chronicle ≡ true
  pub bookings_room : fits (booking_rows (bookings_of (campaign_of xs) (nations_of (campaign_of xs)))) before.bookings ≡ true

module _ (xs : List ℕ) (tag day : ℕ) (before : LentSlices) where
  abbrev number : ℕ
  number =
      first_of
      (refusal xs
      ∷ asked_tag_number tag
      ∷ asked_date_number day
      ∷ room_number (slices_fit (finished_cells_of (campaign_of xs)) before)
      ∷ [])

  granted-number : number ≡ 0 → Granted xs tag day before
  unfolding finished_cells_of
  granted-number h =
      let a = first-zero (refusal xs) _ h in
      let b = first-zero (asked_tag_number tag) _ a.1 in
      let c = first-zero (asked_date_number day) _ b.1 in
      let d = test-passed (slices_fit (finished_cells_of (campaign_of xs)) before) 9 (first-zero _ [] c.1).0 in
      record {
        accepted = a.0;
        tagged = test-passed (is_tag (asked_tag tag)) 11 b.0;
        dated = test-passed (good_date (asked_date day)) 11 c.0;
        room = and_left (all_fit (cells_of (answers_of (campaign_of xs))) before.chronicle) _ d;
        bookings_room = and_right (all_fit (cells_of (answers_of (campaign_of xs))) before.chronicle) _ d;
      }

  -- Then it answers, and writes.
  pub finished-outcome : Granted xs tag day before
      → call_finish_chronicle xs tag day before ≡ record {
        answer = gives (finished_answer_of (campaign_of xs) (asked_tag tag) (asked_date day));
        memory = slices_written (finished_cells_of (campaign_of xs)) before;
      }
  unfolding call_finish_chronicle first_of finished_cells_of
  finished-outcome g = simp (g.accepted, g.tagged, g.dated, g.room, g.bookings_room)

  -- And only then.
  pub granted : (f : FinishedAnswer) → (call_finish_chronicle xs tag day before).answer ≡ gives f
      → Granted xs tag day before × (f ≡ finished_answer_of (campaign_of xs) (asked_tag tag) (asked_date day))
  unfolding call_finish_chronicle
  granted f e =
      let a = answered-given number (finished_answer_of (campaign_of xs) (asked_tag tag) (asked_date day)) f (sym e) in
      (granted-number a.0, a.1)

-- ## What it leaves

module _ (xs : List ℕ) (tag day : ℕ) (before : LentSlices) (g : Granted xs tag day before) where
  abbrev c : Campaign
  c = campaign_of xs

  abbrev ns : List Nation
  ns = nations_of c

  abbrev called : Outcome NationCounts NationCells
  called = call_nation_events xs before.chronicle

  abbrev left : Outcome NationCounts NationCells
  left = record { answer = gives (counts_of (answers_of c)); memory = all_written (cells_of (answers_of c)) before.chronicle }

  chronicle : Chronicled xs left
  chronicle = subst (Chronicled xs) (nations-answer xs g.accepted before.chronicle g.room) (chronicled xs g.accepted before.chronicle g.room)

  nation-words : nations_given left ≡ nation_words ns
  nation-words = ap nations_given (sym (nations-answer xs g.accepted before.chronicle g.room)) ∙ nations-written xs g.accepted before.chronicle g.room

  entry-words : entries_given left ≡ entry_words ns
  entry-words = ap entries_given (sym (nations-answer xs g.accepted before.chronicle g.room)) ∙ entries-written xs g.accepted before.chronicle g.room

  shaped : well_shaped (nations_given left) (entries_given left) ≡ true
  shaped = rw (nation-words, entry-words) (written-shaped xs g.accepted before.chronicle g.room)

  -- What the resolver finds in the rows left is what the answer says.
  found : (d : Option TagData) → call_resolve_on (nations_given left) (entries_given left) day tag day ≡ gives d → resolve_on (asked_date day) ns (asked_tag tag) (asked_date day) ≡ d
  unfolding call_resolve_on
  found d e =
      let a = answered-given _ (resolve_on (asked_date day) (nations_in (nations_given left) (entries_given left)) (asked_tag tag) (asked_date day)) d (sym e) in
      ap (λ (l : List Nation). resolve_on (asked_date day) l (asked_tag tag) (asked_date day)) (sym chronicle.nations) ∙ sym a.1

  room : fits (booking_rows (bookings_of c (nations_in (nations_given left) (entries_given left)))) before.bookings ≡ true
  room = rw chronicle.nations g.bookings_room

  -- The bookings of the rows left are what is written.
  booked : call_war_participants xs (nations_given left) (entries_given left) before.bookings
      ≡ record { answer = gives (length (bookings_of c ns)); memory = written (booking_rows (bookings_of c ns)) before.bookings }
  unfolding bookings_of
  booked = rw length-map (bookings-answer xs g.accepted ns (nations_given left) (entries_given left) chronicle.nations shaped before.bookings room)

  pub finished-cells : FinishedCells xs (asked_tag tag) (asked_date day) (finished_answer_of c (asked_tag tag) (asked_date day)) (slices_written (finished_cells_of c) before)
  unfolding finished_answer_of finished_cells_of
  finished-cells =
      record {
        changes = chronicle.changes;
        nations = chronicle.nations;
        living = λ i n d at good after. (chronicle.on_day i n d at good after).living;
        found = λ i n at after w alone.
            found _ (subst (λ (t : CountryTag). call_resolve_on (nations_given left) (entries_given left) day t.0 day ≡ gives (some (record { current = t; stored = n.stored }))) w
            ((chronicle.on_day i n (asked_date day) at g.dated after).resolver alone));
        booked = λ i n d at good after alone k j e ed et.
            ap (λ (o : Outcome ℕ (List ℕ)). get_elem? (bookings_given o) k) (sym booked)
            ∙ (chronicle.on_day i n d at good after).bookings alone before.bookings room k j e ed et;
      }

-- ## The guarantee of the call

-- For any bytes, tag, day and lent memory: where the call answers, the four sentences hold of its answer and of the cells that it leaves.
pub finished : (xs : List ℕ) (tag day : ℕ) (before : LentSlices) (f : FinishedAnswer)
    → (call_finish_chronicle xs tag day before).answer ≡ gives f
    → FinishedCells xs (asked_tag tag) (asked_date day) f (call_finish_chronicle xs tag day before).memory
finished xs tag day before f e =
    let g = granted xs tag day before f e in
    rw (g.1, finished-outcome xs tag day before g.0) (finished-cells xs tag day before g.0)

-- So it does of what code answers and leaves, if that is the outcome of the call.
pub finished-code : {A : Type 0} (values : A → FinishedAnswer) (xs : List ℕ) (tag day : ℕ) (before after : LentSlices) (r : code.Result A Refusal)
    → outcome_of values r after ≡ call_finish_chronicle xs tag day before
    → IfOk r (λ x. FinishedCells xs (asked_tag tag) (asked_date day) (values x) after)
finished-code values xs tag day before after (Err e) h = tt
finished-code values xs tag day before after (Ok x) h =
    subst (FinishedCells xs (asked_tag tag) (asked_date day) (values x)) (ap (λ (o : Outcome FinishedAnswer LentSlices). o.memory) (sym h))
    (finished xs tag day before (values x) (ap (λ (o : Outcome FinishedAnswer LentSlices). o.answer) (sym h)))
