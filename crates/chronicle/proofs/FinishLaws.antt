-- The outcome of the one call by its case, as the code comes to it: what each of the calls that it makes tells of the others.
use mathlib.Core.Path.{◌≡◌, refl, sym, ap, ◌∙◌}
use mathlib.Core.Bool.{Bool, true, false, cond, ◌&&◌, true≢false}
use mathlib.Core.List.{List, [], ◌∷◌}
use mathlib.Core.Option.{Option}
use Prim.Native.Nat.{ℕ, ◌*◌, ◌/◌, ◌≤◌, ◌<◌}
use native.Mathlib.Omega.{arith}
use borrow.Author.Tests.{le-leb, lt-leb}
use lib.ListN.{length, take, drop, length-append, length-map}
use Rattle.lists.proofs.BoolLaws.{cases, and-false}
use Rattle.format.specs.declared.values.TagData.{TagData}
use Rattle.format.specs.declared.values.NationCounts.{NationCounts}
use Rattle.format.specs.declared.refused.Refusal.{Refusal}
use Rattle.format.specs.Tags.{is_tag}
use Rattle.format.specs.Dates.{good_date}
use Rattle.format.specs.Campaign.{Campaign, campaign_of}
use Rattle.format.specs.RecordNumber.{refusal, first_of}
use Rattle.format.specs.RefusalNumber.{refusal_number}
use Rattle.format.proofs.RefusalNumberLaws.{refuses, stop}
use Rattle.rules.specs.Chronicle.{Nation}
use Rattle.rules.specs.Lent.{Answer, refused, gives, written, fits, room_number, Outcome, outcome}
use Rattle.rules.specs.Nations.{nations_of}
use Rattle.rules.specs.NationRows.{nation_width, entry_width, nation_words, entry_words, nations_in, well_shaped}
use Rattle.rules.specs.Bookings.{joinings_of, booking_of, bookings_of, booking_rows, booking_width}
use Rattle.rules.specs.Resolver.{resolve_on}
use Rattle.rules.specs.CallNumbers.{asked_tag, asked_date, asked_tag_number, asked_date_number}
use Rattle.rules.specs.Outcomes.{answers_of, NationCells, cells_of, all_fit, all_written, counts_of, call_nation_events, call_resolve_on, call_war_participants}
use Rattle.rules.specs.Guarantee.{nations_given, entries_given}
use Rattle.rules.specs.Finished.{LentSlices, finished_cells_of, slices_fit, slices_written, finished_answer_of, call_finish_chronicle}
use Rattle.rules.proofs.LentLaws.{outcome-refused}
use Rattle.rules.proofs.RowLaws.{length-nation_words, length-entry_words, length-booking_rows, read-written}
use Rattle.rules.proofs.GuaranteeLaws.{nations-answer, nations-written, entries-written, written-shaped, bookings-answer}
use Rattle.rules.proofs.FinishedLaws.{Granted, finished-outcome}

-- An answer refuses or gives, not both.
never : {A : Type 0} {C : Type 0} (n : ℕ) (v : A) → refused n ≡ gives v → C
never {A} n v e = let z : ◌≡◌ {A = ℕ} 0 1 = ap side e in absurd (omega (arith, z))
  where
    side : Answer A → ℕ
    side (refused k) = 0
    side (gives v) = 1

same-given : {A : Type 0} (a b : A) → gives a ≡ gives b → a ≡ b
same-given a b e = cc

-- The number of a refusal.
abbrev refused_by : {A : Type 0} → Answer A → ℕ
refused_by (refused n) = n
refused_by (gives v) = 0

-- ## Room for the bookings, counted in joinings

module _ (c : Campaign) (out : List ℕ) (n : ℕ) (counted : n ≡ length (joinings_of c)) where
  rows-counted : length (booking_rows (bookings_of c (nations_of c))) ≡ booking_width * n
  unfolding bookings_of
  rows-counted = rw counted (length-booking_rows (bookings_of c (nations_of c)) ∙ ap (λ (k : ℕ). booking_width * k) (length-map (joinings_of c) (booking_of (nations_of c))))

  pub bookings-fit : n ≤ length out / booking_width → fits (booking_rows (bookings_of c (nations_of c))) out ≡ true
  bookings-fit h = le-leb _ _ (omega (arith, rows-counted, h))

  bookings-lack : length out / booking_width < n → fits (booking_rows (bookings_of c (nations_of c))) out ≡ false
  bookings-lack h = lt-leb _ _ (omega (arith, rows-counted, h))

-- ## Refused

module _ (xs : List ℕ) (tag day : ℕ) (before : LentSlices) where
  abbrev c : Campaign
  c = campaign_of xs

  abbrev number : ℕ
  number =
      first_of
      (refusal xs
      ∷ asked_tag_number tag
      ∷ asked_date_number day
      ∷ room_number (slices_fit (finished_cells_of c) before)
      ∷ [])

  stopped : (n : ℕ) → 0 < n → n ≡ number → record { answer = refused n; memory = before } ≡ call_finish_chronicle xs tag day before
  unfolding call_finish_chronicle
  stopped n above e =
      sym (ap (λ (k : ℕ). outcome k (finished_answer_of c (asked_tag tag) (asked_date day)) (slices_written (finished_cells_of c) before) before) (sym e)
      ∙ outcome-refused n (finished_answer_of c (asked_tag tag) (asked_date day)) (slices_written (finished_cells_of c) before) before above)

  pub stopped-record : (e : Refusal) → refusal_number e ≡ refusal xs → record { answer = refused (refusal_number e); memory = before } ≡ call_finish_chronicle xs tag day before
  stopped-record e t = stopped (refusal_number e) (refuses e) (stop _ e t)

  module _ (accepted : refusal xs ≡ 0) where
    pub stopped-question : is_tag (asked_tag tag) && good_date (asked_date day) ≡ false → record { answer = refused 12; memory = before } ≡ call_finish_chronicle xs tag day before
    unfolding first_of
    stopped-question h = stopped 12 (omega arith) (simp accepted (sym (go (is_tag (asked_tag tag)) (good_date (asked_date day)) _ h)))
      where
        go : (a b : Bool) (ns : List ℕ) → a && b ≡ false → first_of (cond a 0 12 ∷ cond b 0 12 ∷ ns) ≡ 12
        go true true ns h = absurd (true≢false h)
        go true false ns h = refl
        go false b ns h = refl

    module _ (tagged : is_tag (asked_tag tag) ≡ true) (dated : good_date (asked_date day) ≡ true) where
      pub stopped-short : slices_fit (finished_cells_of c) before ≡ false → record { answer = refused 10; memory = before } ≡ call_finish_chronicle xs tag day before
      unfolding first_of
      stopped-short h = stopped 10 (omega arith) (simp (accepted, tagged, dated, h))

      nations-short : all_fit (cells_of (answers_of c)) before.chronicle ≡ false
          → call_nation_events xs before.chronicle ≡ record { answer = refused 10; memory = before.chronicle }
      unfolding call_nation_events first_of
      nations-short h = simp (accepted, h)

      short-slices : all_fit (cells_of (answers_of c)) before.chronicle ≡ false → slices_fit (finished_cells_of c) before ≡ false
      unfolding finished_cells_of
      short-slices h = simp h

      pub stopped-nations : (n : ℕ) (after : NationCells) → record { answer = refused n; memory = after } ≡ call_nation_events xs before.chronicle
          → record { answer = refused n; memory = record { chronicle = after; bookings = before.bookings } } ≡ call_finish_chronicle xs tag day before
      stopped-nations n after e =
          cases (all_fit (cells_of (answers_of c)) before.chronicle)
          (λ fit. never n _ (ap (λ (o : Outcome NationCounts NationCells). o.answer) (e ∙ nations-answer xs accepted before.chronicle fit)))
          (λ lack.
          let told = e ∙ nations-short lack in
          let number : n ≡ 10 = ap (λ (o : Outcome NationCounts NationCells). refused_by o.answer) told in
          let kept : after ≡ before.chronicle = ap (λ (o : Outcome NationCounts NationCells). o.memory) told in
          rw (number, kept) (stopped-short (short-slices lack)))

      pub stopped-bookings : (n : ℕ) → n ≡ length (joinings_of c) → length before.bookings / booking_width < n → record { answer = refused 10; memory = before } ≡ call_finish_chronicle xs tag day before
      unfolding finished_cells_of
      stopped-bookings n e h =
          stopped-short (rw (bookings-lack c before.bookings n e h) (and-false (all_fit (cells_of (answers_of c)) before.chronicle)))

-- ## Answered

-- What is known once nations are written: of the record, the tag, the day and the lent slices, and of the counts and the cells behind that call.
pub record Wrote (xs : List ℕ) (tag day : ℕ) (before : LentSlices) (counts : NationCounts) (after : NationCells) : Type 0 where
  pub accepted : refusal xs ≡ 0
  pub tagged : is_tag (asked_tag tag) ≡ true
  pub dated : good_date (asked_date day) ≡ true
  pub called : ◌≡◌ {A = Outcome NationCounts NationCells} (record { answer = gives counts; memory = after }) (call_nation_events xs before.chronicle)
  pub fit : fits (booking_rows (bookings_of (campaign_of xs) (nations_of (campaign_of xs)))) before.bookings ≡ true

-- So many words stand in a slice that was written so.
words-inside : (n : ℕ) (words old slice : List ℕ) → n ≡ length words → slice ≡ written words old → n ≤ length slice
words-inside n words old slice e told = omega (arith, e, ap (λ (l : List ℕ). length l) told, length-append words (drop (length words) old))

module _ {xs : List ℕ} {tag day : ℕ} {before : LentSlices} {counts : NationCounts} {after : NationCells} (w : Wrote xs tag day before counts after) where
  abbrev campaign : Campaign
  campaign = campaign_of xs

  abbrev ns : List Nation
  ns = nations_of campaign

  nations-fit : all_fit (cells_of (answers_of campaign)) before.chronicle ≡ true
  nations-fit =
      cases (all_fit (cells_of (answers_of campaign)) before.chronicle) (λ h. h)
      (λ lack. never 10 counts (ap (λ (o : Outcome NationCounts NationCells). o.answer) (sym (w.called ∙ nations-short xs tag day before w.accepted w.tagged w.dated lack))))

  done : Granted xs tag day before
  done = record { accepted = w.accepted; tagged = w.tagged; dated = w.dated; room = nations-fit; bookings_room = w.fit }

  nations-told : ◌≡◌ {A = Outcome NationCounts NationCells} (record { answer = gives counts; memory = after }) (record { answer = gives (counts_of (answers_of campaign)); memory = all_written (cells_of (answers_of campaign)) before.chronicle })
  nations-told = w.called ∙ nations-answer xs w.accepted before.chronicle nations-fit

  counts-told : counts ≡ counts_of (answers_of campaign)
  counts-told = same-given counts (counts_of (answers_of campaign)) (ap (λ (o : Outcome NationCounts NationCells). o.answer) nations-told)

  after-told : after ≡ all_written (cells_of (answers_of campaign)) before.chronicle
  after-told = ap (λ (o : Outcome NationCounts NationCells). o.memory) nations-told

  -- So many rows stand in the slices.
  pub nations-inside : nation_width * counts.nations ≤ length after.nations
  unfolding counts_of cells_of answers_of
  nations-inside =
      words-inside (nation_width * counts.nations) (nation_words ns) before.chronicle.nations after.nations
      (omega (arith, ap (λ (n : NationCounts). n.nations) counts-told, length-nation_words ns))
      (ap (λ (m : NationCells). m.nations) after-told)

  pub entries-inside : entry_width * counts.entries ≤ length after.entries
  unfolding counts_of cells_of answers_of
  entries-inside =
      words-inside (entry_width * counts.entries) (entry_words ns) before.chronicle.entries after.entries
      (omega (arith, ap (λ (n : NationCounts). n.entries) counts-told, length-entry_words ns))
      (ap (λ (m : NationCells). m.entries) after-told)

  -- The front of what nations wrote is what the resolver and the bookings are lent.
  abbrev nation_front : List ℕ
  nation_front = take (nation_width * counts.nations) after.nations

  abbrev entry_front : List ℕ
  entry_front = take (entry_width * counts.entries) after.entries

  nation-front : nation_front ≡ nation_words ns
  nation-front = ap nations_given w.called ∙ nations-written xs w.accepted before.chronicle nations-fit

  entry-front : entry_front ≡ entry_words ns
  entry-front = ap entries_given w.called ∙ entries-written xs w.accepted before.chronicle nations-fit

  told : nations_in nation_front entry_front ≡ ns
  told = rw (nation-front, entry-front) (read-written ns)

  shaped : well_shaped nation_front entry_front ≡ true
  shaped = rw (nation-front, entry-front) (written-shaped xs w.accepted before.chronicle nations-fit)

  resolver-answers : call_resolve_on nation_front entry_front day tag day ≡ gives (resolve_on (asked_date day) ns (asked_tag tag) (asked_date day))
  unfolding call_resolve_on first_of
  resolver-answers = simp (shaped, w.tagged, w.dated, told)

  bookings-answers : call_war_participants xs nation_front entry_front before.bookings
      ≡ record { answer = gives (length (bookings_of campaign ns)); memory = written (booking_rows (bookings_of campaign ns)) before.bookings }
  unfolding bookings_of
  bookings-answers = rw length-map (bookings-answer xs w.accepted ns nation_front entry_front told shaped before.bookings (rw told w.fit))

  -- So neither of the two refuses.
  pub resolver-never : {C : Type 0} (n : ℕ) → refused n ≡ call_resolve_on nation_front entry_front day tag day → C
  resolver-never n e = never n _ (e ∙ resolver-answers)

  pub bookings-never : {C : Type 0} (n : ℕ) (out : List ℕ) → record { answer = refused n; memory = out } ≡ call_war_participants xs nation_front entry_front before.bookings → C
  bookings-never n out e = never n _ (ap (λ (o : Outcome ℕ (List ℕ)). o.answer) (e ∙ bookings-answers))

  pub finishes : (found : Option TagData) (n : ℕ) (out : List ℕ) → gives found ≡ call_resolve_on nation_front entry_front day tag day
      → record { answer = gives n; memory = out } ≡ call_war_participants xs nation_front entry_front before.bookings
      → record { answer = gives (record { counts = counts; found = found; bookings = n }); memory = record { chronicle = after; bookings = out } } ≡ call_finish_chronicle xs tag day before
  unfolding finished_answer_of finished_cells_of
  finishes found n out f b =
      let a = same-given found (resolve_on (asked_date day) ns (asked_tag tag) (asked_date day)) (f ∙ resolver-answers) in
      let booked = b ∙ bookings-answers in
      let many : n ≡ length (bookings_of campaign ns) = same-given n _ (ap (λ (o : Outcome ℕ (List ℕ)). o.answer) booked) in
      let rows : out ≡ written (booking_rows (bookings_of campaign ns)) before.bookings = ap (λ (o : Outcome ℕ (List ℕ)). o.memory) booked in
      rw (counts-told, after-told, a, many, rows) (sym (finished-outcome xs tag day before done))
