-- The guarantee of the finished chronicle holds of every record's bytes.
use mathlib.Core.Path.{◌≡◌, ap, ◌∙◌}
use mathlib.Core.Bool.{true}
use mathlib.Core.List.{List, ◌++◌, map}
use mathlib.Core.Option.{some}
use Prim.Native.Nat.{ℕ, ◌*◌, ◌≤◌}
use native.Mathlib.Omega.{arith}
use borrow.Author.Tests.{leb-true, leb-false}
use lib.ListN.{length, take, drop, get_elem?, length-map}
use lib.Seq.{take_at}
use Rattle.lists.specs.Lists.{All, last_or, without}
use Rattle.lists.proofs.ListLaws.{all-images, all-at, map_at, InOrder}
use Rattle.sorting.proofs.SortLaws.{order-sort}
use Rattle.format.specs.declared.date.Eu4Date.{Eu4Date}
use Rattle.format.specs.Tags.{is_tag}
use Rattle.format.specs.Dates.{good_date, not_after}
use Rattle.format.specs.Campaign.{Campaign, Country, campaign_of}
use Rattle.format.specs.RecordNumber.{refusal, first_of}
use Rattle.format.specs.Sound.{Sound}
use Rattle.format.proofs.SoundLaws.{sound}
use Rattle.rules.specs.Chronicle.{Nation}
use Rattle.rules.specs.Lent.{gives, written, fits, Outcome}
use Rattle.rules.specs.Changes.{change_width, changes_of, change_rows}
use Rattle.rules.specs.Nations.{nation_of, switch_entries, lives_of, entries_of, listed_countries, nations_of}
use Rattle.rules.specs.Holding.{wears}
use Rattle.rules.specs.NationRows.{nation_width, entry_width, nation_words, entry_words, nations_in, well_shaped}
use Rattle.rules.specs.Resolver.{resolved_nation, resolve, walked, resolve_on}
use Rattle.format.specs.declared.values.Booking.{Booking}
use Rattle.format.specs.declared.values.NationCounts.{NationCounts}
use Rattle.rules.specs.Bookings.{joinings_of, booking_of, bookings_of, booking_rows, bookings_in, booking_width}
use Rattle.rules.specs.Outcomes.{answers_of, NationCells, cells_of, all_fit, all_written, counts_of, call_nation_events, call_resolve_on, call_war_participants}
use Rattle.rules.specs.CallNumbers.{asked_tag, asked_date}
use Rattle.rules.specs.Guarantee.{Living, nations_given, entries_given, changes_given, bookings_given, OnDay, Chronicled, FinishedChronicle}
use Rattle.rules.proofs.CampaignLaws.{living}
use Rattle.rules.proofs.ResolverLaws.{walked-worn, found_at}
use Rattle.rules.proofs.RowLaws.{all_entries, length-nation_words, length-entry_words, length-change_rows, length-booking_rows, bookings-in, read-written}
use Rattle.rules.proofs.ShapeLaws.{GoodNation, nations-good, well-shaped, wears-tag}

-- ## Each listed nation by itself

record Balanced (c : Campaign) (n : Nation) : Type 0 where
  order : InOrder (λ e. e.date.0) n.entries
  sums : (day : Eu4Date) → c.start.0 ≤ day.0 → Living c n day

entries-order : (c : Campaign) (k : Country) → InOrder (λ e. e.date.0) (entries_of c k)
unfolding entries_of
entries-order c k =
    order-sort (λ a b. not_after a.date b.date) (λ e. e.date.0) (λ a b. leb-true a.date.0 b.date.0)
    (λ a b h. omega (arith, leb-false a.date.0 b.date.0 h)) (switch_entries k ++ lives_of c k.tag)

balanced : (c : Campaign) → Sound c → All (Balanced c) (nations_of c)
unfolding nations_of
balanced c r =
    all-images (Balanced c) (nation_of c) (λ k. record { order = entries-order c k; sums = λ day h. living c k day r h }) (listed_countries c)

-- ## Rows written are rows read

front : (width count : ℕ) (cells before : List ℕ) → length cells ≡ width * count → take (width * count) (written cells before) ≡ cells
front width count cells before h = take_at cells (drop (length cells) before) (width * count) h

-- ## Over words that tell the nations

module _ (xs : List ℕ) (accepted : refusal xs ≡ 0) (ns : List Nation) (ws es : List ℕ) (told : nations_in ws es ≡ ns) (shaped : well_shaped ws es ≡ true) where
  -- Bookings has room, and answers.
  pub bookings-answer : (lent : List ℕ) → fits (booking_rows (bookings_of (campaign_of xs) (nations_in ws es))) lent ≡ true
      → call_war_participants xs ws es lent ≡ record {
        answer = gives (length (joinings_of (campaign_of xs)));
        memory = written (booking_rows (bookings_of (campaign_of xs) ns)) lent;
      }
  unfolding call_war_participants first_of bookings_of
  bookings-answer lent room = simp (accepted, shaped, simp told at room, told, length-map)

  bookings-read : (lent : List ℕ) → fits (booking_rows (bookings_of (campaign_of xs) (nations_in ws es))) lent ≡ true
      → bookings_given (call_war_participants xs ws es lent) ≡ map (booking_of ns) (joinings_of (campaign_of xs))
  unfolding bookings_of
  bookings-read lent room =
      let bs : List Booking = map (booking_of ns) (joinings_of (campaign_of xs)) in
      let len : length (booking_rows bs) ≡ booking_width * length (joinings_of (campaign_of xs)) = length-booking_rows bs ∙ simp length-map in
      simp (bookings-answer lent room)
      (ap bookings_in (front booking_width (length (joinings_of (campaign_of xs))) (booking_rows bs) lent len) ∙ bookings-in bs)

  module _ (balances : All (Balanced (campaign_of xs)) ns) (goods : All GoodNation ns) where
    on-day : (i : ℕ) (n : Nation) (day : Eu4Date) → get_elem? ns i ≡ some n → good_date day ≡ true → not_after (campaign_of xs).start day ≡ true
        → OnDay xs ws es n (without i ns) day
    unfolding call_resolve_on resolve_on resolve booking_of first_of
    on-day i n day at good after =
        let s : Balanced (campaign_of xs) n = all-at (Balanced (campaign_of xs)) ns i n at balances in
        let g : GoodNation n = all-at GoodNation ns i n at goods in
        let w : is_tag (asked_tag (wears n day).0) ≡ true = wears-tag n day g in
        let d : good_date (asked_date day.0) ≡ true = good in
        let walk : last_or n.initial (walked (asked_date day.0) n) ≡ wears n day = walked-worn n day s.order in
        record {
          living = s.sums day (leb-true (campaign_of xs).start.0 day.0 after);
          resolver = λ u.
              let found : resolved_nation ns (asked_tag (wears n day).0) (asked_date day.0) ≡ some n = found_at ns i n day at u in
              simp (shaped, d, w, told, found, walk);
          bookings = λ u lent room k j e ed et.
              ap (λ (bs : List Booking). get_elem? bs k) (bookings-read lent room)
              ∙ simp (map_at, e, ed, et, found_at ns i n day at u);
        }

-- ## The record

module _ (xs : List ℕ) (accepted : refusal xs ≡ 0) (lent : NationCells) (room : all_fit (cells_of (answers_of (campaign_of xs))) lent ≡ true) where
  -- Nations has room, and answers.
  pub nations-answer : call_nation_events xs lent ≡ record {
    answer = gives (counts_of (answers_of (campaign_of xs)));
    memory = all_written (cells_of (answers_of (campaign_of xs))) lent;
  }
  unfolding call_nation_events first_of
  nations-answer = simp (accepted, room)

  -- The words that it wrote are those of the record's nations.
  pub nations-written : nations_given (call_nation_events xs lent) ≡ nation_words (nations_of (campaign_of xs))
  unfolding cells_of counts_of answers_of
  nations-written =
      let ns : List Nation = nations_of (campaign_of xs) in
      simp nations-answer (front nation_width (length ns) (nation_words ns) lent.nations (length-nation_words ns))

  pub entries-written : entries_given (call_nation_events xs lent) ≡ entry_words (nations_of (campaign_of xs))
  unfolding cells_of counts_of answers_of
  entries-written =
      let ns : List Nation = nations_of (campaign_of xs) in
      simp nations-answer (front entry_width (length (all_entries ns)) (entry_words ns) lent.entries (length-entry_words ns))

  pub written-shaped : well_shaped (nation_words (nations_of (campaign_of xs))) (entry_words (nations_of (campaign_of xs))) ≡ true
  written-shaped = well-shaped (nations_of (campaign_of xs)) (nations-good (campaign_of xs) (sound xs accepted))

  pub chronicled : Chronicled xs (call_nation_events xs lent)
  unfolding cells_of counts_of answers_of
  chronicled =
      let c : Campaign = campaign_of xs in
      let ns : List Nation = nations_of c in
      let o : Outcome NationCounts NationCells = call_nation_events xs lent in
      let change-rows : changes_given o ≡ change_rows (changes_of c) =
      simp nations-answer (front change_width (length (changes_of c)) (change_rows (changes_of c)) lent.changes (length-change_rows (changes_of c))) in
      let s : Sound c = sound xs accepted in
      let told : nations_in (nation_words ns) (entry_words ns) ≡ ns = read-written ns in
      record {
        answer = ap (λ (x : Outcome NationCounts NationCells). x.answer) nations-answer;
        changes = change-rows;
        nations = rw (nations-written, entries-written) told;
        on_day =
            rw (nations-written, entries-written, told)
            (on-day xs accepted ns (nation_words ns) (entry_words ns) told written-shaped (balanced c s) (nations-good c s));
      }

pub finished_chronicle : (xs : List ℕ) → FinishedChronicle xs
finished_chronicle xs = record { holds = λ h lent room. chronicled xs h lent room }
