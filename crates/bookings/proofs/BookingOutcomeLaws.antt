-- The outcomes of `war_participants`, by case: the record's number, 11, 10, or the rows.
use mathlib.Core.Path.{◌≡◌, refl, sym, ap, ap₂, ◌∙◌}
use mathlib.Core.Bool.{Bool, true, false, cond}
use mathlib.Core.List.{List, [], ◌∷◌, ◌++◌, map}
use mathlib.Core.Option
use mathlib.Core.Option.{Option, none, some, get_or}
use Prim.Native.Nat.{ℕ, ◌*◌, ◌/◌, ◌≤◌, ◌<◌}
use native.Mathlib.Omega.{arith}
use borrow.Author.Tests.{le-leb, lt-leb}
use lib.ListN.{length, drop, length-map}
use Rattle.lists.specs.Lists.{join_of}
use Rattle.format.specs.declared.tag.CountryTag.{CountryTag}
use Rattle.format.specs.Campaign.{campaign_of}
use Rattle.format.specs.RecordNumber.{refusal, first_of}
use Rattle.format.proofs.FirstLaws.{first-stop, first-pass, first_one, first-zero}
use Rattle.rules.specs.Lent.{refused, gives, outcome_of, written, fits, room_number}
use Rattle.rules.specs.NationRows.{nations_in, well_shaped}
use Rattle.rules.specs.Resolver.{plain_data, resolve}
use Rattle.format.specs.declared.values.Joining.{Joining}
use Rattle.format.specs.declared.values.Booking.{Booking}
use Rattle.rules.specs.Bookings.{joinings_of, booking_of, bookings_of, booking_rows, booking_width}
use Rattle.rules.specs.CallNumbers.{chronicle_number}
use Rattle.rules.specs.Outcomes.{call_war_participants}
use Rattle.rules.proofs.LentLaws.{answered-given, outcome-refused, outcome-gives}
use Rattle.rules.proofs.RowLaws.{length-booking_rows}
use Rattle.resolver.specs.declared.claims.Claim.{Claim}
use Rattle.resolver.specs.Claims.{claims_in, best_of}
use Rattle.resolver.proofs.ResolvedLaws.{claim_nation, claim-resolved}
use Rattle.std.specs.Prelude.{Err}
use Rattle.format.specs.declared.refused.Refusal.{Refusal}
use Rattle.format.specs.RefusalNumber.{refusal_number}
use Rattle.record.proofs.ToldLaws.{refusal_above}
use Rattle.bookings.specs.Passes.{rows_by, stored_tag, claimed_row}
use Rattle.bookings.proofs.JoiningLaws.{few-joinings}
use Rattle.bookings.proofs.RowsByLaws.{rows_join}

-- ## The rows

-- The stored tag by the best claim is that of the rules.
claimed-stored : (ws es : List ℕ) → well_shaped ws es ≡ true → (j : Joining)
    → stored_tag ws j.tag (Option.map (λ c. c.nation) (best_of j.tag j.date (claims_in ws es))) ≡ get_or (Option.map (λ d. d.stored) (resolve (nations_in ws es) j.tag j.date)) j.tag
unfolding resolve
claimed-stored ws es shaped j =
    go (best_of j.tag j.date (claims_in ws es))
    ∙ ap (λ n. get_or (Option.map (λ d. d.stored) (Option.map plain_data n)) j.tag) (claim-resolved ws es j.tag j.date shaped)
  where
    go : (o : Option Claim) → stored_tag ws j.tag (Option.map (λ c. c.nation) o) ≡ get_or (Option.map (λ d. d.stored) (Option.map plain_data (Option.map (claim_nation ws es) o))) j.tag
    go none = refl
    go (some c) = refl

claimed-rows : (ws es : List ℕ) → well_shaped ws es ≡ true → (js : List Joining) → join_of (claimed_row ws es) js ≡ booking_rows (map (booking_of (nations_in ws es)) js)
unfolding booking_rows booking_of
claimed-rows ws es shaped [] = refl
claimed-rows ws es shaped (j ∷ js) =
    ap₂ (λ (t : CountryTag) (l : List ℕ). (j.war ∷ j.tag.0 ∷ t.0 ∷ []) ++ l) (claimed-stored ws es shaped j) (claimed-rows ws es shaped js)

-- ## The cases

module _ (xs ws es before : List ℕ) where
  bookings : List Booking
  bookings = bookings_of (campaign_of xs) (nations_in ws es)

  rows : List ℕ
  unfolding bookings
  rows = booking_rows bookings

  number : ℕ
  unfolding rows bookings
  number = first_of (refusal xs ∷ chronicle_number ws es ∷ room_number (fits rows before) ∷ [])

  joinings-counted : length bookings ≡ length (joinings_of (campaign_of xs))
  unfolding bookings bookings_of
  joinings-counted = length-map (joinings_of (campaign_of xs)) (booking_of (nations_in ws es))

  pub bookings-refused : (e : Refusal) → refusal_number e ≡ refusal xs → outcome_of {A = ℕ} (λ n. n) (Err e) before ≡ call_war_participants xs ws es before
  unfolding call_war_participants number rows bookings
  bookings-refused e t =
      let above = refusal_above e in
      let first : number ≡ refusal_number e = first-stop (refusal xs) _ (λ z. omega arith) ∙ sym t in
      sym (rw first (outcome-refused (refusal_number e) (length bookings) (written rows before) before above))

  -- The code has opened the record.
  module _ (z : refusal xs ≡ 0) where
    -- What `open` refused.
    pub bookings-torn : (k : ℕ) → 0 < k → k ≡ cond (well_shaped ws es) 0 11 → record { answer = refused k; memory = before } ≡ call_war_participants xs ws es before
    unfolding call_war_participants number rows bookings
    bookings-torn k more e =
        let first : number ≡ k =
        first-pass (refusal xs) _ z
        ∙ (ap (λ (n : ℕ). first_of (n ∷ room_number (fits rows before) ∷ [])) (sym e) ∙ first-stop k _ (λ q. omega arith)) in
        sym (rw first (outcome-refused k (length bookings) (written rows before) before more))

    -- The chronicle is well shaped, and the joinings are counted.
    module _ (bookings-shaped : well_shaped ws es ≡ true) (n : ℕ) (m : n ≡ length (joinings_of (campaign_of xs))) where
      last-number : number ≡ room_number (fits rows before)
      unfolding number rows bookings
      last-number =
          first-pass (refusal xs) _ z
          ∙ (first-pass (chronicle_number ws es) _ (ap (λ (b : Bool). cond b 0 11) bookings-shaped) ∙ first_one (room_number (fits rows before)))

      wide : length rows ≡ booking_width * n
      unfolding rows bookings
      wide = length-booking_rows bookings ∙ ap (λ (k : ℕ). booking_width * k) (joinings-counted ∙ sym m)

      pub bookings-short : length before / booking_width < n → record { answer = refused 10; memory = before } ≡ call_war_participants xs ws es before
      unfolding call_war_participants number rows bookings
      bookings-short h =
          let short : fits rows before ≡ false = lt-leb (length rows) (length before) (omega (arith, wide)) in
          let first : number ≡ 10 = last-number ∙ ap room_number short in
          sym (rw first (outcome-refused 10 (length bookings) (written rows before) before (omega arith)))

      pub bookings-rows : n ≤ length before / booking_width → (after : List ℕ) → after ≡ rows_by (λ j _. claimed_row ws es j) (joinings_of (campaign_of xs)) before
          → record { answer = gives n; memory = after } ≡ call_war_participants xs ws es before
      unfolding call_war_participants number rows bookings bookings_of
      bookings-rows h after w =
          let js : List Joining = joinings_of (campaign_of xs) in
          let room : fits rows before ≡ true = le-leb (length rows) (length before) (omega (arith, wide)) in
          let first : number ≡ 0 = last-number ∙ ap room_number room in
          let behind : booking_width * length js ≡ length rows = ap (λ (k : ℕ). booking_width * k) (sym m) ∙ sym wide in
          let all : after ≡ written rows before =
          w ∙ (rows_join (claimed_row ws es) js before ∙ ap₂ ◌++◌ (claimed-rows ws es bookings-shaped js) (ap (λ (k : ℕ). drop k before) behind)) in
          sym (rw (m ∙ sym joinings-counted, all) (outcome-gives number (length bookings) (written rows before) before first))

  -- The number of rows is small.
  pub bookings-few : (n : ℕ) → gives n ≡ (call_war_participants xs ws es before).answer → n ≤ 100000
  unfolding call_war_participants number rows bookings
  bookings-few n e =
      let g = answered-given number (length bookings) n e in
      omega (arith, g.1, joinings-counted, few-joinings xs (first-zero (refusal xs) _ g.0).0)
