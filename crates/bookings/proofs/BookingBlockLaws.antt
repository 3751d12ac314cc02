-- Bookings held against the blocks of claims, and in the end.
use mathlib.Core.Path.{◌≡◌, refl, sym, ap, ap₂, ◌∙◌}
use mathlib.Core.Bool.{true}
use mathlib.Core.List.{List, [], ◌∷◌, ◌++◌, map}
use mathlib.Core.Option
use mathlib.Core.Option.{Option, none, some}
use Prim.Native.Nat.{ℕ, ◌+◌, ◌*◌, ◌/◌, ◌<◌, ◌≤◌}
use native.Mathlib.Nat.{mod-eq_of_lt}
use native.Mathlib.Numerals.{add-one}
use native.Mathlib.Omega.{arith}
use lib.Dec.{leb}
use lib.ListN.{length, take, drop, get_or, replicate, length-append, length-drop, length-replicate}
use lib.Seq.{length-take-le, take_all}
use Rattle.sorting.specs.Sort.{sort_by}
use Rattle.lists.specs.Lists.{All, keep, join_of}
use Rattle.lists.proofs.ListLaws.{all_map, all_keep, length-join}
use Rattle.lists.proofs.EachLaws.{all-each}
use Rattle.rules.specs.NationRows.{nation_rows_in, well_shaped}
use Rattle.format.specs.declared.values.Joining.{Joining}
use Rattle.rules.specs.Bookings.{booking_width}
use Rattle.resolver.specs.declared.claims.Claim.{Claim}
use Rattle.resolver.specs.Claims.{claims_in, best_of, is_asked, claim_day}
use Rattle.resolver.specs.Layout.{row_owners}
use Rattle.resolver.specs.Keys.{keys_from}
use Rattle.resolver.specs.Holding.{blocks_of, held_through}
use Rattle.resolver.specs.Passes.{claim_words, row_owner}
use Rattle.resolver.proofs.AnsweredLaws.{Has, greatest-has}
use Rattle.resolver.proofs.GoodLaws.{SoundClaim, claims-sound}
use Rattle.resolver.proofs.HoldingLaws.{block-good, MovedOn, moved-all}
use Rattle.resolver.proofs.RowsLaws.{block-updated}
use Rattle.bookings.specs.Passes.{rows_by, best_booking_row, held_row, stored_tag, final_row, claimed_row, GoodJoining}
use Rattle.bookings.proofs.RowsByLaws.{rows-twice, rows_same, rows_join, rows-blank, best-wide}

-- Each row has the best of the claims passed.
abbrev pub best_bookings : List Joining → List ℕ → List Claim → List ℕ
best_bookings js before cs = rows_by (λ j _. best_booking_row cs j) js before

-- Words that are all 0 are rows without a claim.
cleared-rows : (js : List Joining) (n : ℕ) (before out : List ℕ) → n ≡ length js → out ≡ replicate (booking_width * n) 0 ++ drop (booking_width * n) before → out ≡ best_bookings js before []
cleared-rows js n before out m e =
    sym (rows_join (best_booking_row []) js before
    ∙ (ap (λ (l : List ℕ). l ++ drop (booking_width * length js) before) (rows-blank js)
    ∙ (ap (λ (k : ℕ). replicate (booking_width * k) 0 ++ drop (booking_width * k) before) (sym m) ∙ sym e)))

-- They stay as many words.
best-long : (js : List Joining) (before : List ℕ) (cs : List Claim) → booking_width * length js ≤ length before → length (best_bookings js before cs) ≡ length before
best-long js before cs room =
    ap length (rows_join (best_booking_row cs) js before)
    ∙ (length-append (join_of (best_booking_row cs) js) (drop (booking_width * length js) before)
    ∙ omega (arith, length-join booking_width (best_booking_row cs) (best-wide cs) js, length-drop (booking_width * length js) before))

-- A block behind the claims passed moves every row on.
joinings-hold : (ws es : List ℕ) (js : List Joining) (before : List ℕ) → well_shaped ws es ≡ true → All GoodJoining js → booking_width * length js ≤ length before
    → MovedOn (λ keys owners out. rows_by (held_row keys owners) (take (length out / booking_width) js) out) (claims_in ws es) (best_bookings js before)
joinings-hold ws es js before shaped good room passed ys left e few =
    let held : Joining → List ℕ → List ℕ = held_row (sort_by leb (keys_from 0 ys)) (map (λ (c : Claim). c.nation) ys) in
    let out : List ℕ = best_bookings js before passed in
    let all : take (length out / booking_width) js ≡ js = take_all (length out / booking_width) js (omega (arith, best-long js before passed room)) in
    let step : All (λ j. (r : List ℕ) → held j (best_booking_row passed j) ≡ best_booking_row (passed ++ ys) j) js =
    all_map (λ j g r. ap (λ (l : List ℕ). 0 ∷ l) (block-updated j.tag j.date g.tag g.date passed ys (block-good ws es shaped passed ys left e) few)) js good in
    ap (λ (l : List Joining). rows_by held l out) all
    ∙ (rows-twice held (λ j _. best_booking_row passed j) (λ j r. best-wide passed j) js before
    ∙ rows_same (λ j _. held j (best_booking_row passed j)) (λ j _. best_booking_row (passed ++ ys) j) js before step)

-- ## In the end

module _ (ws es : List ℕ) (shaped : well_shaped ws es ≡ true) (few : length (nation_rows_in ws) < row_owners) where
  turn : (j : Joining) (o : Option Claim) → Has claim_day claim_day (SoundClaim (length (nation_rows_in ws))) o
      → stored_tag ws j.tag (row_owner (get_or (0 ∷ claim_words o) 2 0)) ≡ stored_tag ws j.tag (Option.map (λ c. c.nation) o)
  turn j none h = refl
  turn j (some c) h = let small : c.nation < row_owners = let t = h.there in omega arith in rw (mod-eq_of_lt small, add-one c.nation)

  pub final-rows : (js : List Joining) (before out new : List ℕ) → out ≡ rows_by (λ j _. best_booking_row (claims_in ws es) j) js before → new ≡ rows_by (final_row ws) js out
      → new ≡ rows_by (λ j _. claimed_row ws es j) js before
  final-rows js before out new e w =
      let all = claims_in ws es in
      w
      ∙ (ap (rows_by (final_row ws) js) e
      ∙ (rows-twice (final_row ws) (λ j _. best_booking_row all j) (λ j r. best-wide all j) js before
      ∙ rows_same (λ j _. final_row ws j (best_booking_row all j)) (λ j _. claimed_row ws es j) js before
      (all-each (λ j r. ap (λ (t : _). j.war ∷ j.tag.0 ∷ t.0 ∷ [])
      (turn j (best_of j.tag j.date all)
      (greatest-has claim_day claim_day (SoundClaim (length (nation_rows_in ws))) (keep (is_asked j.tag j.date) all)
      (all_keep (SoundClaim (length (nation_rows_in ws))) (is_asked j.tag j.date) all (claims-sound ws es shaped))))) js)))

  -- The words of all rows, cleared, held against the blocks and turned.
  pub booked-rows : (js : List Joining) (n : ℕ) (before first second third : List ℕ) → n ≡ length js → All GoodJoining js → booking_width * n ≤ length before → first ≡ replicate (length (take (booking_width * n) before)) 0
      → second ≡ held_through (λ keys owners out. rows_by (held_row keys owners) (take (length out / booking_width) js) out) (blocks_of (claims_in ws es)) (first ++ drop (booking_width * n) before)
      → length second ≡ length (first ++ drop (booking_width * n) before) → third ≡ rows_by (final_row ws) (take (length second / booking_width) js) second → third ≡ rows_by (λ j _. claimed_row ws es j) js before
  booked-rows js n before first second third e good room z h same f =
      let whole : List ℕ = first ++ drop (booking_width * n) before in
      let zeros : first ≡ replicate (booking_width * n) 0 = z ∙ ap (λ (m : ℕ). replicate m 0) (length-take-le (booking_width * n) before room) in
      let blank : whole ≡ best_bookings js before [] = cleared-rows js n before whole e (ap (λ (l : List ℕ). l ++ drop (booking_width * n) before) zeros) in
      let long : length whole ≡ length before =
      length-append first (drop (booking_width * n) before) ∙ (ap₂ ◌+◌ (ap length zeros ∙ length-replicate (booking_width * n) 0) (length-drop (booking_width * n) before) ∙ omega arith) in
      let held : second ≡ best_bookings js before (claims_in ws es) = h ∙ moved-all _ (claims_in ws es) (best_bookings js before) (joinings-hold ws es js before shaped good (omega arith)) whole blank in
      let all : take (length second / booking_width) js ≡ js = take_all (length second / booking_width) js (omega (arith, same, long)) in
      final-rows js before second third held (rw all at f)

-- Where each joining was booked by a pass over the chronicle.
pub booked-each : (ws es : List ℕ) (js : List Joining) (before after : List ℕ) → booking_width * length js ≤ length before → after ≡ rows_by (λ j _. claimed_row ws es j) (take (length before / booking_width) js) before
    → after ≡ rows_by (λ j _. claimed_row ws es j) js before
booked-each ws es js before after room w = let all : take (length before / booking_width) js ≡ js = take_all (length before / booking_width) js (omega arith) in rw all at w
