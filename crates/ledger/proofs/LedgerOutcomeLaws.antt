-- The outcomes of the calls, by case: the record's number, 11, 13, 10, or the rows.
use mathlib.Core.Path.{◌≡◌, sym, ap, ◌∙◌}
use mathlib.Core.Bool.{Bool, true, false, ◌&&◌}
use mathlib.Core.List.{List, [], ◌∷◌}
use mathlib.Core.Option.{none}
use Prim.Native.Nat.{ℕ, ◌+◌, ◌*◌, ◌/◌, ◌≤◌, ◌<◌, min}
use native.Mathlib.Decide.{dec_le}
use native.Mathlib.Omega.{arith}
use borrow.Author.Tests.{le-leb, lt-leb}
use lib.ListN.{length, get_elem?, length-map}
use Rattle.std.specs.Prelude as code
use Rattle.std.specs.Prelude.{Ok, Err, IsErr, IsErrAnd}
use Rattle.lists.proofs.BoolLaws.{and-false}
use Rattle.lists.proofs.ElementLaws.{at-inside}
use Rattle.format.specs.declared.refused.Refusal.{Refusal}
use Rattle.format.specs.declared.refused.Refusal.TheVariants.{NoRoom}
use Rattle.format.specs.RefusalNumber.{refusal_number}
use Rattle.format.specs.Campaign.{campaign_of}
use Rattle.format.specs.RecordNumber.{refusal, first_of}
use Rattle.format.proofs.RefusalNumberLaws.{refuses, stop}
use Rattle.format.proofs.FirstLaws.{first-stop, first-pass, first-zero, first_one, first-append}
use Rattle.rules.specs.Lent.{answer_of, outcome_of, outcome, written, fits, room_number}
use Rattle.format.specs.declared.values.NationRow.{NationRow}
use Rattle.format.specs.declared.values.LedgerPoint.{LedgerPoint}
use Rattle.rules.specs.NationRows.{nation_rows_in, nations_in, well_shaped}
use Rattle.rules.specs.Ledger.{point_rows, ledger_width}
use Rattle.rules.specs.CallNumbers.{chronicle_number, asked_nation_number}
use Rattle.rules.specs.Outcomes.{LedgerCells, ledger_cells_of, asked_points, call_nation_ledger, call_nation_ledger_rows, call_nation_ledgers}
use Rattle.rules.proofs.LentLaws.{answered-refused, answered-gives, outcome-refused}
use Rattle.record.specs.declared.opened.Record.{Record}
use Rattle.rows.specs.RowAt.{nation_row_at}
use Rattle.rows.proofs.NumberedLaws.{opened_shaped}
use Rattle.ledger.proofs.FillsLaws.{rows-length}
use Rattle.ledger.specs.Asked.{asked_ledger_number}
use Rattle.ledger.specs.RowLedgers.{row_ledger, row_ledgers, row_counts, WritesLedgers}
use Rattle.ledger.specs.RowOutcomes.{points_outcome, all_outcome}
use Rattle.ledger.proofs.NationLaws.{nations-size, nation-listed, nation-unlisted, numbered-ledger, all-ledgers, all-counts}

-- What `?` returns.
pub refused-on : {A : Type 0} (r : code.Result A Refusal) (e : Refusal) → IsErr r × IsErrAnd r (λ x. x ≡ e) → r ≡ Err e
refused-on (Ok x) e h = absurd h.1
refused-on (Err x) e h = ap Err h.1

-- ## The room for points

-- Counted with one more than there is room for.
module _ (ps : List LedgerPoint) (before : List ℕ) (n : ℕ) (counted : n ≡ min (length ps) (length before / ledger_width + 1)) where
  pub room-few : n ≤ length before / ledger_width → (n ≡ length ps) × (ledger_width * length ps ≤ length before)
  room-few h = (omega (arith, counted), omega (arith, counted))

  no_room : length before / ledger_width < n → fits (point_rows ps) before ≡ false
  no_room h = lt-leb (length (point_rows ps)) (length before) (omega (arith, counted, rows-length ps))

  has_room : n ≤ length before / ledger_width → fits (point_rows ps) before ≡ true
  has_room h = le-leb (length (point_rows ps)) (length before) (omega (arith, (room-few h).1, rows-length ps))

  -- Too little room, or the points.
  pub points-short : length before / ledger_width < n → outcome_of (λ (m : ℕ). m) (Err NoRoom) before ≡ points_outcome ps before
  unfolding points_outcome
  points-short h = rw (no_room h)

  pub points-given : n ≤ length before / ledger_width → (after : List ℕ) → after ≡ written (point_rows ps) before
      → outcome_of (λ (m : ℕ). m) (Ok n) after ≡ points_outcome ps before
  unfolding points_outcome
  points-given h after w = rw (has_room h, (room-few h).0, w)

-- ## The numbers before that

module _ (ws es : List ℕ) (i : ℕ) where
  pub asked-refused : (e : Refusal) → refusal_number e ≡ chronicle_number ws es → refusal_number e ≡ asked_ledger_number ws es i
  unfolding asked_ledger_number
  asked-refused e h = stop _ e h

  -- The shape is good, and the nations are counted.
  module _ (shaped : 0 ≡ chronicle_number ws es) (count : ℕ) (m : count ≡ length (nation_rows_in ws)) where
    last-asked : asked_ledger_number ws es i ≡ asked_nation_number (get_elem? (nations_in ws es) i)
    unfolding asked_ledger_number
    last-asked = first-pass (chronicle_number ws es) _ (sym shaped) ∙ first_one _

    pub asked-unlisted : count ≤ i → 13 ≡ asked_ledger_number ws es i
    asked-unlisted h = sym (last-asked ∙ ap asked_nation_number (nation-unlisted ws es i (omega arith)))

    pub asked-listed : i < count → 0 ≡ asked_ledger_number ws es i
    asked-listed h =
        let there = at-inside (nations_in ws es) i (omega (arith, nations-size ws es)) in
        sym (last-asked ∙ ap asked_nation_number there.1)

-- Where nothing refuses them the chronicle is well shaped, and the number is a nation's.
module _ (ws es : List ℕ) (i : ℕ) (fine : asked_ledger_number ws es i ≡ 0) where
  asked-shaped : well_shaped ws es ≡ true
  unfolding asked_ledger_number
  asked-shaped = opened_shaped ws es (sym (first-zero (chronicle_number ws es) _ fine).0)

  asked-inside : i < length (nation_rows_in ws)
  unfolding asked_ledger_number
  asked-inside =
      elim (dec_le (length (nation_rows_in ws)) i) as (λ _. i < length (nation_rows_in ws)) [
        | yes h ↦ absurd (go (nation-unlisted ws es i h))
        | no h ↦ omega arith
      ]
    where
      go : get_elem? (nations_in ws es) i ≡ none → ⊥
      go h =
          let z : asked_nation_number (get_elem? (nations_in ws es) i) ≡ 0 = sym (first_one _) ∙ (first-zero (chronicle_number ws es) _ fine).1 in
          let t : asked_nation_number (get_elem? (nations_in ws es) i) ≡ 13 = ap asked_nation_number h in
          omega arith

-- The numbers of a call: the record's, these two, and the rest.
module _ (xs ws es : List ℕ) (i : ℕ) (rest : List ℕ) where
  abbrev number : ℕ
  number = first_of (refusal xs ∷ chronicle_number ws es ∷ asked_nation_number (get_elem? (nations_in ws es) i) ∷ rest)

  record-number : (e : Refusal) → refusal_number e ≡ refusal xs → number ≡ refusal_number e
  record-number e h = first-stop (refusal xs) _ (λ z. omega (arith, h, z, refuses e)) ∙ sym h

  both-numbers : refusal xs ≡ 0 → number ≡ first_of (asked_ledger_number ws es i ∷ rest)
  unfolding asked_ledger_number
  both-numbers z =
      first-pass (refusal xs) _ z ∙ first-append (chronicle_number ws es ∷ asked_nation_number (get_elem? (nations_in ws es) i) ∷ []) rest

  asked-first : refusal xs ≡ 0 → (e : Refusal) → refusal_number e ≡ asked_ledger_number ws es i → number ≡ refusal_number e
  asked-first z e h = both-numbers z ∙ (first-stop (asked_ledger_number ws es i) _ (λ q. omega (arith, h, q, refuses e)) ∙ sym h)

  room-last : refusal xs ≡ 0 → asked_ledger_number ws es i ≡ 0 → number ≡ first_of rest
  room-last z h = both-numbers z ∙ first-pass (asked_ledger_number ws es i) _ h

-- ## One nation

-- No refusal stands before the room: the row is the nation's, and its points are those that the code reads.
module _ (r : Record) (ws es : List ℕ) (i : ℕ) (fine : asked_ledger_number ws es i ≡ 0) (row : NationRow) (told : row ≡ nation_row_at ws i) where
  own-points : asked_points (campaign_of r.bytes.now) (get_elem? (nations_in ws es) i) ≡ row_ledger r es row
  own-points =
      ap (asked_points (campaign_of r.bytes.now)) (nation-listed ws es i (asked-shaped ws es i fine) (asked-inside ws es i fine))
      ∙ (sym (numbered-ledger r ws es i) ∙ sym (ap (row_ledger r es) told))

-- `nation_ledger`
module _ (xs ws es : List ℕ) (i : ℕ) (before : List ℕ) where
  abbrev points : List LedgerPoint
  points = asked_points (campaign_of xs) (get_elem? (nations_in ws es) i)

  abbrev room : List ℕ
  room = room_number (fits (point_rows points) before) ∷ []

  by_number : (e : Refusal) → number xs ws es i room ≡ refusal_number e → outcome_of (λ (m : ℕ). m) (Err e) before ≡ call_nation_ledger xs ws es i before
  unfolding call_nation_ledger
  by_number e p = sym (rw p (outcome-refused (refusal_number e) (length points) (written (point_rows points) before) before (refuses e)))

  pub ledger-refused : (e : Refusal) → refusal_number e ≡ refusal xs → outcome_of (λ (m : ℕ). m) (Err e) before ≡ call_nation_ledger xs ws es i before
  ledger-refused e h = by_number e (record-number xs ws es i room e h)

  pub ledger-unasked : refusal xs ≡ 0 → (e : Refusal) → refusal_number e ≡ asked_ledger_number ws es i
      → outcome_of (λ (m : ℕ). m) (Err e) before ≡ call_nation_ledger xs ws es i before
  ledger-unasked z e h = by_number e (asked-first xs ws es i room z e h)

-- What comes of the points of the nation's row is what comes of the call.
pub ledger-by-row : (r : Record) (ws es : List ℕ) (i : ℕ) (before : List ℕ) → asked_ledger_number ws es i ≡ 0 → (row : NationRow) → row ≡ nation_row_at ws i
    → points_outcome (row_ledger r es row) before ≡ call_nation_ledger r.bytes.now ws es i before
unfolding points_outcome call_nation_ledger
ledger-by-row r ws es i before fine row told =
    let ps : List LedgerPoint = points r.bytes.now ws es i before in
    let none : number r.bytes.now ws es i (room r.bytes.now ws es i before) ≡ room_number (fits (point_rows ps) before) =
    room-last r.bytes.now ws es i (room r.bytes.now ws es i before) r.accepted fine ∙ first_one _ in
    sym (ap (λ (k : ℕ). outcome k (length ps) (written (point_rows ps) before) before) none
    ∙ ap (λ (qs : List LedgerPoint). points_outcome qs before) (own-points r ws es i fine row told))

-- `nation_ledger_rows`
module _ (xs ws es : List ℕ) (i most : ℕ) where
  abbrev asked : List LedgerPoint
  asked = asked_points (campaign_of xs) (get_elem? (nations_in ws es) i)

  by_first : (e : Refusal) → number xs ws es i [] ≡ refusal_number e → answer_of (λ (m : ℕ). m) (Err e) ≡ call_nation_ledger_rows xs ws es i most
  unfolding call_nation_ledger_rows
  by_first e p = sym (rw p (answered-refused (refusal_number e) (min (length asked) most) (refuses e)))

  pub rows-refused : (e : Refusal) → refusal_number e ≡ refusal xs → answer_of (λ (m : ℕ). m) (Err e) ≡ call_nation_ledger_rows xs ws es i most
  rows-refused e h = by_first e (record-number xs ws es i [] e h)

  pub rows-unasked : refusal xs ≡ 0 → (e : Refusal) → refusal_number e ≡ asked_ledger_number ws es i
      → answer_of (λ (m : ℕ). m) (Err e) ≡ call_nation_ledger_rows xs ws es i most
  rows-unasked z e h = by_first e (asked-first xs ws es i [] z e h)

pub rows-by-row : (r : Record) (ws es : List ℕ) (i most : ℕ) → asked_ledger_number ws es i ≡ 0 → (row : NationRow) → row ≡ nation_row_at ws i
    → (n : ℕ) → n ≡ min (length (row_ledger r es row)) most → answer_of (λ (m : ℕ). m) (Ok n) ≡ call_nation_ledger_rows r.bytes.now ws es i most
unfolding call_nation_ledger_rows first_of
rows-by-row r ws es i most fine row told n counted =
    let none = room-last r.bytes.now ws es i [] r.accepted fine in
    sym (answered-gives (number r.bytes.now ws es i []) (min (length (asked r.bytes.now ws es i most)) most) none ∙ rw (counted, own-points r ws es i fine row told))

-- ## All nations: `nation_ledgers`

module _ (xs ws es : List ℕ) (lent : LedgerCells) where
  abbrev cells : LedgerCells
  cells = ledger_cells_of (campaign_of xs) (nations_in ws es)

  abbrev ledgers_fit : Bool
  ledgers_fit = fits cells.rows lent.rows && fits cells.counts lent.counts

  abbrev first : ℕ
  first = first_of (refusal xs ∷ chronicle_number ws es ∷ room_number ledgers_fit ∷ [])

  by_any : (e : Refusal) → first ≡ refusal_number e → outcome_of (λ (m : ℕ). m) (Err e) lent ≡ call_nation_ledgers xs ws es lent
  unfolding call_nation_ledgers
  by_any e p = sym (rw p (outcome-refused (refusal_number e) _ _ lent (refuses e)))

  pub ledgers-refused : (e : Refusal) → refusal_number e ≡ refusal xs → outcome_of (λ (m : ℕ). m) (Err e) lent ≡ call_nation_ledgers xs ws es lent
  ledgers-refused e h = by_any e (first-stop (refusal xs) _ (λ z. omega (arith, h, z, refuses e)) ∙ sym h)

  pub ledgers-torn : refusal xs ≡ 0 → (e : Refusal) → refusal_number e ≡ chronicle_number ws es → outcome_of (λ (m : ℕ). m) (Err e) lent ≡ call_nation_ledgers xs ws es lent
  ledgers-torn z e h = by_any e (first-pass (refusal xs) _ z ∙ sym (stop _ e h))

-- What comes of the points of all rows is what comes of the call, where the chronicle is well shaped.
pub ledgers-by-rows : (r : Record) (ws es : List ℕ) (lent : LedgerCells) → 0 ≡ chronicle_number ws es → all_outcome r ws es lent ≡ call_nation_ledgers r.bytes.now ws es lent
unfolding all_outcome call_nation_ledgers ledger_cells_of
ledgers-by-rows r ws es lent torn =
    let shaped = opened_shaped ws es torn in
    let none : first r.bytes.now ws es lent ≡ room_number (ledgers_fit r.bytes.now ws es lent) =
    first-pass (refusal r.bytes.now) _ r.accepted ∙ (first-pass (chronicle_number ws es) _ (sym torn) ∙ first_one _) in
    rw (none, ← all-ledgers r ws es shaped, ← all-counts r ws es shaped)

-- By what the code counts and writes.
module _ (r : Record) (ws es : List ℕ) (lent : LedgerCells) where
  size : length (row_counts r ws es) ≡ length (nation_rows_in ws)
  size = length-map (nation_rows_in ws) (λ n. length (row_ledger r es n))

  without : fits (point_rows (row_ledgers r ws es)) lent.rows && fits (row_counts r ws es) lent.counts ≡ false → outcome_of (λ (m : ℕ). m) (Err NoRoom) lent ≡ all_outcome r ws es lent
  unfolding all_outcome
  without e = rw e

  -- Too few cells for the counts.
  pub counts-short : length lent.counts < length (nation_rows_in ws) → outcome_of (λ (m : ℕ). m) (Err NoRoom) lent ≡ all_outcome r ws es lent
  counts-short h =
      without (ap (λ (b : Bool). fits (point_rows (row_ledgers r ws es)) lent.rows && b) (lt-leb (length (row_counts r ws es)) (length lent.counts) (omega (arith, size)))
      ∙ and-false (fits (point_rows (row_ledgers r ws es)) lent.rows))

  -- Counted with one more than there is room for.
  module _ (n : ℕ) (counted : n ≡ min (length (row_ledgers r ws es)) (length lent.rows / ledger_width + 1)) where
    pub rows_short : length lent.rows / ledger_width < n → outcome_of (λ (m : ℕ). m) (Err NoRoom) lent ≡ all_outcome r ws es lent
    rows_short h = without (ap (λ (b : Bool). b && fits (row_counts r ws es) lent.counts) (no_room (row_ledgers r ws es) lent.rows n counted h))

    pub ledgers-given : n ≤ length lent.rows / ledger_width → length (nation_rows_in ws) ≤ length lent.counts → (after counts_after : List ℕ)
        → WritesLedgers r ws es lent.rows lent.counts after counts_after → outcome_of (λ (m : ℕ). m) (Ok n) (record { rows = after; counts = counts_after }) ≡ all_outcome r ws es lent
    unfolding all_outcome
    ledgers-given h g after counts_after w =
        let few = room-few (row_ledgers r ws es) lent.rows n counted h in
        let a = has_room (row_ledgers r ws es) lent.rows n counted h in
        let b : fits (row_counts r ws es) lent.counts ≡ true = le-leb (length (row_counts r ws es)) (length lent.counts) (omega (arith, size)) in
        rw (a, b, few.0, w.cells, w.counted)
