-- An outcome as the host gets it: the signed number, and the words of counts in a lent slice.
use mathlib.Core.Path.{◌≡◌, refl, ap, subst, ◌∙◌}
use mathlib.Core.Bool.{Bool, true, false}
use mathlib.Core.List.{List, [], ◌∷◌}
use Prim.Native.Nat.{ℕ, zero, suc, ◌%◌, ◌≤◌, ◌<◌, min}
use native.Mathlib.Omega.{arith}
use borrow.Author.Tests.{le-leb, lt-leb}
use lib.IntN.{ℤ, pos}
use lib.Signed.{mag}
use lib.ListN.{length}
use mir.Syntax.{w64}
use mir.Val.{to_z, of_z}
use mir.Facts.{to_z-of_z}
use Rattle.std.specs.Prelude as code
use Rattle.std.specs.Prelude.{Ok, Err}
use Rattle.format.specs.declared.refused.Refusal.{Refusal}
use Rattle.format.specs.Campaign.{campaign_of}
use Rattle.format.specs.RecordNumber.{refusal, first_of}
use Rattle.format.specs.declared.values.NationCounts.{NationCounts}
use Rattle.rules.specs.Lent.{Answer, refused, gives, answer_of, written, fits, room_number, Outcome, outcome, outcome_of}
use Rattle.rules.specs.Outcomes.{answers_of, NationCells, cells_of, all_fit, all_written, counts_of, call_nation_events}
use Rattle.nations.proofs.answer.NationOutcomeLaws.{SmallCounts, nations-given}
use Rattle.page.specs.Host.{returned, most_returned, Returns, word_cells, count_words, NationSlices, nation_slices, with_counts, call_nation_events_cells, number_of_counts}
use Rattle.page.specs.Inner.{low_counts}

-- ## The number

pub returns_of : {M : Type 0} {o p : Outcome ℕ M} {r : ℤ} → p ≡ o → r ≡ returned p.answer → Returns o r p.memory
returns_of e q = record { answer = q ∙ ap (λ x. returned x.answer) e; cells = ap (λ x. x.memory) e }

-- A count is held at the largest number that can be told, which changes none that is not above it.
held : (r : code.Result ℕ Refusal) → ((n : ℕ) → gives n ≡ answer_of (λ k. k) r → n ≤ most_returned)
    → returned (answer_of (λ n. min n most_returned) r) ≡ returned (answer_of (λ n. n) r)
held (Ok n) few = ap pos (omega (arith, few n refl))
held (Err e) few = refl

-- What `returned` gives of a call's answer.
module _ (r : code.Result ℕ Refusal) (i : ℤ) (fits : mag i < 9223372036854775808) (e : i ≡ returned (answer_of (λ n. min n most_returned) r)) where
  pub number-returned : (a : Answer ℕ) → answer_of (λ n. n) r ≡ a → ((n : ℕ) → gives n ≡ a → n ≤ most_returned) → to_z w64 (of_z w64 i) ≡ returned a
  number-returned a told few = to_z-of_z {w = w64} (record { sfits = fits }) ∙ e ∙ held r (λ n g. few n (g ∙ told)) ∙ ap returned told

  pub outcome-returned : {M : Type 0} (after : M) (o : Outcome ℕ M) → outcome_of (λ n. n) r after ≡ o → ((n : ℕ) → gives n ≡ o.answer → n ≤ most_returned)
      → Returns o (to_z w64 (of_z w64 i)) after
  outcome-returned after o told few =
      record { answer = number-returned o.answer (ap (λ x. x.answer) told) few; cells = ap (λ x. x.memory) told }

-- A number is given only where the answer has room.
pub room-true : (b : Bool) → room_number b ≡ 0 → b ≡ true
room-true true h = refl
room-true false h = absurd (omega arith)

-- ## The counts of nations

module _ (values : NationCounts) (after : NationCells) (before : NationSlices) (room : fits (count_words values) before.counts ≡ false) where
  -- Without room for the counts the record's number refuses, else 10, whether the other slices have room or not.
  short-counts : (number : ℕ) (fit : Bool) → (n : ℕ) → n ≡ first_of (number ∷ 10 ∷ [])
      → let called = outcome (first_of (number ∷ room_number fit ∷ [])) values after before.cells in
      record { answer = refused n; memory = before } ≡ with_counts called.answer called.memory before
  unfolding first_of
  short-counts zero true n e = rw e (simp room)
  short-counts zero false n e = rw e
  short-counts (suc m) fit n e = rw e

-- Counts so small are told by their lowest 32 bits.
low-same : (r : NationCounts) → SmallCounts r → low_counts r ≡ count_words r
low-same r small =
    let a : r.nations % 4294967296 ≡ r.nations = omega (arith, small.nations) in
    let b : r.entries % 4294967296 ≡ r.entries = omega (arith, small.entries) in
    let c : r.slots % 4294967296 ≡ r.slots = omega (arith, small.slots) in
    let d : r.countries % 4294967296 ≡ r.countries = omega (arith, small.countries) in
    let f : r.changes % 4294967296 ≡ r.changes = omega (arith, small.changes) in
    rw (a, b, c, d, f)

module _ (xs : List ℕ) (before : NationSlices) where
  pub slices-short : (n : ℕ) → length before.counts < number_of_counts → n ≡ first_of (refusal xs ∷ 10 ∷ [])
      → record { answer = refused n; memory = before } ≡ call_nation_events_cells xs before
  unfolding call_nation_events_cells call_nation_events
  slices-short n h e =
      let answers = answers_of (campaign_of xs) in
      short-counts (counts_of answers) (all_written (cells_of answers) before.cells) before (lt-leb number_of_counts (length before.counts) h) (refusal xs)
      (all_fit (cells_of answers) before.cells) n e

  -- What it gives is written, where the counts have room.
  slices-given : number_of_counts ≤ length before.counts → (r : NationCounts) (after : NationCells)
      → record { answer = gives r; memory = after } ≡ call_nation_events xs before.cells
      → record { answer = gives number_of_counts; memory = nation_slices after (written (count_words r) before.counts) } ≡ call_nation_events_cells xs before
  unfolding call_nation_events_cells
  slices-given h r after e =
      let room : fits (count_words r) before.counts ≡ true = le-leb number_of_counts (length before.counts) h in
      (simp room) ∙ ap (λ (o : Outcome NationCounts NationCells). with_counts o.answer o.memory before) e

  -- So the counts that were put are the call's.
  pub slices-put : number_of_counts ≤ length before.counts → (r : NationCounts) (after : NationCells)
      → record { answer = gives r; memory = after } ≡ call_nation_events xs before.cells
      → (i : ℤ) (counts : List ℕ) → Returns (word_cells (low_counts r) before.counts) i counts → Returns (call_nation_events_cells xs before) i (nation_slices after counts)
  slices-put h r after e i counts put =
      let same = low-same r (nations-given xs before.cells r (ap (λ (o : Outcome NationCounts NationCells). o.answer) e)) in
      let room : fits (count_words r) before.counts ≡ true = le-leb number_of_counts (length before.counts) h in
      let told = rw room at (subst (λ (ws : List ℕ). Returns (word_cells ws before.counts) i counts) same put) in
      rw told.cells (returns_of (slices-given h r after e) told.answer)
