-- How an outcome comes back from a C function: one signed number, and the lent slices (Rules 10.5 to 10.7). So it is for
-- every call that has an outcome. `check` has none: it is lent nothing to write, and returns the record's number as it stands.
use Rattle.std.specs.Prelude.{◌≡◌, List, [], ◌∷◌, ℕ, ℤ, pos, neg_ℤ, length}
use Rattle.std.proofs.Math.Option.{Option, none, some}
use Rattle.rules.specs.Lent.{Answer, refused, gives, written, fits, room_number, Outcome, outcome}
use Rattle.format.specs.declared.values.DateRun.{DateRun}
use Rattle.format.specs.declared.values.NationCounts.{NationCounts}
use Rattle.rules.specs.Outcomes.{call_events_on, NationCells, call_nation_events}

-- The number that is given, or minus the refusal number.
abbrev pub returned : Answer ℕ → ℤ
returned (gives n) = pos n
returned (refused n) = neg_ℤ (pos n)

-- The largest number that can be given.
abbrev pub most_returned : ℕ
most_returned = 9223372036854775807

-- What a call returns and leaves in the memory that it was lent.
pub record Returns {M : Type 0} (o : Outcome ℕ M) (r : ℤ) (after : M) : Type 0 where
  pub answer : r ≡ returned o.answer
  pub cells : after ≡ o.memory

-- ## Words in a lent slice

-- Their number, and the slice with them in it; without room for them it is refused by 10, and the slice stays as it was.
abbrev pub word_cells : List ℕ → List ℕ → Outcome ℕ (List ℕ)
word_cells words before = outcome (room_number (fits words before)) (length words) (written words before) before

-- ## An answer that may be none, with its words in a lent slice

-- Given how what is found is told in words. Refused as before; none writes nothing and asks for no room.
abbrev pub found_cells : {A : Type 0} → (A → List ℕ) → Answer (Option A) → List ℕ → Outcome ℕ (List ℕ)
found_cells words (refused n) before = record { answer = refused n; memory = before }
found_cells words (gives none) before = record { answer = gives 0; memory = before }
found_cells words (gives (some x)) before = word_cells (words x) before

-- ## `events_on`, with the run in a lent slice

-- Two words: where the run begins, and its length.
abbrev pub run_words : DateRun → List ℕ
run_words run = run.first ∷ run.count ∷ []

-- Refused as before, or by 10.
abbrev pub in_cells : Answer DateRun → List ℕ → Outcome ℕ (List ℕ)
in_cells (refused n) before = record { answer = refused n; memory = before }
in_cells (gives run) before = word_cells (run_words run) before

-- The C function `events_on`: the outcome of the call, with its two numbers in the lent slice.
unfoldable pub call_events_on_cells : List ℕ → ℕ → List ℕ → Outcome ℕ (List ℕ)
call_events_on_cells xs date before = in_cells (call_events_on xs date) before

-- ## `nation_events`, with the counts in a lent slice of their own

-- How many counts there are.
abbrev pub number_of_counts : ℕ
number_of_counts = 5

-- A word each: how many nations, entries, slots, countries and changes there are.
abbrev pub count_words : NationCounts → List ℕ
count_words r = r.nations ∷ r.entries ∷ r.slots ∷ r.countries ∷ r.changes ∷ []

-- What the C function is lent: the slices of the call, and one for the counts.
pub record NationSlices : Type 0 where
  pub cells : NationCells
  pub counts : List ℕ

abbrev pub nation_slices : NationCells → List ℕ → NationSlices
nation_slices cells counts = record { cells = cells; counts = counts }

-- The number of counts, and all slices with their words in them. Refused as before, or by 10 if the slice for the counts is too short:
-- then all slices are as they were lent.
abbrev pub with_counts : Answer NationCounts → NationCells → NationSlices → Outcome ℕ NationSlices
with_counts (refused n) after before = record { answer = refused n; memory = nation_slices after before.counts }
with_counts (gives r) after before =
    outcome (room_number (fits (count_words r) before.counts))
    (length (count_words r))
    (nation_slices after (written (count_words r) before.counts))
    before

-- The C function `nation_events`: the outcome of the call, with its counts in a slice of their own.
unfoldable pub call_nation_events_cells : List ℕ → NationSlices → Outcome ℕ NationSlices
call_nation_events_cells xs before =
    let called = call_nation_events xs before.cells in with_counts called.answer called.memory before
