-- What replaying a stored list counts. A case is a number, and bytes behind it; what a case comes to, each program says of its own cases.
use Rattle.std.specs.Prelude.{◌≡◌, ℕ, ◌+◌, ◌-◌, ◌^◌, min, List, ◌++◌, ◌⊎◌, Option, IsFalse, true, false, length, flat_map, All, fold}
use Rattle.std.specs.Int.{to_le_bytes, w32}
use Rattle.std.specs.Io.KnownBytes.{Consumes, IsAtEnd}
use Rattle.stored_input.specs.declared.replay.Counts.{Counts}
use Rattle.stored_input.specs.declared.replay.Tally.{Tally}

-- a sum that stays at the top of 64 bits
abbrev pub sum_to_top : ℕ → ℕ → ℕ
sum_to_top a b = min (a + b) (2 ^ 64 - 1)

-- the counts of both
abbrev pub plus : Counts → Counts → Counts
plus a b = record { questions = sum_to_top a.questions b.questions; wrong = sum_to_top a.wrong b.wrong; noticed = sum_to_top a.noticed b.noticed }

-- nothing counted yet
abbrev pub no_counts : Counts
no_counts = record { questions = 0; wrong = 0; noticed = 0 }

-- what a list that breaks off comes to: one wrong answer
abbrev pub broken_off : Counts
broken_off = record { questions = 0; wrong = 1; noticed = 0 }

-- what is told of a list that breaks off behind some cases
abbrev pub told_broken : Tally → Tally
told_broken all = record { cases = all.cases; counts = plus all.counts broken_off; is_unread = false }

-- what is told of a list that cannot be read on behind some cases
abbrev pub told_unread : Tally → Tally
told_unread all = record { cases = all.cases; counts = all.counts; is_unread = true }

-- A list ends, with no more left than may be.
abbrev pub Ends : (List ℕ → Type 0) → Option (List ℕ) → Option (List ℕ) → Type 0
Ends Leaves old new = (rest : List ℕ) × Consumes old new rest × Leaves rest × IsAtEnd new

-- a case of a list: the number that it begins with, the bytes behind it, and what it came to
pub record ReplayedCase : Type 0 where
  pub first : ℕ
  pub bytes : List ℕ
  pub counts : Counts

-- the bytes of a case, with its number
abbrev pub case_bytes : ReplayedCase → List ℕ
case_bytes c = to_le_bytes w32 c.first ++ c.bytes

-- what cases come to together
abbrev pub sum_of_cases : List ReplayedCase → Counts
sum_of_cases cases = fold (λ so_far c. plus so_far c.counts) no_counts cases

-- The first cases of a list, one behind the other: each comes to what was counted of it, and so many they are, and come to so much together.
pub record Replayed (ComesTo : ℕ → List ℕ → Counts → Type 0) (old new : Option (List ℕ)) (cases : List ReplayedCase) (all : Tally) : Type 0 where
  pub each : All (λ c. ComesTo c.first c.bytes c.counts) cases
  pub read : Consumes old new (flat_map case_bytes cases)
  pub number : all.cases ≡ length cases
  pub counts : all.counts ≡ sum_of_cases cases
  pub readable : IsFalse all.is_unread

-- A list was replayed to its end, or up to the most cases; or to where it breaks off or cannot be read.
abbrev pub ListReplayed : (ℕ → List ℕ → Counts → Type 0) → ℕ → Option (List ℕ) → Option (List ℕ) → Tally → Type 0
ListReplayed ComesTo most old new all =
    (cases : List ReplayedCase) × (Replayed ComesTo old new cases all × (IsAtEnd new ⊎ (all.cases ≡ most))
    ⊎ ((left : Option (List ℕ)) × (before : Tally) × Replayed ComesTo old left cases before × (all ≡ told_broken before)))
