-- What replaying a stored list counts, whatever its cases begin with. A case is some bytes; what a case comes to, each program says of its own cases.
use Rattle.std.specs.Prelude.{◌≡◌, ℕ, List, ◌++◌, ◌⊎◌, Option, IsFalse, length, flat_map, All, fold, if◌then◌else◌}
use Rattle.std.specs.Int.{to_le_bytes, w32}
use Rattle.std.specs.Io.KnownBytes.{Consumes}
use Rattle.stored_input.specs.declared.replay.Counts.{Counts}
use Rattle.stored_input.specs.declared.replay.Tally.{Tally}
use Rattle.stored_input.specs.Replaying.{plus, no_counts, told_broken, told_unread, Ends}

-- a case of a list: its bytes, and what it came to
pub record TalliedCase : Type 0 where
  pub bytes : List ℕ
  pub counts : Counts

-- the bytes of a case
abbrev pub tallied_bytes : TalliedCase → List ℕ
tallied_bytes c = c.bytes

-- what cases come to together
abbrev pub sum_of_tallied : List TalliedCase → Counts
sum_of_tallied cases = fold (λ so_far c. plus so_far c.counts) no_counts cases

-- The first cases of a list, one behind the other: each comes to what was counted of it, and so many they are, and come to so much together.
pub record Tallied (ComesTo : List ℕ → Counts → Type 0) (old new : Option (List ℕ)) (cases : List TalliedCase) (all : Tally) : Type 0 where
  pub each : All (λ c. ComesTo c.bytes c.counts) cases
  pub read : Consumes old new (flat_map tallied_bytes cases)
  pub number : all.cases ≡ length cases
  pub counts : all.counts ≡ sum_of_tallied cases
  pub readable : IsFalse all.is_unread

-- A list was replayed to its end, or up to the most cases; or to where it breaks off; or to where it cannot be read on in front of a case.
abbrev pub ListTallied : (List ℕ → Counts → Type 0) → (List ℕ → Type 0) → ℕ → Option (List ℕ) → Option (List ℕ) → Tally → Type 0
ListTallied ComesTo Leaves most old new all =
    (cases : List TalliedCase) × (left : Option (List ℕ)) × (before : Tally) × Tallied ComesTo old left cases before
    × ((all ≡ before) × (Ends Leaves left new ⊎ ((new ≡ left) × (all.cases ≡ most))) ⊎ (all ≡ told_broken before) ⊎ (all ≡ told_unread before))

-- A case that begins with a number comes to what the number and the bytes behind it do.
abbrev pub NumberedCase : (ℕ → List ℕ → Counts → Type 0) → List ℕ → Counts → Type 0
NumberedCase ComesTo bytes counts =
    (first : ℕ) × (behind : List ℕ) × (bytes ≡ to_le_bytes w32 first ++ behind) × ComesTo first behind counts

-- the tally of a list, where one that cannot be read on is told as one that breaks off
abbrev pub told_as_broken : Tally → Tally
told_as_broken all = if all.is_unread then told_broken all else all
