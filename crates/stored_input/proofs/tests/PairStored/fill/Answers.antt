-- The buffer has one pair, of the two bytes that are read.
use Rattle.std.proofs.Common.{rules, arith, refl, ◌≡◌, ℕ, List, [], ◌∷◌, flat_map, length, slice_index_or, slice_set}
use Rattle.std.specs.Prelude.{Option}
use Rattle.std.specs.Io.KnownBytes.{Consumes}
use Rattle.stored_input.specs.declared.tests.Pair.{Pair}
use Rattle.stored_input.proofs.tests.PairStored.fill.Goals as goal

one : (old new : Option (List ℕ)) (buf : List Pair) (bytes : List ℕ) (pair : Pair) → length buf ≡ 1 → length bytes ≡ 2
    → pair ≡ record { first = slice_index_or bytes 1 0; second = slice_index_or bytes 0 0 } → Consumes old new bytes
    → Consumes old new (flat_map (λ (p : Pair). p.second ∷ p.first ∷ []) (slice_set buf 0 pair))
one old new (p ∷ []) (a ∷ b ∷ []) pair h k e read = rw e read
one old new (p ∷ []) [] pair h k e read = absurd (omega arith)
one old new (p ∷ []) (a ∷ []) pair h k e read = absurd (omega arith)
one old new (p ∷ []) (a ∷ b ∷ c ∷ bytes) pair h k e read = absurd (omega arith)
one old new (p ∷ q ∷ buf) bytes pair h k e read = absurd (omega arith)
one old new [] bytes pair h k e read = absurd (omega arith)

pub returns : goal.returns
returns g c = one _ _ _ c.fill.new.buf _ (search rules) (search rules) refl c.in_ok-fill.ensures
