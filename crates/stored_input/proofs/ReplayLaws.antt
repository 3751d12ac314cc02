-- One case more behind those that were replayed.
use Rattle.std.proofs.Common.{◌≡◌, ℕ, ◌+◌, List, [], ◌∷◌, ◌++◌, Option}
use Rattle.std.specs.Int.{to_le_bytes, w32}
use Rattle.std.specs.Io.KnownBytes.{Consumes}
use Rattle.stored_input.specs.declared.replay.Counts.{Counts}
use Rattle.stored_input.specs.declared.replay.Tally.{Tally}
use Rattle.stored_input.specs.Replaying.{ReplayedCase, case_bytes, plus, Replayed}
use Rattle.stored_input.proofs.CaseLaws.{each-more, bytes-more, number-more, sum-more}

module _ (ComesTo : ℕ → List ℕ → Counts → Type 0) (old mid new : Option (List ℕ)) (cases : List ReplayedCase) (all : Tally) where
  -- a case that was read and counted
  pub replayed_more : (first : ℕ) (bytes : List ℕ) (counts sum : Counts) → Replayed ComesTo old mid cases all
      → Consumes mid new (to_le_bytes w32 first ++ bytes) → ComesTo first bytes counts → sum ≡ plus all.counts counts
      → (more : List ReplayedCase) × Replayed ComesTo old new more (record { cases = all.cases + 1; counts = sum; is_unread = all.is_unread })
  replayed_more first bytes counts sum p q told e =
      let case : ReplayedCase = record { first = first; bytes = bytes; counts = counts } in (
        cases ++ (case ∷ []),
        record {
          each = each-more cases case (λ (c : ReplayedCase). ComesTo c.first c.bytes c.counts) p.each told;
          read = bytes-more cases case case_bytes old mid new p.read q;
          number = number-more cases case all.cases p.number;
          counts = sum-more cases case (λ (c : ReplayedCase). c.counts) all.counts sum p.counts e;
          readable = p.readable;
        },
      )
