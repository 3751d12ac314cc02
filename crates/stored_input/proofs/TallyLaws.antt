-- One case more behind those that were tallied.
use Rattle.std.proofs.Common.{◌≡◌, ℕ, ◌+◌, List, [], ◌∷◌, ◌++◌, Option}
use Rattle.std.specs.Io.KnownBytes.{Consumes}
use Rattle.stored_input.specs.declared.replay.Counts.{Counts}
use Rattle.stored_input.specs.declared.replay.Tally.{Tally}
use Rattle.stored_input.specs.Replaying.{plus}
use Rattle.stored_input.specs.Tallying.{TalliedCase, tallied_bytes, Tallied}
use Rattle.stored_input.proofs.CaseLaws.{each-more, bytes-more, number-more, sum-more}

module _ (ComesTo : List ℕ → Counts → Type 0) (old mid new : Option (List ℕ)) (cases : List TalliedCase) (all : Tally) where
  -- a case that was read and counted
  pub tallied_more : (bytes : List ℕ) (counts sum : Counts) → Tallied ComesTo old mid cases all
      → Consumes mid new bytes → ComesTo bytes counts → sum ≡ plus all.counts counts
      → (more : List TalliedCase) × Tallied ComesTo old new more (record { cases = all.cases + 1; counts = sum; is_unread = all.is_unread })
  tallied_more bytes counts sum p q told e =
      let case : TalliedCase = record { bytes = bytes; counts = counts } in (
        cases ++ (case ∷ []),
        record {
          each = each-more cases case (λ (c : TalliedCase). ComesTo c.bytes c.counts) p.each told;
          read = bytes-more cases case tallied_bytes old mid new p.read q;
          number = number-more cases case all.cases p.number;
          counts = sum-more cases case (λ (c : TalliedCase). c.counts) all.counts sum p.counts e;
          readable = p.readable;
        },
      )
