-- One case more behind others, whatever a case is.
use Rattle.std.proofs.Common.{◌≡◌, ℕ, ◌+◌, List, [], ◌∷◌, ◌++◌, Option, length, length-append, ap, sym, ◌∙◌, subst, append-nil}
use Rattle.std.proofs.lemmas.Grind.{flat_map-append}
use Rattle.std.proofs.lemmas.List.Sums.{fold-append}
use Rattle.std.proofs.lemmas.List.Elements.{All-append, All-cons, All-nil}
use Rattle.std.specs.Prelude.{All, flat_map, fold}
use Rattle.std.specs.Io.KnownBytes.{Consumes}
use Rattle.std.proofs.KnownBytes.{Consumes-trans}
use Rattle.stored_input.specs.declared.replay.Counts.{Counts}
use Rattle.stored_input.specs.Replaying.{plus, no_counts}

module _ {Case : Type 0} (cases : List Case) (case : Case) where
  -- what holds of each
  pub each-more : (P : Case → Type 0) → All P cases → P case → All P (cases ++ (case ∷ []))
  each-more P all one = All-append P cases (case ∷ []) all (All-cons P case [] one (All-nil P))

  -- the bytes that are read of them
  pub bytes-more : (bytes_of : Case → List ℕ) (old mid new : Option (List ℕ)) → Consumes old mid (flat_map bytes_of cases) → Consumes mid new (bytes_of case)
      → Consumes old new (flat_map bytes_of (cases ++ (case ∷ [])))
  bytes-more bytes_of old mid new p q =
      subst (Consumes old new) (ap (λ l. flat_map bytes_of cases ++ l) (sym (append-nil (bytes_of case))) ∙ sym (flat_map-append bytes_of cases (case ∷ [])))
      (Consumes-trans old mid new (flat_map bytes_of cases) (bytes_of case) p q)

  -- how many they are
  pub number-more : (n : ℕ) → n ≡ length cases → n + 1 ≡ length (cases ++ (case ∷ []))
  number-more n e = ap (λ n. n + 1) e ∙ sym (length-append cases (case ∷ []))

  -- what they come to together
  pub sum-more : (counts_of : Case → Counts) (all sum : Counts) → all ≡ fold (λ so_far c. plus so_far (counts_of c)) no_counts cases
      → sum ≡ plus all (counts_of case) → sum ≡ fold (λ so_far c. plus so_far (counts_of c)) no_counts (cases ++ (case ∷ []))
  sum-more counts_of all sum p e =
      e ∙ ap (λ (c : Counts). plus c (counts_of case)) p ∙ sym (fold-append (λ so_far (c : Case). plus so_far (counts_of c)) no_counts cases (case ∷ []))
