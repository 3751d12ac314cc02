-- Cases that begin with a number and are tallied by their bytes are replayed by their number and the bytes behind it.
use Rattle.std.proofs.Common.{◌≡◌, ℕ, ◌+◌, List, [], ◌∷◌, ◌++◌, arith, length, append-nil, append_assoc, refl, sym, ap, ◌∙◌, subst, inl, inr, None, Some}
use Rattle.std.specs.Prelude.{Option, ◌⊎◌, IsFalse, All, flat_map, fold}
use Rattle.std.proofs.lemmas.List.Elements.{All-nil, All-head, All-tail}
use Rattle.std.specs.Io.KnownBytes.{Consumes, IsAtEnd}
use Rattle.std.proofs.KnownBytes.{Consumes-nil, Consumes-trans}
use Rattle.stored_input.specs.declared.replay.Counts.{Counts}
use Rattle.stored_input.specs.declared.replay.Tally.{Tally}
use Rattle.stored_input.specs.Replaying.{plus, no_counts, told_broken, told_unread, Ends, ReplayedCase, Replayed, ListReplayed}
use Rattle.stored_input.specs.Tallying.{TalliedCase, tallied_bytes, sum_of_tallied, Tallied, ListTallied, NumberedCase, told_as_broken}
use Rattle.stored_input.proofs.ReplayLaws.{replayed_more}

-- What is read of some bytes and of others behind them is read of the first, and then of the others.
split-read : (old new : Option (List ℕ)) (bs cs : List ℕ) → Consumes old new (bs ++ cs) → (mid : Option (List ℕ)) × Consumes old mid bs × Consumes mid new cs
split-read None new bs cs p = (None, tt, tt)
split-read (Some xs) None bs cs p = absurd p
split-read (Some xs) (Some ys) bs cs p = (Some (cs ++ ys), p ∙ append_assoc bs cs ys, refl)

-- Where nothing is left at the end, all was read.
read-to-end : (old left new : Option (List ℕ)) (bs rest : List ℕ) → Consumes old left bs → Consumes left new rest → rest ≡ [] → Consumes old new bs
read-to-end old left new bs rest p q none =
    subst (Consumes old new) (ap (λ (l : List ℕ). bs ++ l) none ∙ append-nil bs) (Consumes-trans old left new bs rest p q)

-- A tally of a list that could be read is told as it is.
told-readable : (all : Tally) → IsFalse all.is_unread → told_as_broken all ≡ all
told-readable all h = rw h refl

module _ (ComesTo : ℕ → List ℕ → Counts → Type 0) (old : Option (List ℕ)) where
  -- Cases that follow replayed ones are replayed with them.
  replayed_behind : (cs : List TalliedCase) (mid new : Option (List ℕ)) (done : List ReplayedCase) (all : Tally) → Replayed ComesTo old mid done all
      → All (λ c. NumberedCase ComesTo c.bytes c.counts) cs → Consumes mid new (flat_map tallied_bytes cs)
      → (cases : List ReplayedCase) × Replayed ComesTo old new cases (record { cases = all.cases + length cs; counts = fold (λ so_far c. plus so_far c.counts) all.counts cs; is_unread = all.is_unread })
  replayed_behind [] mid new done all p each read =
      let many = p.number in
      (done, record { each = p.each; read = read-to-end old mid new _ [] p.read read refl; number = omega arith; counts = p.counts; readable = p.readable })
  replayed_behind (c ∷ cs) mid new done all p each read =
      let told = All-head (λ (c : TalliedCase). NumberedCase ComesTo c.bytes c.counts) c cs each in
      let others = All-tail (λ (c : TalliedCase). NumberedCase ComesTo c.bytes c.counts) c cs each in
      let parts = split-read mid new c.bytes (flat_map tallied_bytes cs) read in
      let bytes = subst (Consumes mid parts.0) told.2 parts.1 in
      let more = replayed_more ComesTo old mid parts.0 done all told.0 told.1 c.counts (plus all.counts c.counts) p bytes told.3 refl in
      let rest = replayed_behind cs parts.0 new more.0 (record { cases = all.cases + 1; counts = plus all.counts c.counts; is_unread = all.is_unread }) more.1 others parts.2 in
      let number : (all.cases + 1) + length cs ≡ all.cases + length (c ∷ cs) = omega arith in
      (rest.0, subst (λ (n : ℕ). Replayed ComesTo old new rest.0 (record { cases = n; counts = fold (λ so_far (c : TalliedCase). plus so_far c.counts) (plus all.counts c.counts) cs; is_unread = all.is_unread })) number rest.1)

  -- Tallied cases are replayed.
  replayed : (new : Option (List ℕ)) (cs : List TalliedCase) (all : Tally) → Tallied (NumberedCase ComesTo) old new cs all
      → (cases : List ReplayedCase) × Replayed ComesTo old new cases all
  replayed new cs all p =
      let none : Replayed ComesTo old old [] (record { cases = 0; counts = no_counts; is_unread = all.is_unread }) =
      record { each = All-nil (λ (c : ReplayedCase). ComesTo c.first c.bytes c.counts); read = Consumes-nil old; number = refl; counts = refl; readable = p.readable } in
      let some = replayed_behind cs old new [] _ none p.each p.read in
      let sum = sum_of_tallied cs in
      let many = p.number in
      let number : 0 + length cs ≡ all.cases = omega arith in
      let same : record { cases = 0 + length cs; counts = sum; is_unread = all.is_unread } ≡ all =
      ap (λ (n : ℕ). record { cases = n; counts = sum; is_unread = all.is_unread }) number
      ∙ ap (λ (s : Counts). record { cases = all.cases; counts = s; is_unread = all.is_unread }) (sym p.counts) in
      (some.0, subst (Replayed ComesTo old new some.0) same some.1)

  -- A list that is tallied is replayed, if one that cannot be read on is told as one that breaks off.
  pub list_replayed : (most : ℕ) (new : Option (List ℕ)) (all : Tally) → ListTallied (NumberedCase ComesTo) (λ rest. rest ≡ []) most old new all
      → ListReplayed ComesTo most old new (told_as_broken all)
  list_replayed most new all (cs, left, before, p, how) = let cases = replayed left cs before p in (cases.0, go cases.1 how)
    where
      told : all ≡ before → told_as_broken all ≡ all
      told same = told-readable all (ap (λ (t : Tally). t.is_unread) same ∙ p.readable)

      go : {cases : List ReplayedCase} → Replayed ComesTo old left cases before
          → (all ≡ before) × (Ends (λ rest. rest ≡ []) left new ⊎ ((new ≡ left) × (all.cases ≡ most))) ⊎ (all ≡ told_broken before) ⊎ (all ≡ told_unread before)
          → Replayed ComesTo old new cases (told_as_broken all) × (IsAtEnd new ⊎ ((told_as_broken all).cases ≡ most))
          ⊎ ((left : Option (List ℕ)) × (before : Tally) × Replayed ComesTo old left cases before × (told_as_broken all ≡ told_broken before))
      go q (inl (same, inl (rest, read, none, ended))) =
          inl (rw (told same, same) (record { each = q.each; read = read-to-end old left new _ rest q.read read none; number = q.number; counts = q.counts; readable = q.readable }), inl ended)
      go q (inl (same, inr (end, most))) = inl (rw (told same, same, end) q, inr (rw (told same) most))
      go q (inr (inl broken)) = inr (left, before, q, rw broken refl)
      go q (inr (inr unread)) = inr (left, before, q, rw unread refl)
