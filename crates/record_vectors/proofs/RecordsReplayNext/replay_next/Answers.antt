-- A head is read, and the record behind it: whole, or as far as the list goes.
use Rattle.std.proofs.Common.{rules, ap, ◌∙◌, get_or, inl, inr, ◌≡◌, ℕ, ◌<◌, List, [], ◌∷◌, ◌++◌, Bool, true, false, not, eqb, length, length-append, take, arith, refl, subst, length-take-le}
use Rattle.std.proofs.Math.Seq.{take-length}
use Rattle.std.specs.Prelude.{Option, Result, Ok, Err, IfOk, IfErr}
use Rattle.std.specs.Result.{result_eq}
use Rattle.std.specs.Io.KnownBytes.{Consumes}
use Rattle.std.proofs.KnownBytes.{Consumes-trans}
use Rattle.stored_input.specs.Reading.{BeginsRead}
use Rattle.stored_input.specs.declared.ReadFailed.{ReadFailed}
use Rattle.stored_input.specs.declared.replay.Counts.{Counts}
use Rattle.format.specs.RecordNumber.{refusal}
use Rattle.record_vectors.specs.Vectors.{told_length, told_wrong, ReadRecord}
use Rattle.record_vectors.proofs.RecordsReplayNext.replay_next.Goals as goal

told-behind : (head rest : List ℕ) → length head ≡ 5 → told_length (head ++ rest) ≡ told_length head
told-behind (a ∷ b ∷ c ∷ head) rest h = refl
told-behind (a ∷ b ∷ []) rest h = absurd (omega arith)
told-behind (a ∷ []) rest h = absurd (omega arith)
told-behind [] rest h = absurd (omega arith)

-- A head is four bytes that tell a length as it does, and a number.
in-head : (head xs : List ℕ) → length head ≡ 5
    → (head ++ xs ≡ take 4 head ++ (get_or head 4 0 ∷ xs)) × (length (take 4 head) ≡ 4) × (told_length head ≡ told_length (take 4 head))
in-head (a ∷ b ∷ c ∷ d ∷ e ∷ []) xs h = (refl, refl, refl)
in-head (a ∷ b ∷ c ∷ d ∷ e ∷ f ∷ head) xs h = absurd (omega arith)
in-head (a ∷ b ∷ c ∷ d ∷ []) xs h = absurd (omega arith)
in-head (a ∷ b ∷ c ∷ []) xs h = absurd (omega arith)
in-head (a ∷ b ∷ []) xs h = absurd (omega arith)
in-head (a ∷ []) xs h = absurd (omega arith)
in-head [] xs h = absurd (omega arith)

module _ (old new : Option (List ℕ)) (buf : List ℕ) (eq : ReadFailed → ReadFailed → Bool) where
  -- Fewer bytes came than there is room for.
  short : (r : Result ℕ ReadFailed) → IfOk r (λ n. BeginsRead old new buf n) → IfErr r (λ e. (e.after < length buf) × BeginsRead old new buf e.after)
      → true ≡ not (result_eq eqb eq r (Ok (length buf))) → (n : ℕ) × (n < length buf) × Consumes old new (take n buf)
  short (Ok n) read failed h = (n, search rules, read.1)
  short (Err e) read failed h = (e.after, failed.0, failed.1.1)

  -- All came.
  whole : (r : Result ℕ ReadFailed) → IfOk r (λ n. BeginsRead old new buf n)
      → false ≡ not (result_eq eqb eq r (Ok (length buf))) → Consumes old new buf
  whole (Ok n) read h =
      let same : n ≡ length buf = search rules in
      subst (Consumes old new) (take-length buf) (subst (λ m. Consumes old new (take m buf)) same read.1)
  whole (Err e) read h = absurd (search rules)

module _ (old mid new : Option (List ℕ)) (head : List ℕ) (n : ℕ) (five : length head ≡ 5) (same : n ≡ length head) (read : BeginsRead old mid head n) where
  begun : Consumes old mid head
  begun = subst (Consumes old mid) (ap (λ n. take n head) same ∙ take-length head) read.1

  broken : (buf : List ℕ) (m : ℕ) (counts : Counts) → length buf ≡ told_length head → m < length buf → Consumes mid new (take m buf)
      → counts ≡ told_wrong true → (bytes : List ℕ) × Consumes old new bytes × ReadRecord bytes counts
  broken buf m counts room fewer came e =
      let taken = length-take-le m buf (omega arith) in
      let both = length-append head (take m buf) in
      let told = told-behind head (take m buf) five in
      (head ++ take m buf, Consumes-trans old mid new head (take m buf) begun came, inr (omega arith, omega arith, e))

  counted : (xs : List ℕ) (counts : Counts) → length xs ≡ told_length head → Consumes mid new xs
      → counts ≡ told_wrong (not (eqb (refusal xs) (get_or head 4 0))) → (bytes : List ℕ) × Consumes old new bytes × ReadRecord bytes counts
  counted xs counts room came e =
      let parts = in-head head xs five in
      (head ++ xs, Consumes-trans old mid new head xs begun came, inl (take 4 head, get_or head 4 0 ∷ xs, parts.0, parts.1, (get_or head 4 0, xs, refl, room ∙ parts.2, e)))

pub returns-then-ne : goal.returns-then-ne
returns-then-ne g c =
    let head = c.in-Ok-eq5.ensures.read in
    let read = c.try_read_full-2.ensures in
    let part = short _ _ _ _ _ read.read read.failed c.if-ne.ensures in
    broken _ _ _ _ _ (search rules) (search rules) head _ _ _ (search rules) part.1 part.2 (search rules)

pub returns : goal.returns
returns g c =
    let head = c.in-Ok-eq5.ensures.read in
    let xs = whole _ _ _ _ _ c.try_read_full-2.ensures.read c.if-ne.ensures in
    counted _ _ _ _ _ (search rules) (search rules) head _ _ (search rules) xs (search rules)
