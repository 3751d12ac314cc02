-- A further read behind what a buffer begins with.
use Rattle.std.proofs.Common.{◌≡◌, ℕ, ◌+◌, ◌-◌, ◌≤◌, List, ◌++◌, Option, arith, length, take, slice_range, sym, ap, ◌∙◌, subst, le_refl, drop_at, length-take-le}
use Rattle.std.proofs.lemmas.Slice.{take-put_mid_below}
use Rattle.std.specs.Io.KnownBytes.{Consumes}
use Rattle.std.proofs.KnownBytes.{Consumes-trans}
use borrow.Rule.Slice.PartMut.{put_mid, post_of}
use lib.Seq.{take-add, take-append-le}

module _ (done n : ℕ) (buf part : List ℕ) (within : done ≤ length buf) (fits : n ≤ length part) where
  abbrev room : ℕ
  room = length buf - done

  abbrev after : List ℕ
  after = put_mid done room buf part

  -- The part that was read stands behind what was done.
  behind : slice_range after done (done + n) ≡ take n part
  behind =
      let same : (done + n) - done ≡ n = omega arith in
      let rest = post_of done room buf in
      ap (take ((done + n) - done)) (drop_at (take done buf) (part ++ rest) done (length-take-le done buf within)) ∙ ap (λ m. take m (part ++ rest)) same ∙ take-append-le n part rest fits

  joined : take done buf ++ take n part ≡ take (done + n) after
  joined =
      let front = take-put_mid_below done room buf part done (le_refl done) within in
      let same : done + ((done + n) - done) ≡ done + n = omega arith in
      ap (λ l. take done buf ++ l) (sym behind) ∙ ap (λ l. l ++ slice_range after done (done + n)) (sym front) ∙ sym (take-add done ((done + n) - done) after) ∙ ap (λ m. take m after) same

  pub read_further : (old mid new : Option (List ℕ)) → Consumes old mid (take done buf) → Consumes mid new (take n part) → Consumes old new (take (done + n) after)
  read_further old mid new p q = subst (Consumes old new) joined (Consumes-trans old mid new (take done buf) (take n part) p q)
