-- A pass over the rows beside a walk: what is left to do, done on the words as they are, gives what all gives on the words before.
use mathlib.Core.Path.{◌≡◌, refl, sym, ap, ap₂, ◌∙◌}
use mathlib.Core.Bool.{true}
use mathlib.Core.List.{List, [], ◌∷◌, ◌++◌, append_assoc, append-nil}
use Prim.Native.Nat.{ℕ, suc, ◌+◌, ◌-◌, ◌*◌, ◌/◌, ◌<◌, ◌≤◌}
use native.Mathlib.Nat.{sub-zero}
use native.Mathlib.Omega.{arith}
use borrow.Author.Tests.{le-leb}
use lib.Dec.{leb}
use lib.ListN.{length, take, drop, length-append, length-drop, length-take, take-append-drop}
use lib.Seq.{take_at, drop_at, drop-drop, length-take-le, take_all, take-nil}
use Rattle.std.proofs.lemmas.List.{drop_all}
use Rattle.rows.specs.RowAt as Cells
use Rattle.format.specs.declared.values.Joining.{Joining}
use Rattle.rules.specs.Bookings.{booking_width}
use Rattle.bookings.specs.Passes.{row_here, row_put_at, rows_by}

module _ (row : Joining → List ℕ → List ℕ) (all : List Joining) (before : List ℕ) where
  pub record Passing (left : List Joining) (k : ℕ) (now : List ℕ) : Type 0 where
    pub done : take k now ++ rows_by row left (drop k now) ≡ rows_by row all before
    pub long : length now ≡ length before
    pub room : k + booking_width * length left ≤ length before

  module _ {left : List Joining} {k : ℕ} {now : List ℕ} (p : Passing left k now) where
    pub passing-room : {j : Joining} {rest : List Joining} → left ≡ j ∷ rest → k + booking_width ≤ length now
    passing-room e = let r = p.room in let l = p.long in omega (arith, ap length e)

    pub passing-next : {j : Joining} {rest : List Joining} → left ≡ j ∷ rest → length (row j (row_here k now)) ≡ booking_width → (new : List ℕ) → new ≡ row_put_at k (row j (row_here k now)) now
        → Passing rest (k + booking_width) new
    unfolding rows_by
    passing-next {j} {rest} e w new q =
        let r : k + booking_width ≤ length now = passing-room e in
        let here : List ℕ = row j (row_here k now) in
        let behind : List ℕ = drop (k + booking_width) now in
        let front : length (take k now) ≡ k = length-take-le k now (omega arith) in
        let both : length (take k now ++ here) ≡ k + booking_width = length-append (take k now) here ∙ ap₂ ◌+◌ front w in
        let split : new ≡ (take k now ++ here) ++ behind = q ∙ sym (append_assoc (take k now) here behind) in
        let first : take (k + booking_width) new ≡ take k now ++ here = ap (take (k + booking_width)) split ∙ take_at (take k now ++ here) behind (k + booking_width) both in
        let second : drop (k + booking_width) new ≡ behind = ap (drop (k + booking_width)) split ∙ drop_at (take k now ++ here) behind (k + booking_width) both in
        record {
          done =
              ap₂ (λ (a b : List ℕ). a ++ rows_by row rest b) first second
              ∙ (append_assoc (take k now) here (rows_by row rest behind)
              ∙ (ap (λ (l : List ℕ). take k now ++ (here ++ rows_by row rest l)) (sym (drop-drop booking_width k now))
              ∙ (ap (λ (l : List Joining). take k now ++ rows_by row l (drop k now)) (sym e) ∙ p.done)));
          long =
              ap length split
              ∙ (length-append (take k now ++ here) behind ∙ ap₂ ◌+◌ both (length-drop (k + booking_width) now))
              ∙ (let l = p.long in omega arith);
          room = let m = p.room in omega (arith, ap length e);
        }

    pub passing-end : left ≡ [] → now ≡ rows_by row all before
    unfolding rows_by
    passing-end e = sym (take-append-drop k now) ∙ (ap (λ (l : List Joining). take k now ++ rows_by row l (drop k now)) (sym e) ∙ p.done)

-- ## One row

-- The row was made anew at the front of the cells from its place on, which are as many as before: so it is as wide as a booking's.
row-made : (row : List ℕ → List ℕ) (out made : List ℕ) (k : ℕ) → k + booking_width ≤ length out
    → made ≡ Cells.row_put booking_width (row (take booking_width (take (length out - k) (drop k out)))) (take (length out - k) (drop k out)) → length made ≡ length (take (length out - k) (drop k out))
    → (length (row (row_here k out)) ≡ booking_width) × (take k out ++ (made ++ drop (length out - k) (drop k out)) ≡ row_put_at k (row (row_here k out)) out)
row-made row out made k h e l =
    let cells : List ℕ = drop k out in
    let words : List ℕ = row (row_here k out) in
    let many : length cells ≡ length out - k = length-drop k out in
    let all : take (length out - k) cells ≡ cells = take_all (length out - k) cells (omega (arith, many)) in
    let over : drop (length out - k) cells ≡ [] = drop_all (length out - k) cells (omega (arith, many)) in
    let room : leb booking_width (length cells) ≡ true = le-leb booking_width (length cells) (omega (arith, many)) in
    let put : made ≡ words ++ drop (k + booking_width) out = (rw all at e) ∙ rw (room, drop-drop booking_width k out) refl in
    let long : length words + length (drop (k + booking_width) out) ≡ length cells = sym (length-append words (drop (k + booking_width) out)) ∙ sym (ap length put) ∙ (rw all at l) in (
      omega (arith, long, many, length-drop (k + booking_width) out),
      ap₂ (λ (x y : List ℕ). take k out ++ (x ++ y)) put over ∙ ap (λ (x : List ℕ). take k out ++ x) (append-nil _),
    )

-- ## As many rows as find room

module _ (row : Joining → List ℕ → List ℕ) (all : List Joining) (before : List ℕ) (m : ℕ) where
  pub passing-first : m ≡ length before / booking_width → Passing row (take m all) before (take (m - 0) all) (booking_width * 0) before
  passing-first e = rw (sub-zero m) record { done = refl; long = refl; room = omega (arith, length-take m all) }

  module _ (left : List Joining) (i : ℕ) (now : List ℕ) (p : Passing row (take m all) before (take (m - i) left) (booking_width * i) now) where
    -- Row number i was made, as the code leaves the words.
    pub passing-made : (rest : List Joining) (j : Joining) (made : List ℕ) → i < m → left ≡ j ∷ rest
        → made ≡ Cells.row_put booking_width (row j (take booking_width (take (length now - booking_width * i) (drop (booking_width * i) now)))) (take (length now - booking_width * i) (drop (booking_width * i) now))
        → length made ≡ length (take (length now - booking_width * i) (drop (booking_width * i) now))
        → Passing row (take m all) before (take (m - (i + 1)) rest) (booking_width * (i + 1)) (take (booking_width * i) now ++ (made ++ drop (length now - booking_width * i) (drop (booking_width * i) now)))
    passing-made rest j made h e q l =
        let more : m - i ≡ suc (m - (i + 1)) = omega arith in
        let first : take (m - i) left ≡ j ∷ take (m - (i + 1)) rest = rw (more, e) in
        let r = row-made (row j) now made (booking_width * i) (passing-room row (take m all) before p first) q l in
        let step : booking_width * (i + 1) ≡ booking_width * i + booking_width = omega arith in
        rw step (passing-next row (take m all) before p first r.0 _ r.1)

    -- No joining is left, or no row.
    pub passing-out : left ≡ [] → now ≡ rows_by row (take m all) before
    passing-out e = passing-end row (take m all) before p (ap (take (m - i)) e ∙ take-nil (m - i))

    pub passing-full : m ≤ i → now ≡ rows_by row (take m all) before
    passing-full h = let z : m - i ≡ 0 = omega arith in passing-end row (take m all) before p (rw z refl)
