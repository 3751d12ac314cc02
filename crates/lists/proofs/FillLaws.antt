-- A slice that is filled from a place on, one cell or several at a time: before the place stand the cells that are done, behind it what stood there
-- before, and what is left to do finds room.
use mathlib.Core.Path.{◌≡◌, refl, sym, ap, ap₂, subst, ◌∙◌}
use mathlib.Core.List.{List, [], ◌∷◌, ◌++◌, append_assoc, append-nil}
use Prim.Native.Nat.{ℕ, ◌+◌, ◌≤◌, ◌<◌}
use native.Mathlib.Omega.{arith}
use lib.ListN.{length, take, drop, set, length-append, length-set, length-drop, take-append-drop, drop_of_length-le}
use lib.Seq.{drop-set-lt, drop-drop, length-take-le, take_at, drop_at}
use Rattle.lists.proofs.StepLaws.{take-set-more}

-- ## A row written at a place

module _ {A : Type 0} where
  -- the whole after a row was written at k
  pub record Behind (out row : List A) (k : ℕ) (out' : List A) : Type 0 where
    pub front : take (k + length row) out' ≡ take k out ++ row
    pub back : drop (k + length row) out' ≡ drop (k + length row) out
    pub long : length out' ≡ length out

  pub row-behind : (out row out' : List A) (k : ℕ) → k + length row ≤ length out → out' ≡ take k out ++ (row ++ drop (k + length row) out)
      → Behind out row k out'
  row-behind out row out' k h w =
      let done : List A = take k out ++ row in
      let split : out' ≡ done ++ drop (k + length row) out = w ∙ sym (append_assoc (take k out) row (drop (k + length row) out)) in
      let size : length done ≡ k + length row = length-append (take k out) row ∙ ap (λ (n : ℕ). n + length row) (length-take-le k out (omega arith)) in
      record {
        front = ap (take (k + length row)) split ∙ take_at done (drop (k + length row) out) (k + length row) size;
        back = ap (drop (k + length row)) split ∙ drop_at done (drop (k + length row) out) (k + length row) size;
        long = ap length split ∙ length-append done (drop (k + length row) out) ∙ simp (size, length-drop) (omega arith);
      }

  cell-behind : (out : List A) (k : ℕ) (x : A) → k < length out → Behind out (x ∷ []) k (set out k x)
  cell-behind out k x h =
      record { front = take-set-more out k x h; back = drop-set-lt (k + 1) out k x (omega arith); long = length-set out k x }

-- ## Rows or cells one behind the other

module _ {A : Type 0} where
  -- all are the cells that the slice is to begin with, rest those that are still to be written, from k on
  pub record Filling (all rest before : List A) (k : ℕ) (now : List A) : Type 0 where
    pub front : take k now ++ rest ≡ all
    pub back : drop k now ≡ drop k before
    pub long : length now ≡ length before
    pub fits : k + length rest ≤ length before

  pub filling-start : (rest before : List A) (k : ℕ) → k + length rest ≤ length before → Filling (take k before ++ rest) rest before k before
  filling-start rest before k h = record { front = refl; back = refl; long = refl; fits = h }

  pub filling-new : (all before : List A) → length all ≤ length before → Filling all all before 0 before
  filling-new all before h = filling-start all before 0 (omega arith)

  module _ (all rest before : List A) (k : ℕ) (now : List A) (f : Filling all rest before k now) where
    pub filling-behind : (row rest' after : List A) → rest ≡ row ++ rest' → Behind now row k after → Filling all rest' before (k + length row) after
    filling-behind row rest' after e b =
        record {
          front =
              ap (λ (l : List A). l ++ rest') b.front
              ∙ append_assoc (take k now) row rest'
              ∙ ap (λ (l : List A). take k now ++ l) (sym e)
              ∙ f.front;
          back =
              b.back ∙ sym (drop-drop (length row) k now) ∙ ap (drop (length row)) f.back ∙ drop-drop (length row) k before;
          long = b.long ∙ f.long;
          fits = let l = f.fits in omega (arith, ap length e ∙ length-append row rest');
        }

    -- one cell
    pub filling-room : (x : A) (rest' : List A) → rest ≡ x ∷ rest' → k < length now
    filling-room x rest' e = let l = f.fits in let n = f.long in omega (arith, ap length e)

    pub filling-one : (x : A) (rest' : List A) → rest ≡ x ∷ rest' → Filling all rest' before (k + 1) (set now k x)
    filling-one x rest' e = filling-behind (x ∷ []) rest' (set now k x) e (cell-behind now k x (filling-room x rest' e))

    pub filling-put : (x : A) (rest' : List A) → rest ≡ x ∷ rest' → (v : A) → v ≡ x → Filling all rest' before (k + 1) (set now k v)
    filling-put x rest' e v q = subst (λ (y : A). Filling all rest' before (k + 1) (set now k y)) (sym q) (filling-one x rest' e)

    -- several cells
    pub filling-more : (row rest' after : List A) → rest ≡ row ++ rest' → after ≡ take k now ++ (row ++ drop (k + length row) now)
        → Filling all rest' before (k + length row) after
    filling-more row rest' after e w =
        let l = f.fits in
        let n = f.long in
        let inside : k + length row ≤ length now = omega (arith, ap length e ∙ length-append row rest') in
        filling-behind row rest' after e (row-behind now row after k inside w)

    -- nothing is left to do
    done-front : rest ≡ [] → take k now ≡ all
    done-front e = sym (append-nil (take k now)) ∙ ap (λ (l : List A). take k now ++ l) (sym e) ∙ f.front

    pub filling-count : rest ≡ [] → k ≡ length all
    filling-count e =
        let n = f.long in
        let l = f.fits in
        sym (length-take-le k now (omega arith)) ∙ ap length (done-front e)

    pub filling-done : rest ≡ [] → now ≡ all ++ drop k before
    filling-done e = sym (take-append-drop k now) ∙ ap₂ ◌++◌ (done-front e) f.back

    pub filling-written : rest ≡ [] → now ≡ all ++ drop (length all) before
    filling-written e = filling-done e ∙ ap (λ (n : ℕ). all ++ drop n before) (filling-count e)

  -- a slice that is filled to its end is what was to be written
  pub filling-whole : (all rest before : List A) (k : ℕ) (now : List A) → Filling all rest before k now → rest ≡ []
      → length before ≡ length all → now ≡ all
  filling-whole all rest before k now f e l =
      filling-written all rest before k now f e
      ∙ ap (λ (m : List A). all ++ m) (drop_of_length-le before {i = length all} (omega arith))
      ∙ append-nil all

  -- cells written from a place on, with what stands before it
  module _ (cells before : List A) (at k : ℕ) (now : List A) (inside : at ≤ length before)
      (f : Filling (take at before ++ cells) [] before k now) where
    pub filling-next : k ≡ at + length cells
    filling-next =
        filling-count _ _ _ _ _ f refl
        ∙ length-append (take at before) cells
        ∙ ap (λ (n : ℕ). n + length cells) (length-take-le at before inside)

    pub filling-from : now ≡ take at before ++ (cells ++ drop (at + length cells) before)
    filling-from =
        filling-done _ _ _ _ _ f refl
        ∙ append_assoc (take at before) cells (drop k before)
        ∙ ap (λ (n : ℕ). take at before ++ (cells ++ drop n before)) filling-next
