-- A section that was packed is read again, wherever it stands in the bytes.
use mathlib.Core.Path.{◌≡◌, refl, sym, ap, ap₂, ◌∙◌}
use mathlib.Core.List.{List, [], ◌∷◌, ◌++◌, append_assoc}
use Prim.Native.Nat.{ℕ, suc, ◌+◌, ◌<◌, ◌≤◌}
use native.Mathlib.Omega.{arith}
use native.Mathlib.Nat.{zero-add, add-zero}
use borrow.Author.Tests.{le-leb}
use lib.ListN.{length, get_or, take, drop, length-append, length-drop}
use lib.Seq.{take_at, drop_at}
use Rattle.std.proofs.lemmas.List.{get_or-drop, drop-drop, get_or_append_left}
use Rattle.lists.specs.Lists.{All, join_of}
use Rattle.format.specs.Bytes.{byte_at}
use Rattle.format.specs.Rows.{rows_at, strings_from, strings_end}
use Rattle.format.proofs.PackedLaws.{Same, Reads}
use Rattle.packing.specs.Packing.{string_packed}

-- Bytes at a place begin with those of a row.
pub front-same : (w : ℕ) (xs : List ℕ) (at : ℕ) (row rest : List ℕ) → length row ≡ w → drop at xs ≡ row ++ rest → Same w xs at row 0
front-same w xs at row rest l e =
    record {
      byte = λ k h.
          sym (get_or-drop at xs k 0) ∙ ap (λ (ys : List ℕ). get_or ys k 0) e ∙ get_or_append_left row rest 0 k (omega arith) ∙ ap (byte_at row) (sym (zero-add k));
    }

-- So many bytes stand there.
pub room-for : (xs : List ℕ) (at n : ℕ) (front rest : List ℕ) → 0 < n → length front ≡ n → drop at xs ≡ front ++ rest → at + n ≤ length xs
room-for xs at n front rest p l e =
    omega (arith, length-drop at xs, ap length e, length-append front rest)

-- What stands behind it.
pub drop-front : (xs : List ℕ) (at n : ℕ) (front rest : List ℕ) → length front ≡ n → drop at xs ≡ front ++ rest → drop (at + n) xs ≡ rest
drop-front xs at n front rest l e = sym (drop-drop n at xs) ∙ ap (drop n) e ∙ drop_at front rest n l

module _ {A : Type 0} (w : ℕ) (some : 0 < w) (read : List ℕ → ℕ → A) (reads : Reads w read) (put : A → List ℕ) (wide : (a : A) → length (put a) ≡ w)
    (P : A → Type 0) (back : (a : A) → P a → read (put a) 0 ≡ a) where
  pub rows-back : (xs : List ℕ) (at : ℕ) (as' : List A) (rest : List ℕ) → drop at xs ≡ join_of put as' ++ rest → All P as'
      → rows_at (read xs) w xs at (length as') ≡ as'
  unfolding rows_at
  rows-back xs at [] rest e q = refl
  rows-back xs at (a ∷ as') rest e q =
      let f : drop at xs ≡ put a ++ (join_of put as' ++ rest) = e ∙ append_assoc (put a) (join_of put as') rest in
      let whole : at + w ≤ length xs = room-for xs at w (put a) (join_of put as' ++ rest) some (wide a) f in
      simp (le-leb _ _ whole)
      (ap₂ ◌∷◌
      (reads xs at (put a) 0 (front-same w xs at (put a) (join_of put as' ++ rest) (wide a) f) ∙ back a q.0)
      (rows-back xs (at + w) as' rest (drop-front xs at w (put a) (join_of put as' ++ rest) (wide a) f) q.1))

-- ## Strings

-- The first string that stands whole, and what stands behind it.
record First (xs : List ℕ) (at : ℕ) (s rest : List ℕ) : Type 0 where
  len : byte_at xs at ≡ length s
  whole : at + 1 + length s ≤ length xs
  text : take (length s) (drop (at + 1) xs) ≡ s
  next : drop (at + 1 + length s) xs ≡ rest

first-string : (xs : List ℕ) (at : ℕ) (s rest : List ℕ) → drop at xs ≡ (length s ∷ s) ++ rest → First xs at s rest
first-string xs at s rest f =
    let behind : drop (at + 1) xs ≡ s ++ rest = drop-front xs at 1 (length s ∷ []) (s ++ rest) refl f in
    record {
      len = ap (byte_at xs) (sym (add-zero at)) ∙ (front-same 1 xs at (length s ∷ []) (s ++ rest) refl f).byte 0 (omega arith);
      whole = omega (arith, room-for xs at (suc (length s)) (length s ∷ s) rest (omega arith) refl f);
      text = ap (take (length s)) behind ∙ take_at s rest (length s) refl;
      next = drop-front xs (at + 1) (length s) s rest refl behind;
    }

pub strings-back : (xs : List ℕ) (at : ℕ) (ss : List (List ℕ)) (rest : List ℕ) → drop at xs ≡ join_of string_packed ss ++ rest
    → (strings_from xs at (length ss) ≡ ss) × (strings_end xs at (length ss) ≡ at + length (join_of string_packed ss))
unfolding strings_from strings_end string_packed
strings-back xs at [] rest e = (refl, omega arith)
strings-back xs at (s ∷ ss) rest e =
    let f = first-string xs at s (join_of string_packed ss ++ rest) (e ∙ append_assoc (length s ∷ s) (join_of string_packed ss) rest) in
    let more = strings-back xs (at + 1 + length s) ss rest f.next in (
      simp (f.len, le-leb _ _ f.whole) (ap₂ ◌∷◌ f.text more.0),
      ap (λ (b : ℕ). strings_end xs (at + 1 + b) (length ss)) f.len ∙ more.1 ∙ omega (arith, length-append (length s ∷ s) (join_of string_packed ss)),
    )
