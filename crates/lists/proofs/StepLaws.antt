-- One element more, counted as code counts, i + 1: a list that is read, copied, filled or mapped element by element.
use mathlib.Core.Path.{◌≡◌, ap, ◌∙◌}
use mathlib.Core.List.{List, [], ◌∷◌, ◌++◌, map}
use Prim.Native.Nat.{ℕ, ◌+◌, ◌≤◌, ◌<◌}
use native.Mathlib.Numerals.{add-one}
use lib.ListN.{length, take, drop, get_or, set, drop_of_length-le}
use lib.Seq.{drop-cons, take-suc, take-suc-set}

module _ {A : Type 0} where
  -- What stands from a place on is the element there and the others.
  pub next : (l : List A) (i : ℕ) (d : A) → i < length l → drop i l ≡ get_or l i d ∷ drop (i + 1) l
  next l i d h = rw (add-one, drop-cons l i d h)

  -- The elements before the next place are those before this one and the element here, also where it is just written.
  pub take_more : (l : List A) (i : ℕ) (d : A) → i < length l → take (i + 1) l ≡ take i l ++ (get_or l i d ∷ [])
  take_more l i d h = rw (add-one, take-suc l i d h)

  pub take-set-more : (l : List A) (i : ℕ) (v : A) → i < length l → take (i + 1) (set l i v) ≡ take i l ++ (v ∷ [])
  take-set-more l i v h = ap (λ (n : ℕ). take n (set l i v)) (add-one i) ∙ take-suc-set l i v h

-- What a function gives of the elements from a place on: that of the first of them, then the others.
module _ {A : Type 0} (f : ℕ → A) (xs : List ℕ) (i : ℕ) where
  pub map_next : i < length xs → map f (drop i xs) ≡ f (get_or xs i 0) ∷ map f (drop (i + 1) xs)
  map_next h = ap (map f) (next xs i 0 h)

  pub map-end : length xs ≤ i → map f (drop i xs) ≡ []
  map-end h = rw (drop_of_length-le xs {i = i} h)
