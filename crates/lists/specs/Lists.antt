-- General functions on lists. They render no rule: the definitions above are written with them.
use Rattle.std.specs.Prelude.{Bool, true, false, cond, ◌||◌, ◌&&◌, List, [], ◌∷◌, ◌++◌, ℕ, zero, suc, ◌+◌, ◌/◌, ◌%◌, leb, eqb, length, take, drop}
use Rattle.std.proofs.Math.Option.{Option, none, some}

-- P holds of each element.
abbrev pub All : {A : Type 0} → (A → Type 0) → List A → Type 0
All P [] = Unit {0}
All P (x ∷ xs) = P x × All P xs

module _ {A : Type 0} (p : A → Bool) where
  -- Those that fit, in order.
  abbrev pub keep : List A → List A
  keep [] = []
  keep (x ∷ xs) = cond (p x) (x ∷ keep xs) (keep xs)

  -- Some one fits.
  abbrev pub any_of : List A → Bool
  any_of [] = false
  any_of (x ∷ xs) = p x || any_of xs

  -- Each one fits.
  abbrev pub all_of : List A → Bool
  all_of [] = true
  all_of (x ∷ xs) = p x && all_of xs

  -- How many fit.
  abbrev pub count_of : List A → ℕ
  count_of [] = 0
  count_of (x ∷ xs) = cond (p x) (suc (count_of xs)) (count_of xs)

  -- Those up to the first that does not fit.
  abbrev pub leading : List A → List A
  leading [] = []
  leading (x ∷ xs) = cond (p x) (x ∷ leading xs) []

  -- Those from the first that does not fit on.
  abbrev pub skipping : List A → List A
  skipping [] = []
  skipping (x ∷ xs) = cond (p x) (skipping xs) (x ∷ xs)

  -- The first that fits, if there is one.
  abbrev pub first_that : List A → Option A
  first_that [] = none
  first_that (x ∷ xs) = cond (p x) (some x) (first_that xs)

-- 1 if it is so, else 0.
abbrev pub one : Bool → ℕ
one true = 1
one false = 0

-- The sum of a number of each.
abbrev pub sum_of : {A : Type 0} → (A → ℕ) → List A → ℕ
sum_of f [] = 0
sum_of f (x ∷ xs) = f x + sum_of f xs

-- Some number stands twice.
abbrev pub twice : List ℕ → Bool
twice [] = false
twice (x ∷ xs) = any_of (eqb x) xs || twice xs

-- Two lists hold the same numbers in the same order.
abbrev pub same_numbers : List ℕ → List ℕ → Bool
same_numbers [] [] = true
same_numbers [] (y ∷ ys) = false
same_numbers (x ∷ xs) [] = false
same_numbers (x ∷ xs) (y ∷ ys) = eqb x y && same_numbers xs ys

-- The lists that the elements give, one behind the other.
abbrev pub join_of : {A B : Type 0} → (A → List B) → List A → List B
join_of f [] = []
join_of f (x ∷ xs) = f x ++ join_of f xs

module _ {A : Type 0} where
  -- The first, or the given one if there is none.
  abbrev pub first_or : A → List A → A
  first_or d [] = d
  first_or d (x ∷ xs) = x

  -- The last, or the given one if there is none.
  abbrev pub last_or : A → List A → A
  last_or d [] = d
  last_or d (x ∷ xs) = last_or x xs

  -- The last, if there is one.
  abbrev pub last : List A → Option A
  last [] = none
  last (x ∷ xs) = some (last_or x xs)

  -- All but the last.
  abbrev pub but_last : List A → List A
  but_last [] = []
  but_last (x ∷ []) = []
  but_last (x ∷ y ∷ ys) = x ∷ but_last (y ∷ ys)

  -- The first if it is there, else the second.
  abbrev pub or_else : Option A → Option A → Option A
  or_else none b = b
  or_else (some a) b = some a

  -- All but number i, counted from 0.
  abbrev pub without : ℕ → List A → List A
  without i xs = take i xs ++ drop (suc i) xs

module _ {A : Type 0} (key : A → ℕ) where
  -- An element before others of which the best is known: the greater number wins, and of equals the later.
  abbrev pub greater_of : A → Option A → Option A
  greater_of x none = some x
  greater_of x (some y) = cond (leb (key x) (key y)) (some y) (some x)

  -- The element with the greatest number, and of several the last, if there is one.
  abbrev pub greatest : List A → Option A
  greatest [] = none
  greatest (x ∷ xs) = greater_of x (greatest xs)

-- So many numbers from one on.
abbrev pub numbers_from : ℕ → ℕ → List ℕ
numbers_from a zero = []
numbers_from a (suc n) = a ∷ numbers_from (suc a) n

-- So many rows of a width, one behind the other.
abbrev pub rows_in : {A : Type 0} → ℕ → ℕ → List A → List (List A)
rows_in width zero ws = []
rows_in width (suc n) ws = take width ws ∷ rows_in width n (drop width ws)

-- The words make whole rows of a width.
abbrev pub is_whole : {A : Type 0} → ℕ → List A → Bool
is_whole width ws = eqb (length ws % width) 0

-- The rows of a width that the words make.
abbrev pub whole_rows : {A : Type 0} → ℕ → List A → List (List A)
whole_rows width ws = rows_in width (length ws / width) ws
