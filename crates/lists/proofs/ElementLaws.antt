-- First and last elements, elements at a place, and what tests keep.
use mathlib.Core.Path.{◌≡◌, refl, ap, ◌∙◌}
use mathlib.Core.Bool.{Bool, true, cond, ◌&&◌}
use mathlib.Core.List.{List, [], ◌∷◌, ◌++◌, map}
use mathlib.Core.Option
use mathlib.Core.Option.{none, some, none-ne-some, some-injective}
use Prim.Native.Nat.{ℕ, zero, suc, ◌≤◌, ◌<◌}
use native.Mathlib.Omega.{arith}
use lib.ListN.{length, get_or, get_elem?, drop}
use Rattle.lists.specs.Lists.{All, keep, join_of, first_or, last_or, last}
use Rattle.lists.proofs.BoolLaws.{cases, and-false}
use Rattle.lists.proofs.ListLaws.{InOrder, all_keep, map_at}

-- ## First and last

module _ {A B : Type 0} (f : A → B) where
  pub first-map : (d : A) (xs : List A) → f (first_or d xs) ≡ first_or (f d) (map f xs)
  first-map d [] = refl
  first-map d (x ∷ xs) = refl

  pub last-map : (d : A) (xs : List A) → f (last_or d xs) ≡ last_or (f d) (map f xs)
  last-map d [] = refl
  last-map d (x ∷ xs) = last-map x xs

some-last : {A : Type 0} (x : A) (xs : List A) → last_or (some x) (map some xs) ≡ some (last_or x xs)
some-last x [] = refl
some-last x (y ∷ xs) = some-last y xs

pub last_some : {A : Type 0} (xs : List A) → last_or none (map some xs) ≡ last xs
last_some [] = refl
last_some (x ∷ xs) = some-last x xs

module _ {A : Type 0} (P : A → Type 0) where
  -- what holds of all holds of the first and of the last, if there is one
  pub first-has : (d : A) (xs : List A) → All P xs → (first_or d xs ≡ d → ⊥) → P (first_or d xs)
  first-has d [] q h = absurd (h refl)
  first-has d (x ∷ xs) q h = q.0

  pub last_has : (d : A) (xs : List A) → All P xs → (last_or d xs ≡ d → ⊥) → P (last_or d xs)
  last_has d [] q h = absurd (h refl)
  last_has d (x ∷ xs) q h = go x xs q.0 q.1
    where
      go : (y : A) (ys : List A) → P y → All P ys → P (last_or y ys)
      go y [] p r = p
      go y (z ∷ ys) p r = go z ys r.0 r.1

pub last-behind : {A : Type 0} (d x : A) (xs : List A) → last_or d (xs ++ (x ∷ [])) ≡ x
last-behind d x [] = refl
last-behind d x (y ∷ xs) = last-behind y x xs

-- ## An element at a place

pub at_drop : {A : Type 0} (xs : List A) (i : ℕ) (x : A) (rest : List A) → drop i xs ≡ x ∷ rest → (get_elem? xs i ≡ some x) × (drop (suc i) xs ≡ rest)
at_drop [] zero x rest e = (cc, cc)
at_drop [] (suc i) x rest e = (cc, cc)
at_drop (y ∷ xs) zero x rest e = (cc, cc)
at_drop (y ∷ xs) (suc i) x rest e = at_drop xs i x rest e

-- Inside a list it does not matter what stands for outside.
pub at-any : {A : Type 0} (l : List A) (i : ℕ) (d e : A) → i < length l → get_or l i d ≡ get_or l i e
at-any [] i d e h = absurd (omega arith)
at-any (x ∷ l) zero d e h = refl
at-any (x ∷ l) (suc i) d e h = at-any l i d e (omega arith)

module _ {A : Type 0} where
  -- What stands at a place is read there.
  pub at-get_or : (xs : List A) (i : ℕ) (x d : A) → get_elem? xs i ≡ some x → get_or xs i d ≡ x
  at-get_or [] i x d e = absurd (none-ne-some x e)
  at-get_or (y ∷ xs) zero x d e = some-injective y x e
  at-get_or (y ∷ xs) (suc i) x d e = at-get_or xs i x d e

  -- A place where something stands is inside.
  pub at-within : (xs : List A) (i : ℕ) (x : A) → get_elem? xs i ≡ some x → i < length xs
  at-within [] i x e = absurd (none-ne-some x e)
  at-within (y ∷ xs) zero x e = omega arith
  at-within (y ∷ xs) (suc i) x e = omega (arith, at-within xs i x e)

-- The cell of what stands at a place.
pub cell-at : {A B : Type 0} (f : A → B) (xs : List A) (i : ℕ) (x : A) (d : B) → get_elem? xs i ≡ some x → get_or (map f xs) i d ≡ f x
cell-at f xs i x d e = at-get_or (map f xs) i (f x) d (map_at f xs i ∙ ap (Option.map f) e)

pub at-end : {A : Type 0} (xs : List A) (i : ℕ) → length xs ≤ i → get_elem? xs i ≡ none
at-end [] i h = refl
at-end (x ∷ xs) zero h = absurd (omega arith)
at-end (x ∷ xs) (suc i) h = at-end xs i (omega arith)

pub at-inside : {A : Type 0} (xs : List A) (i : ℕ) → i < length xs → (x : A) × (get_elem? xs i ≡ some x)
at-inside [] i h = absurd (omega arith)
at-inside (x ∷ xs) zero h = (x, refl)
at-inside (x ∷ xs) (suc i) h = at-inside xs i (omega arith)

pub all-inside : {A : Type 0} (P : A → Type 0) (xs : List A) (i : ℕ) (d : A) → All P xs → i < length xs → P (get_or xs i d)
all-inside P [] i d q h = absurd (omega arith)
all-inside P (x ∷ xs) zero d q h = q.0
all-inside P (x ∷ xs) (suc i) d q h = all-inside P xs i d q.1 (omega arith)

-- ## What tests keep

module _ {A : Type 0} (p : A → Bool) where
  -- A test that each passes keeps all.
  pub keep_all : (xs : List A) → All (λ x. p x ≡ true) xs → keep p xs ≡ xs
  keep_all [] q = refl
  keep_all (x ∷ xs) q = simp (q.0, keep_all xs q.1)

  pub keep-short : (xs : List A) → length (keep p xs) ≤ length xs
  keep-short [] = omega arith
  keep-short (x ∷ xs) = cases (p x) (λ h. simp h (omega (arith, keep-short xs))) (λ h. simp h (omega (arith, keep-short xs)))

module _ {A : Type 0} (p q : A → Bool) where
  pub keep-both : (xs : List A) → keep (λ x. p x && q x) xs ≡ keep q (keep p xs)
  keep-both [] = refl
  keep-both (x ∷ xs) =
      cases (p x)
      (λ h. cases (q x) (λ g. simp (h, g, keep-both xs)) (λ g. simp (h, g, keep-both xs)))
      (λ h. simp (h, keep-both xs))

  pub keep-either : (xs : List A) → keep (λ x. p x && q x) xs ≡ keep p (keep q xs)
  keep-either [] = refl
  keep-either (x ∷ xs) =
      cases (q x)
      (λ g. cases (p x) (λ h. simp (h, g, keep-either xs)) (λ h. simp (h, g, keep-either xs)))
      (λ g. simp (g, and-false (p x), keep-either xs))

module _ {A B : Type 0} where
  pub keep-map : (p : B → Bool) (f : A → B) (xs : List A) → keep p (map f xs) ≡ map f (keep (λ x. p (f x)) xs)
  keep-map p f [] = refl
  keep-map p f (x ∷ xs) = cases (p (f x)) (λ h. simp (h, keep-map p f xs)) (λ h. simp (h, keep-map p f xs))

  pub map_same : (f g : A → B) (xs : List A) → All (λ x. f x ≡ g x) xs → map f xs ≡ map g xs
  map_same f g [] q = refl
  map_same f g (x ∷ xs) q = simp (q.0, map_same f g xs q.1)

  -- What a test keeps, mapped, is joined from lists of at most one.
  pub kept-join : (p : A → Bool) (f : A → B) (xs : List A) → map f (keep p xs) ≡ join_of (λ x. cond (p x) (f x ∷ []) []) xs
  kept-join p f [] = refl
  kept-join p f (x ∷ xs) = cases (p x) (λ h. simp (h, kept-join p f xs)) (λ h. simp (h, kept-join p f xs))

  -- Two functions that give the same list give the same of each element.
  pub same-each : (f g : A → B) (xs : List A) → map f xs ≡ map g xs → All (λ x. f x ≡ g x) xs
  same-each f g [] e = tt
  same-each f g (x ∷ xs) e =
      let first : f x ≡ g x = cc in
      let rest : map f xs ≡ map g xs = cc in
      (first, same-each f g xs rest)

pub keep_same : {A : Type 0} (p q : A → Bool) (xs : List A) → All (λ x. p x ≡ q x) xs → keep p xs ≡ keep q xs
keep_same p q [] a = refl
keep_same p q (x ∷ xs) a = cases (q x) (λ h. simp (a.0, h, keep_same p q xs a.1)) (λ h. simp (a.0, h, keep_same p q xs a.1))

pub order-keep : {A : Type 0} (key : A → ℕ) (p : A → Bool) (xs : List A) → InOrder key xs → InOrder key (keep p xs)
order-keep key p [] o = tt
order-keep key p (x ∷ xs) o =
    cases (p x)
    (λ h. simp h (all_keep (λ y. key x ≤ key y) p xs o.0, order-keep key p xs o.1))
    (λ h. simp h (order-keep key p xs o.1))
