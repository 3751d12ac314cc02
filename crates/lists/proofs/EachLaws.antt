-- A fact of each element, and elements in order.
use mathlib.Core.Path.{◌≡◌}
use mathlib.Core.Bool.{Bool, true}
use mathlib.Core.List.{List, [], ◌∷◌, ◌++◌}
use Prim.Native.Nat.{ℕ, ◌≤◌}
use native.Mathlib.Omega.{arith}
use Rattle.lists.specs.Lists.{All, all_of}
use Rattle.lists.proofs.BoolLaws.{both}
use Rattle.lists.proofs.ListLaws.{InOrder, all_map, all_append}

module _ {A : Type 0} where
  -- What holds always holds of each.
  pub all-each : {P : A → Type 0} → ((a : A) → P a) → (xs : List A) → All P xs
  all-each f [] = tt
  all-each f (x ∷ xs) = (f x, all-each f xs)

  -- What holds of two lists' elements holds of each list's.
  pub all-parts : (P : A → Type 0) (xs ys : List A) → All P (xs ++ ys) → All P xs × All P ys
  all-parts P [] ys q = (tt, q)
  all-parts P (x ∷ xs) ys q = let rest = all-parts P xs ys q.1 in ((q.0, rest.0), rest.1)

  -- A test that the whole list passes is passed by each.
  pub all_of-all : (p : A → Bool) (xs : List A) → all_of p xs ≡ true → All (λ x. p x ≡ true) xs
  all_of-all p [] h = tt
  all_of-all p (x ∷ xs) h = let b = both (p x) (all_of p xs) h in (b.0, all_of-all p xs b.1)

  -- Two lists in order, the one up to a number and the other from it on.
  pub order-append : (key : A → ℕ) (bound : ℕ) (xs ys : List A) → All (λ x. key x ≤ bound) xs → All (λ y. bound ≤ key y) ys
      → InOrder key xs → InOrder key ys → InOrder key (xs ++ ys)
  order-append key bound [] ys low high o q = q
  order-append key bound (x ∷ xs) ys low high o q =
      let l = low.0 in
      let later : All (λ y. key x ≤ key y) ys = all_map (λ y h. omega arith) ys high in
      (all_append (λ y. key x ≤ key y) xs ys o.0 later, order-append key bound xs ys low.1 high o.1 q)
