-- Functions of the library on lists, by which the code's iterators are told, are those that the definitions use.
use mathlib.Core.Path.{◌≡◌, refl, ap}
use mathlib.Core.Bool.{Bool, cond, ◌||◌}
use mathlib.Core.List.{List, [], ◌∷◌}
use Rattle.std.specs.Prelude.{Some}
use Rattle.std.specs.List.{filter, list_any}
use Rattle.std.specs.List.{last_or as code-last}
use Rattle.lists.specs.Lists.{keep, any_of, last_or}

module _ {A : Type 0} where
  pub filter_keep : (p : A → Bool) (xs : List A) → filter p xs ≡ keep p xs
  filter_keep p [] = refl
  filter_keep p (x ∷ xs) = ap (λ (l : List A). cond (p x) (x ∷ l) l) (filter_keep p xs)

  pub last-some : (x : A) (xs : List A) → code-last (Some x) xs ≡ Some (last_or x xs)
  last-some x [] = refl
  last-some x (y ∷ xs) = last-some y xs

  pub some_same : (p : A → Bool) (xs : List A) → list_any p xs ≡ any_of p xs
  some_same p [] = refl
  some_same p (x ∷ xs) = ap (λ b. p x || b) (some_same p xs)
