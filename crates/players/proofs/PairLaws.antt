-- Strings in pairs, and names that are compared.
use mathlib.Core.Path.{◌≡◌, refl, ap, ◌∙◌}
use mathlib.Core.Bool.{◌&&◌}
use mathlib.Core.List.{List, [], ◌∷◌}
use Prim.Native.Nat.{ℕ, ◌+◌}
use lib.Dec.{eqb}
use lib.Pointwise.{pointwise}
use Rattle.lists.specs.Lists.{same_numbers}
use Rattle.rules.specs.Players.{pairs_from}

-- No string, a name alone, or a name and a text behind it.
pub pairs_none : (n : ℕ) (ss : List (List ℕ)) → ss ≡ [] → pairs_from n ss ≡ []
unfolding pairs_from
pairs_none n ss e = ap (pairs_from n) e

pub pairs_odd : (n : ℕ) (ss behind : List (List ℕ)) (name : List ℕ) → ss ≡ name ∷ behind → behind ≡ [] → pairs_from n ss ≡ []
unfolding pairs_from
pairs_odd n ss behind name e f = ap (pairs_from n) (e ∙ ap (λ l. name ∷ l) f)

pub pairs_next : (n : ℕ) (ss behind rest : List (List ℕ)) (name text : List ℕ) → ss ≡ name ∷ behind → behind ≡ text ∷ rest
    → pairs_from n ss ≡ record { number = n; name = name; text = text } ∷ pairs_from (n + 2) rest
unfolding pairs_from
pairs_next n ss behind rest name text e f = ap (pairs_from n) (e ∙ ap (λ l. name ∷ l) f)

pub ruleset pairs = (pairs_none, pairs_odd, pairs_next)

-- Slices of bytes are compared as lists of numbers are.
pub same_bytes : (xs ys : List ℕ) → pointwise eqb xs ys ≡ same_numbers xs ys
same_bytes [] [] = refl
same_bytes [] (y ∷ ys) = refl
same_bytes (x ∷ xs) [] = refl
same_bytes (x ∷ xs) (y ∷ ys) = ap (λ b. eqb x y && b) (same_bytes xs ys)
