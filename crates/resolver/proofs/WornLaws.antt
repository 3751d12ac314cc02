-- The tag worn so far, entry by entry; and what is answered of the nation of a claim, by case.
use mathlib.Core.Path.{◌≡◌, refl, ap, ◌∙◌}
use mathlib.Core.Bool.{true, false}
use mathlib.Core.List.{List, [], ◌∷◌, ◌++◌}
use mathlib.Core.Option.{Option, none, some}
use Rattle.lists.specs.Lists.{leading, last_or, last, or_else}
use Rattle.format.specs.declared.tag.CountryTag.{CountryTag}
use Rattle.format.specs.declared.date.Eu4Date.{Eu4Date}
use Rattle.format.specs.Dates.{not_after}
use Rattle.format.specs.declared.values.Entry.{Entry}
use Rattle.rules.specs.Nations.{kind_target, targets}

-- ## Entry by entry

last-append : {A : Type 0} (xs ys : List A) → last (xs ++ ys) ≡ or_else (last ys) (last xs)
last-append [] [] = refl
last-append [] (y ∷ ys) = refl
last-append (x ∷ xs) ys = go x xs ys
  where
    go : {A : Type 0} (x : A) (xs ys : List A) → some (last_or x (xs ++ ys)) ≡ or_else (last ys) (some (last_or x xs))
    go x [] [] = refl
    go x [] (y ∷ ys) = refl
    go x (z ∷ xs) ys = go z xs ys

or-or : {A : Type 0} (a b c : Option A) → or_else (or_else a b) c ≡ or_else a (or_else b c)
or-or none b c = refl
or-or (some x) b c = refl

module _ (day : Eu4Date) where
  -- What entries tell of the tag worn behind them, which was `so_far` before them.
  abbrev pub worn_along : List Entry → Option CountryTag → Option CountryTag
  worn_along es so_far = or_else (last (targets (leading (λ e. not_after e.date day) es))) so_far

  pub worn_start : (es : List Entry) → worn_along es none ≡ last (targets (leading (λ e. not_after e.date day) es))
  worn_start es = go (last (targets (leading (λ e. not_after e.date day) es)))
    where
      go : (a : Option CountryTag) → or_else a none ≡ a
      go none = refl
      go (some x) = refl

  -- The first of them, and whether it is dated not after the day.
  module _ (e : Entry) (es : List Entry) (so_far : Option CountryTag) where
    pub worn_stop : not_after e.date day ≡ false → worn_along (e ∷ es) so_far ≡ so_far
    worn_stop h = rw h

    pub worn_next : not_after e.date day ≡ true → worn_along (e ∷ es) so_far ≡ worn_along es (or_else (last (kind_target e.kind)) so_far)
    worn_next h =
        let rest : List CountryTag = targets (leading (λ x. not_after x.date day) es) in
        rw h (ap (λ (o : Option CountryTag). or_else o so_far) (last-append (kind_target e.kind) rest) ∙ or-or (last rest) (last (kind_target e.kind)) so_far)

pub ruleset worn = (worn_start, worn_stop, worn_next)
