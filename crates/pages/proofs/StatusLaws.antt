-- Living along the entries is living by the rule.
use mathlib.Core.Path.{◌≡◌, refl, ap, ◌∙◌}
use mathlib.Core.Bool.{Bool, true, false, not, ◌||◌}
use mathlib.Core.List.{List, [], ◌∷◌}
use mathlib.Core.Option.{Option, none, some}
use Rattle.lists.specs.Lists.{keep, last, last_or}
use Rattle.format.specs.declared.date.Eu4Date.{Eu4Date}
use Rattle.format.specs.declared.values.EntryKind.{EntryKind}
use Rattle.format.specs.declared.values.Entry.{Entry}
use Rattle.format.specs.declared.values.EntryKind.TheVariants.{TagSwitch, Appeared, Annexed}
use Rattle.rules.specs.Chronicle.{is_appeared, is_annexed, Nation}
use Rattle.rules.specs.Page.{ends_annexed, is_living}
use Rattle.pages.specs.Status.{lives_on, lives_along}

abbrev tells : Entry → Bool
tells e = is_appeared e.kind || is_annexed e.kind

-- By the last entry that tells, or what it was before.
abbrev told : Bool → Option Entry → Bool
told living none = living
told living (some e) = not (is_annexed e.kind)

-- An entry that tells stands before others.
told-first : (living : Bool) (e : Entry) (ks : List Entry) → told (not (is_annexed e.kind)) (last ks) ≡ told living (some (last_or e ks))
told-first living e [] = refl
told-first living e (k ∷ ks) = refl

module _ (d : Eu4Date) (es : List Entry) (others : (b : Bool) → lives_along b es ≡ told b (last (keep tells es))) where
  along_one : (living : Bool) (k : EntryKind)
      → lives_along (lives_on living k) es ≡ told living (last (keep tells (record { date = d; kind = k } ∷ es)))
  along_one living (TagSwitch t) = others living
  along_one living Appeared = others true ∙ told-first living (record { date = d; kind = Appeared }) (keep tells es)
  along_one living Annexed = others false ∙ told-first living (record { date = d; kind = Annexed }) (keep tells es)

along : (es : List Entry) (living : Bool) → lives_along living es ≡ told living (last (keep tells es))
along [] living = refl
along (e ∷ es) living = along_one e.date es (along es) living e.kind

whole : (o : Option Entry) → told true o ≡ not (ends_annexed o)
whole none = refl
whole (some e) = refl

-- Along the entries of a nation.
pub living_along : (n : Nation) (es : List Entry) → es ≡ n.entries → lives_along true es ≡ is_living n
unfolding is_living
living_along n es e = ap (lives_along true) e ∙ along n.entries true ∙ whole (last (keep tells n.entries))
