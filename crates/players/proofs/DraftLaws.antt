-- Drafts by an iterator: where they come from, and what chains over them give.
use mathlib.Core.Path.{◌≡◌, refl, ap, ◌∙◌}
use mathlib.Core.Bool.{Bool}
use mathlib.Core.List.{List, [], ◌∷◌, map}
use Prim.Native.Nat.{ℕ, ◌+◌, ◌<◌}
use native.Mathlib.Omega.{arith}
use denote.Param.Members.{Mut}
use denote.Ref.{Bor}
use lib.ListN.{length, take, get_or, length-map}
use Rattle.std.specs.Prelude as code
use Rattle.std.specs.Prelude.{Some, None}
use Rattle.std.specs.Fn.{CalledAt}
use Rattle.std.specs.Iterator.{Yields, Drains}
use Rattle.std.specs.Iterator.Adapters.{copied_source, copied_steps, filter_source, filter_callee, filter_steps}
use Rattle.std.specs.Slice.Iter.{iter_rest, iter_steps}
use Rattle.std.specs.declared.iter.Copied.{Copied}
use Rattle.std.specs.declared.iter.Filter.{Filter}
use Rattle.std.specs.declared.slice.Iter.{Iter}
use Rattle.std.proofs.lemmas.Iterator.{YieldsList, YieldsList-from_slice}
use Rattle.std.proofs.lemmas.Iterator.Consumers.{YieldsList-at, YieldsList-from_filter, YieldsList-from_copied, YieldsList-so_far, YieldsList-turn, YieldsList-end}
use Rattle.std.specs.List.{fold, sum_by}
use Rattle.lists.specs.Lists.{keep, sum_of}
use Rattle.lists.proofs.CodeLaws.{filter_keep}
use Rattle.players.specs.declared.drafts.Draft.{Draft}

module _ {A : Type 0} where
  pub sum_same : (f : A → ℕ) (xs : List A) → sum_by f xs ≡ sum_of f xs
  sum_same f xs = go 0 xs ∙ omega arith
    where
      go : (n : ℕ) (ys : List A) → fold (λ a x. a + f x) n ys ≡ n + sum_of f ys
      go n [] = omega arith
      go n (y ∷ ys) = let e : n + f y + sum_of f ys ≡ n + (f y + sum_of f ys) = omega arith in go (n + f y) ys ∙ e

-- ## What an iterator gives

-- The drafts that pass a test, lent or copied.
pub drafts-kept : {F : Type 0} {it : Iter Draft} {s : Filter (Iter Draft) F} (g : Mut F (Bor (Bor Draft) × Unit {0}) Bool) (p : Draft → Bool) {f : F} (ds : List Draft)
    → iter_rest it ≡ ds → filter_source s ≡ it → filter_callee s ≡ f → ((x : Bor Draft) (b : Bool) (q : F) → CalledAt g f x b q → (q ≡ f) × (b ≡ p x.now))
    → YieldsList (filter_steps iter_steps g) (λ d. d.now) s (keep p ds)
drafts-kept g p ds lent source callee called =
    rw (← filter_keep p ds) (YieldsList-from_filter g p (YieldsList-at source (YieldsList-from_slice ds lent)) callee called)

pub copies-kept : {F : Type 0} {it : Copied (Iter Draft)} {s : Filter (Copied (Iter Draft)) F} (g : Mut F (Bor Draft × Unit {0}) Bool) (p : Draft → Bool) {f : F} (ds : List Draft)
    → iter_rest (copied_source it) ≡ ds → filter_source s ≡ it → filter_callee s ≡ f → ((x : Draft) (b : Bool) (q : F) → CalledAt g f x b q → (q ≡ f) × (b ≡ p x))
    → YieldsList (filter_steps (copied_steps iter_steps) g) (λ d. d) s (keep p ds)
copies-kept g p ds lent source callee called =
    rw (← filter_keep p ds) (YieldsList-from_filter g p (YieldsList-at source (YieldsList-from_copied (YieldsList-from_slice ds lent))) callee called)

-- All that came is all that there is.
pub drained : {S A B : Type 0} {steps : S → code.Option A → S → Type 0} {v : A → B} {s : S} {all : List B} (xs : List A) → Drains steps s xs
    → YieldsList steps v s all → map v xs ≡ all
drained xs d road = (YieldsList-end road xs d.1.0 d.1.1 None d.0 refl d.1.2).0

-- An element comes behind those that came, and it is one of all.
pub record Placed {A : Type 0} (all came : List A) (x : A) : Type 0 where
  pub front : came ≡ take (length came) all
  pub inside : length came < length all
  pub here : x ≡ get_or all (length came) x

pub draft-placed : {S A B : Type 0} {steps : S → code.Option A → S → Type 0} {v : A → B} {s : S} {all : List B} → YieldsList steps v s all
    → (xs : List A) (t : S) → Yields steps s xs t → (r : code.Option A) (u : S) (x : A) → r ≡ Some x → steps t r u → Placed all (map v xs) (v x)
draft-placed {v} road xs t y r u x is step =
    let place = YieldsList-turn road xs t y r u x is step in
    let size : length (map v xs) ≡ length xs = length-map xs v in
    record { front = rw size (YieldsList-so_far road xs t y); inside = rw size place.0; here = rw size place.1 }
