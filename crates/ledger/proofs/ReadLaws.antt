-- The points that a span reads, as the library's `skip_while` and `take_while` give them.
use mathlib.Core.Path.{◌≡◌, refl, sym, ap, ◌∙◌}
use mathlib.Core.Bool.{Bool, true, false, cond}
use mathlib.Core.List.{List, [], ◌∷◌}
use Prim.Native.Nat.{ℕ, suc, ◌+◌}
use native.Mathlib.Omega.{arith}
use lib.Dec.{leb, ltb}
use lib.ListN.{take, drop}
use denote.Param.Members.{Mut}
use denote.Ref.{Bor}
use Rattle.std.specs.Prelude as code
use Rattle.std.specs.Prelude.{None}
use Rattle.std.specs.Fn.{CalledAt}
use Rattle.std.specs.Iterator.{YieldsFirst, Yields}
use Rattle.std.specs.Iterator.Adapters.{skip_while_source, skip_while_callee, skip_while_done_skipping, skip_while_steps, take_while_source, take_while_callee, take_while_done, take_while_steps}
use Rattle.std.specs.List.{prefix_len}
use Rattle.std.specs.declared.iter.SkipWhile.{SkipWhile}
use Rattle.std.specs.declared.iter.TakeWhile.{TakeWhile}
use Rattle.std.proofs.lemmas.Iterator.Adapters.{YieldsList-from_skip_while}
use Rattle.std.proofs.lemmas.Iterator.Consumers.{YieldsList-from_first, YieldsList-at, YieldsList-end}
use Rattle.std.proofs.lemmas.Iterator.Search.{YieldsList-from_take_while}
use Rattle.std.proofs.lemmas.List.{map-id}
use Rattle.lists.specs.Lists.{leading, skipping}
use Rattle.format.specs.declared.rows.Point.{Point}
use Rattle.format.specs.Dates.{year}
use Rattle.record.specs.Cursors.{Points, points_left}
use Rattle.format.specs.declared.values.Span.{Span}
use Rattle.rules.specs.Ledger.{within}

module _ {A : Type 0} (p : A → Bool) where
  lead : (xs : List A) → take (prefix_len p xs) xs ≡ leading p xs
  lead [] = refl
  lead (x ∷ xs) =
      elim (p x) as (λ b. take (cond b (1 + prefix_len p xs) 0) (x ∷ xs) ≡ cond b (x ∷ leading p xs) []) [
        | true ↦ let one : 1 + prefix_len p xs ≡ suc (prefix_len p xs) = omega arith in rw one (ap (λ (l : List A). x ∷ l) (lead xs))
        | false ↦ refl
      ]

  skip : (xs : List A) → drop (prefix_len p xs) xs ≡ skipping p xs
  skip [] = refl
  skip (x ∷ xs) =
      elim (p x) as (λ b. drop (cond b (1 + prefix_len p xs) 0) (x ∷ xs) ≡ cond b (skipping p xs) (x ∷ xs)) [
        | true ↦ let one : 1 + prefix_len p xs ≡ suc (prefix_len p xs) = omega arith in rw one (skip xs)
        | false ↦ refl
      ]

-- For a first and a last year.
abbrev pub older : ℕ → Point → Bool
older first p = ltb p.year first

abbrev pub in_time : ℕ → Point → Bool
in_time last p = leb p.year last

read : (s : Span) (ps : List Point) (first last : ℕ) → first ≡ year s.start → last ≡ year s.end
    → take (prefix_len (in_time last) (drop (prefix_len (older first) ps) ps)) (drop (prefix_len (older first) ps) ps) ≡ within s ps
read s ps first last e f = lead (in_time last) _ ∙ rw (skip (older first) ps, e, f)

-- A loop over the points of a row that passes over the older ones and stops behind the last in time has read, at its end, what the span reads.
pub read-all : {F G : Type 0} {g : Mut F (Bor Point × Unit {0}) Bool} {h : Mut G (Bor Point × Unit {0}) Bool}
    → (sp : Span) (points : Points) (first last : ℕ) → first ≡ year sp.start → last ≡ year sp.end
    → (s : SkipWhile Points F) {f : F} → skip_while_source s ≡ points → skip_while_callee s ≡ f → skip_while_done_skipping s ≡ false
    → (t : TakeWhile (SkipWhile Points F) G) {e : G} → take_while_source t ≡ s → take_while_callee t ≡ e → take_while_done t ≡ false
    → (it at : TakeWhile (SkipWhile Points F) G) → it ≡ t → (yielded : List Point)
    → Yields (take_while_steps (skip_while_steps (YieldsFirst points_left) g) h) it yielded at
    → (r : code.Option Point) (u : TakeWhile (SkipWhile Points F) G) → r ≡ None
    → take_while_steps (skip_while_steps (YieldsFirst points_left) g) h at r u
    → ((x : Point) (b : Bool) (q : F) → CalledAt g f x b q → (q ≡ f) × (b ≡ older first x))
    → ((x : Point) (b : Bool) (q : G) → CalledAt h e x b q → (q ≡ e) × (b ≡ in_time last x))
    → yielded ≡ within sp (points_left points)
read-all {g} {h} sp points first last a b s source callee fresh t source₁ callee₁ fresh₁ it at same yielded y r u none end k l =
    let skipped = YieldsList-from_skip_while _ (λ x. x) g (older first) _ k (YieldsList-at source (YieldsList-from_first (λ x. x) points_left _ refl)) callee fresh in
    let road = YieldsList-from_take_while h (in_time last) (YieldsList-at source₁ skipped) callee₁ fresh₁ l in
    let all = YieldsList-end (YieldsList-at same road) yielded at y r u none end in
    sym (map-id yielded) ∙ all.0 ∙ read sp (points_left points) first last a b
