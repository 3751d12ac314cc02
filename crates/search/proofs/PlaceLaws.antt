-- Keys of tags with their numbers: the lowest key of a tag is that of the first element with it. And what a caller knows of a place.
use mathlib.Core.Path.{◌≡◌, refl, sym, ap, ◌∙◌}
use mathlib.Core.Bool.{Bool, true, false}
use mathlib.Core.List.{List, [], ◌∷◌, map}
use mathlib.Core.Option
use mathlib.Core.Option.{Option, none, some, none-ne-some, some-injective}
use Prim.Native.Nat.{ℕ, suc, ◌+◌, ◌-◌, ◌*◌, ◌/◌, ◌%◌, ◌≤◌, ◌<◌}
use native.Mathlib.Omega.{arith}
use borrow.Author.Tests.{leb-true, ltb-true, ltb-false, le-leb, lt-ltb, eqb-true, eq-eqb}
use lib.Dec.{leb, ltb}
use lib.ListN.{length, get_or}
use Rattle.std.specs.Bool.{then_some}
use Rattle.lists.specs.Lists.{All, keep, count_of, first_or, first_that}
use Rattle.lists.specs.Options.{option_of}
use Rattle.lists.proofs.BoolLaws.{cases, clash, both}
use Rattle.lists.proofs.ListLaws.{all_map}
use Rattle.lists.proofs.BoundLaws.{first_past, first_above, first-there}
use Rattle.sorting.specs.Sort.{sort_by}
use Rattle.sorting.proofs.SortLaws.{Ordered, sort-ordered, keep-sort, leb-total, leb-trans}
use Rattle.sorting.proofs.SortedKeyLaws.{sorted-up}
use Rattle.format.specs.declared.tag.CountryTag.{CountryTag}
use Rattle.format.specs.Tags.{same_tag}
use Rattle.search.specs.Halving.{count_below}
use Rattle.search.specs.Places.{tag_key, tag_keys_from, place_from, place_in, is_key_of, keys_per_tag}

-- ## The keys of a list of tags

pub tag-keys-nil : (k : ℕ) → tag_keys_from k [] ≡ []
unfolding tag_keys_from
tag-keys-nil k = refl

pub tag-keys-cons : (k : ℕ) (t : CountryTag) (ts : List CountryTag) → tag_keys_from k (t ∷ ts) ≡ tag_key t k ∷ tag_keys_from (k + 1) ts
unfolding tag_keys_from
tag-keys-cons k t ts = refl

pub length-tag-keys : (k : ℕ) (ts : List CountryTag) → length (tag_keys_from k ts) ≡ length ts
unfolding tag_keys_from
length-tag-keys k [] = refl
length-tag-keys k (t ∷ ts) = ap suc (length-tag-keys (k + 1) ts)

-- ## The keys of one tag

module _ (t : CountryTag) where
  abbrev low : ℕ
  low = tag_key t 0

  abbrev is_key : ℕ → Bool
  is_key x = is_key_of t x

  key-same : (x : CountryTag) (k : ℕ) → k < keys_per_tag → same_tag x t ≡ true → is_key (tag_key x k) ≡ true
  key-same x k h e =
      let q = eqb-true x.0 t.0 e in
      let a : leb low (tag_key x k) ≡ true = le-leb low (tag_key x k) (omega arith) in
      let b : ltb (tag_key x k) (low + keys_per_tag) ≡ true = lt-ltb (tag_key x k) (low + keys_per_tag) (omega arith) in
      simp (a, b)

  key-other : (x : CountryTag) (k : ℕ) → k < keys_per_tag → same_tag x t ≡ false → is_key (tag_key x k) ≡ false
  key-other x k h e =
      cases (is_key (tag_key x k))
      (λ g. let p = both (leb low (tag_key x k)) (ltb (tag_key x k) (low + keys_per_tag)) g in
      let a = leb-true low (tag_key x k) p.0 in
      let b = ltb-true (tag_key x k) (low + keys_per_tag) p.1 in
      clash (same_tag x t) (eq-eqb x.0 t.0 (omega arith)) e)
      (λ g. g)

  key-number : (x : CountryTag) (k : ℕ) → k < keys_per_tag → same_tag x t ≡ true → tag_key x k % keys_per_tag ≡ k
  key-number x k h e = omega arith

  keys-from : (k : ℕ) (ts : List CountryTag) → k + length ts ≤ keys_per_tag → All (λ x. low + k ≤ x) (keep is_key (tag_keys_from k ts))
  unfolding tag_keys_from
  keys-from k [] h = tt
  keys-from k (x ∷ ts) h =
      let rest : All (λ x. low + k ≤ x) (keep is_key (tag_keys_from (k + 1) ts)) = all_map (λ y g. omega arith) (keep is_key (tag_keys_from (k + 1) ts)) (keys-from (k + 1) ts (omega arith)) in
      cases (same_tag x t)
      (λ e. let q = eqb-true x.0 t.0 e in simp (key-same x k (omega arith) e) (omega arith, rest))
      (λ e. simp (key-other x k (omega arith) e) rest)

  keys-ordered : (k : ℕ) (ts : List CountryTag) → k + length ts ≤ keys_per_tag → Ordered leb (keep is_key (tag_keys_from k ts))
  unfolding tag_keys_from
  keys-ordered k [] h = tt
  keys-ordered k (x ∷ ts) h =
      let rest = keys-ordered (k + 1) ts (omega arith) in
      cases (same_tag x t)
      (λ e. let q = eqb-true x.0 t.0 e in
      simp (key-same x k (omega arith) e)
      (all_map (λ y g. le-leb (tag_key x k) y (omega arith)) (keep is_key (tag_keys_from (k + 1) ts)) (keys-from (k + 1) ts (omega arith)), rest))
      (λ e. simp (key-other x k (omega arith) e) rest)

  -- The first key of the tag has the number of the first element.
  first-number : (k : ℕ) (ts : List CountryTag) → k + length ts ≤ keys_per_tag
      → first_or none (map (λ x. some (x % keys_per_tag)) (keep is_key (tag_keys_from k ts))) ≡ place_from k t ts
  unfolding tag_keys_from place_from
  first-number k [] h = refl
  first-number k (x ∷ ts) h =
      cases (same_tag x t)
      (λ e. simp (e, key-same x k (omega arith) e, key-number x k (omega arith) e))
      (λ e. simp (e, key-other x k (omega arith) e) (first-number (k + 1) ts (omega arith)))

-- ## The place among keys

first-kept : (p : ℕ → Bool) (keys : List ℕ)
    → first_or none (map (λ x. some (x % keys_per_tag)) (keep p keys)) ≡ Option.map (λ x. x % keys_per_tag) (first_that p keys)
first-kept p [] = refl
first-kept p (x ∷ xs) = cases (p x) (λ e. simp e) (λ e. simp e (first-kept p xs))

-- Among the sorted keys of tags it is the first of these tags that is the given one.
pub place-among : (t : CountryTag) (ts : List CountryTag) → length ts ≤ keys_per_tag → (keys : List ℕ) → keys ≡ sort_by leb (tag_keys_from 0 ts)
    → place_in keys t ≡ place_from 0 t ts
unfolding place_in
place-among t ts few keys sorted =
    sym (first-kept (is_key_of t) keys)
    ∙ ap (λ (ks : List ℕ). first_or none (map (λ x. some (x % keys_per_tag)) ks))
    (ap (keep (is_key_of t)) sorted
    ∙ keep-sort leb leb-total leb-trans (is_key_of t) (tag_keys_from 0 ts)
    ∙ sort-ordered leb (keep (is_key_of t) (tag_keys_from 0 ts)) (keys-ordered t 0 ts (omega arith)))
    ∙ first-number t 0 ts (omega arith)

-- ## The place that a search finds

module _ (t : CountryTag) (keys : List ℕ) (sorted : sort_by leb keys ≡ keys)
    (lowest : ℕ) (first_of_tag : lowest ≡ tag_key t 0) (i : ℕ) (counted : i ≡ count_below (lowest / 2 * 2) keys) where
  first_key : first_or none (map (λ x. some (x % keys_per_tag)) (keep (is_key_of t) keys)) ≡ place_in keys t
  unfolding place_in
  first_key = first-kept (is_key_of t) keys

  abbrev first : List ℕ → Option ℕ
  first ks = first_or none (map (λ x. some (x % keys_per_tag)) ks)

  below : i ≡ count_of (λ k. ltb k (tag_key t 0)) keys
  below = let e : lowest / 2 * 2 ≡ tag_key t 0 = omega arith in rw e at counted

  pub placed_past : length keys ≤ i → none ≡ place_in keys t
  placed_past h = sym (ap first (first_past (low t) (low t + keys_per_tag) keys (sorted-up keys sorted) i below h)) ∙ first_key

  -- The key that stands there is the tag's, if it is below those of the next tag.
  pub placed-key : (key : ℕ) → i < length keys → key ≡ get_or keys i 0 → option_of (then_some (ltb key (lowest + keys_per_tag)) (key % keys_per_tag)) ≡ place_in keys t
  placed-key key h e =
      cases (ltb key (lowest + keys_per_tag))
      (λ g. let l = ltb-true key (lowest + keys_per_tag) g in
      simp g (rw e (sym (first-there (low t) (low t + keys_per_tag) keys (sorted-up keys sorted) i below (λ x. some (x % keys_per_tag)) none h (omega arith)) ∙ first_key)))
      (λ g. let l = ltb-false key (lowest + keys_per_tag) g in
      simp g (sym (ap first (first_above (low t) (low t + keys_per_tag) keys (sorted-up keys sorted) i below h (omega arith))) ∙ first_key))

-- ## What a caller knows of a place

place-later : (k : ℕ) (t : CountryTag) (ts : List CountryTag) → place_from (k + 1) t ts ≡ Option.map suc (place_from k t ts)
unfolding place_from
place-later k t [] = refl
place-later k t (x ∷ ts) = cases (same_tag x t) (λ e. simp e (ap some (omega arith))) (λ e. simp e (place-later (k + 1) t ts))

-- The first element with a tag stands at the place.
pub first-placed : {A : Type 0} (f : A → CountryTag) (t : CountryTag) (d : A) (xs : List A)
    → first_that (λ x. same_tag (f x) t) xs ≡ Option.map (λ i. get_or xs i d) (place_from 0 t (map f xs))
unfolding place_from
first-placed f t d [] = refl
first-placed f t d (x ∷ xs) =
    cases (same_tag (f x) t)
    (λ e. simp e)
    (λ e. simp e (first-placed f t d xs ∙ later (place_from 0 t (map f xs)) ∙ sym (ap (Option.map (λ i. get_or (x ∷ xs) i d)) (place-later 0 t (map f xs)))))
  where
    later : (o : Option ℕ) → Option.map (λ i. get_or xs i d) o ≡ Option.map (λ i. get_or (x ∷ xs) i d) (Option.map suc o)
    later none = refl
    later (some i) = refl

place-within : (k : ℕ) (t : CountryTag) (ts : List CountryTag) (i : ℕ) → place_from k t ts ≡ some i → (k ≤ i) × (i < k + length ts)
unfolding place_from
place-within k t [] i e = absurd (none-ne-some i e)
place-within k t (x ∷ ts) i e =
    cases (same_tag x t)
    (λ h. let q = some-injective k i (simp h at e) in (omega arith, omega arith))
    (λ h. let rest = place-within (k + 1) t ts i (simp h at e) in (omega (arith, rest.0), omega (arith, rest.1)))

-- It lies inside.
pub place_inside : (t : CountryTag) (ts : List CountryTag) (i : ℕ) → place_from 0 t ts ≡ some i → i < length ts
place_inside t ts i e = omega (arith, (place-within 0 t ts i e).1)

place-has-from : (k : ℕ) (t : CountryTag) (ts : List CountryTag) (i : ℕ) (d : CountryTag) → place_from k t ts ≡ some i → get_or ts (i - k) d ≡ t
unfolding place_from
place-has-from k t [] i d e = absurd (none-ne-some i e)
place-has-from k t (x ∷ ts) i d e =
    cases (same_tag x t)
    (λ h. let q = some-injective k i (simp h at e) in
    let z : i - k ≡ 0 = omega arith in rw z (ap (λ (w : ℕ). record { 0 = w }) (eqb-true x.0 t.0 h)))
    (λ h. let e' : place_from (k + 1) t ts ≡ some i = simp h at e in
    let b = (place-within (k + 1) t ts i e').0 in
    let z : i - k ≡ suc (i - (k + 1)) = omega arith in rw z (place-has-from (k + 1) t ts i d e'))

-- What stands there is the tag.
pub place-has : (t : CountryTag) (ts : List CountryTag) (i : ℕ) (d : CountryTag) → place_from 0 t ts ≡ some i → get_or ts i d ≡ t
place-has t ts i d e = let z : i - 0 ≡ i = omega arith in rw z at (place-has-from 0 t ts i d e)
