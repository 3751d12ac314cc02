-- In keys in order those below a number stand first, so their count is where the others begin. The keys within two numbers begin there too.
use mathlib.Core.Path.{◌≡◌, refl, sym, ap, ◌∙◌}
use mathlib.Core.Bool.{Bool, true, false, ◌&&◌}
use mathlib.Core.List.{List, [], ◌∷◌, ◌++◌, map, append-nil}
use Prim.Native.Nat.{ℕ, zero, suc, ◌-◌, ◌≤◌, ◌<◌}
use native.Mathlib.Omega.{arith}
use borrow.Author.Tests.{ltb-true, ltb-false, lt-ltb, le-ltb, le-leb, lt-leb}
use lib.Dec.{leb, ltb}
use lib.ListN.{length, get_or, take, drop, drop_of_length-le}
use lib.Seq.{drop-cons, take-suc}
use Rattle.lists.specs.Lists.{All, keep, count_of, first_or, last_or}
use Rattle.lists.proofs.BoolLaws.{cases}
use Rattle.lists.proofs.ListLaws.{InOrder, all_map, keep-none, keep_append, count-le, count_none, map-append}
use Rattle.lists.proofs.ElementLaws.{all-inside, keep-both, keep-either, keep_same, last-behind}

-- ## The count of keys below a number

abbrev Up : List ℕ → Type 0
Up keys = InOrder (λ (k : ℕ). k) keys

order-drop : (keys : List ℕ) (i : ℕ) → Up keys → Up (drop i keys)
order-drop keys zero o = o
order-drop [] (suc i) o = tt
order-drop (k ∷ keys) (suc i) o = order-drop keys i o.1

order-front : (keys : List ℕ) (i : ℕ) → Up keys → i < length keys → All (λ k. k ≤ get_or keys i 0) (take i keys)
order-front keys zero o h = tt
order-front [] (suc i) o h = tt
order-front (k ∷ keys) (suc i) o h = (all-inside (λ j. k ≤ j) keys i 0 o.0 (omega arith), order-front keys i o.1 (omega arith))

module _ (x : ℕ) where
  abbrev below : ℕ → Bool
  below k = ltb k x

  not-below : (k : ℕ) → below k ≡ false → leb x k ≡ true
  not-below k g = le-leb x k (ltb-false k x g)

  all_above : (k : ℕ) (keys : List ℕ) → below k ≡ false → All (λ j. k ≤ j) keys → All (λ j. below j ≡ false) keys
  all_above k keys g q = let l : x ≤ k = ltb-false k x g in all_map (λ j m. le-ltb j x (omega arith)) keys q

  pub bound-up : (keys : List ℕ) (i : ℕ) → Up keys → i < length keys → get_or keys i 0 < x → i < count_of below keys
  bound-up [] i o h l = absurd (omega arith)
  bound-up (k ∷ keys) zero o h l = simp (lt-ltb k x l) (omega arith)
  bound-up (k ∷ keys) (suc i) o h l =
      let first : k ≤ get_or keys i 0 = all-inside (λ j. k ≤ j) keys i 0 o.0 (omega arith) in
      simp (lt-ltb k x (omega arith)) (omega (arith, bound-up keys i o.1 (omega arith) l))

  pub bound-down : (keys : List ℕ) (i : ℕ) → Up keys → i < length keys → x ≤ get_or keys i 0 → count_of below keys ≤ i
  bound-down [] i o h l = absurd (omega arith)
  bound-down (k ∷ keys) zero o h l =
      let g : below k ≡ false = le-ltb k x l in
      simp (g, count_none below keys (all_above k keys g o.0)) (omega arith)
  bound-down (k ∷ keys) (suc i) o h l =
      cases (below k)
      (λ g. simp g (omega (arith, bound-down keys i o.1 (omega arith) l)))
      (λ g. simp g (omega (arith, bound-down keys i o.1 (omega arith) l)))

  -- those that are not below it, and those that are
  all-kept : (keys : List ℕ) → All (λ j. below j ≡ false) keys → keep (λ k. leb x k) keys ≡ keys
  all-kept [] q = refl
  all-kept (k ∷ keys) q = simp (not-below k q.0) (ap (λ (l : List ℕ). k ∷ l) (all-kept keys q.1))

  pub bound-drop : (keys : List ℕ) → Up keys → keep (λ k. leb x k) keys ≡ drop (count_of below keys) keys
  bound-drop [] o = refl
  bound-drop (k ∷ keys) o =
      cases (below k)
      (λ g. simp (g, lt-leb x k (ltb-true k x g)) (bound-drop keys o.1))
      (λ g. let q = all_above k keys g o.0 in
      simp (g, not-below k g, count_none below keys q) (ap (λ (l : List ℕ). k ∷ l) (all-kept keys q)))

  pub bound-take : (keys : List ℕ) → Up keys → keep below keys ≡ take (count_of below keys) keys
  bound-take [] o = refl
  bound-take (k ∷ keys) o =
      cases (below k)
      (λ g. simp g (ap (λ (l : List ℕ). k ∷ l) (bound-take keys o.1)))
      (λ g. let q = all_above k keys g o.0 in
      simp (g, count_none below keys q) (keep-none below keys q))

-- ## The keys within two numbers

module _ (low high : ℕ) (keys : List ℕ) (o : Up keys) where
  abbrev inside : ℕ → Bool
  inside k = leb low k && ltb k high

  from_low : keep inside keys ≡ keep (λ k. ltb k high) (drop (count_of (λ k. ltb k low) keys) keys)
  from_low = keep-both (λ k. leb low k) (λ k. ltb k high) keys ∙ ap (keep (λ k. ltb k high)) (bound-drop low keys o)

  to_high : keep inside keys ≡ keep (λ k. leb low k) (take (count_of (λ k. ltb k high) keys) keys)
  to_high = keep-either (λ k. leb low k) (λ k. ltb k high) keys ∙ ap (keep (λ k. leb low k)) (bound-take high keys o)

  module _ (i : ℕ) (e : i ≡ count_of (λ k. ltb k low) keys) where
    pub first_past : length keys ≤ i → keep inside keys ≡ []
    first_past h = from_low ∙ rw (← e, drop_of_length-le keys {i = i} h)

    pub first_above : i < length keys → high ≤ get_or keys i 0 → keep inside keys ≡ []
    first_above h l =
        let behind : Up (get_or keys i 0 ∷ drop (suc i) keys) = rw (drop-cons keys i 0 h) at (order-drop keys i o) in
        from_low ∙ rw (← e, drop-cons keys i 0 h)
        (keep-none (λ k. ltb k high) (get_or keys i 0 ∷ drop (suc i) keys)
        (le-ltb (get_or keys i 0) high l, all_map (λ k g. le-ltb k high (omega arith)) (drop (suc i) keys) behind.0))

    pub first-there : {A : Type 0} (f : ℕ → A) (d : A) → i < length keys → get_or keys i 0 < high → first_or d (map f (keep inside keys)) ≡ f (get_or keys i 0)
    first-there f d h l = simp (from_low) (rw (← e, drop-cons keys i 0 h) (simp (lt-ltb (get_or keys i 0) high l)))

  module _ (i : ℕ) (e : i ≡ count_of (λ k. ltb k high) keys) where
    pub last_none : i ≡ 0 → keep inside keys ≡ []
    last_none h = to_high ∙ rw (← e, h)

    within-keys : i ≤ length keys
    within-keys = rw e (count-le (λ k. ltb k high) keys)

    before_last : 0 < i → keep inside keys ≡ keep (λ k. leb low k) (take (i - 1) keys) ++ keep (λ k. leb low k) (get_or keys (i - 1) 0 ∷ [])
    before_last h =
        let f : i ≡ suc (i - 1) = omega arith in
        let l : i - 1 < length keys = omega (arith, within-keys) in
        to_high
        ∙ ap (λ (n : ℕ). keep (λ k. leb low k) (take n keys)) (sym e ∙ f)
        ∙ ap (keep (λ k. leb low k)) (take-suc keys (i - 1) 0 l)
        ∙ keep_append (λ k. leb low k) (take (i - 1) keys) (get_or keys (i - 1) 0 ∷ [])

    pub last-below : 0 < i → get_or keys (i - 1) 0 < low → keep inside keys ≡ []
    last-below h l =
        before_last h
        ∙ simp (lt-leb low (get_or keys (i - 1) 0) l, append-nil)
        (keep-none (λ k. leb low k) (take (i - 1) keys)
        (all_map (λ k g. lt-leb low k (omega arith)) (take (i - 1) keys) (order-front keys (i - 1) o (omega (arith, within-keys)))))

    pub last-there : {A : Type 0} (f : ℕ → A) (d : A) → 0 < i → low ≤ get_or keys (i - 1) 0 → last_or d (map f (keep inside keys)) ≡ f (get_or keys (i - 1) 0)
    last-there f d h l =
        let kept = keep (λ k. leb low k) (take (i - 1) keys) in
        let all : keep inside keys ≡ kept ++ (get_or keys (i - 1) 0 ∷ []) = before_last h ∙ simp (le-leb low (get_or keys (i - 1) 0) l) in
        ap (λ (ks : List ℕ). last_or d (map f ks)) all
        ∙ ap (last_or d) (map-append f kept (get_or keys (i - 1) 0 ∷ []))
        ∙ last-behind d (f (get_or keys (i - 1) 0)) (map f kept)

-- They are a part: from the count of those below the one number up to the count of those below the other.
module _ (low high : ℕ) (h : low ≤ high) where
  abbrev pub between : List ℕ → List ℕ
  between keys = take (count_of (λ k. ltb k high) keys - count_of (λ k. ltb k low) keys) (drop (count_of (λ k. ltb k low) keys) keys)

  abbrev ranged : ℕ → Bool
  ranged k = leb low k && ltb k high

  first-within : (keys : List ℕ) → Up keys → All (λ j. low ≤ j) keys → between keys ≡ keep ranged keys
  first-within keys o up =
      let none : count_of (λ k. ltb k low) keys ≡ 0 = count_none (λ k. ltb k low) keys (all_map (λ j m. le-ltb j low m) keys up) in
      let all : count_of (λ k. ltb k high) keys - 0 ≡ count_of (λ k. ltb k high) keys = omega arith in
      ap (λ (n : ℕ). take (count_of (λ k. ltb k high) keys - n) (drop n keys)) none
      ∙ ap (λ (n : ℕ). take n keys) all
      ∙ sym (bound-take high keys o)
      ∙ keep_same (λ k. ltb k high) ranged keys (all_map {Q = λ j. ltb j high ≡ ranged j} (λ j m. simp (le-leb low j m)) keys up)

  pub part-within : (keys : List ℕ) → Up keys → between keys ≡ keep (λ k. leb low k && ltb k high) keys
  part-within [] o = refl
  part-within (k ∷ keys) o =
      let a = count_of (λ j. ltb j high) keys in
      let b = count_of (λ j. ltb j low) keys in
      let less : suc a - suc b ≡ a - b = omega arith in
      cases (ltb k low)
      (λ g. let l = ltb-true k low g in
      simp (g, lt-ltb k high (omega arith), lt-leb low k l, less) (part-within keys o.1))
      (λ g. let l = ltb-false k low g in
      let up : All (λ j. low ≤ j) (k ∷ keys) = (l, all_map (λ j m. omega arith) keys o.0) in
      first-within (k ∷ keys) o up)
