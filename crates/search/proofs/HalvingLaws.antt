-- A search among keys: the count of those below a number stays enclosed while the two ends move together. And the table of starts, cell by cell.
use mathlib.Core.Path.{◌≡◌, refl, sym, ap, ◌∙◌}
use mathlib.Core.Bool.{Bool, true}
use mathlib.Core.List.{List, [], ◌∷◌, map}
use Prim.Native.Nat.{ℕ, zero, suc, ◌+◌, ◌-◌, ◌*◌, ◌/◌, ◌<◌, ◌≤◌}
use native.Mathlib.Omega.{arith}
use borrow.Author.Tests.{leb-true, ltb-true, ltb-false, lt-ltb, le-ltb}
use lib.Dec.{leb, ltb}
use lib.ListN.{length, get_or, take, drop, length-take, length-drop, take-append-drop}
use lib.Seq.{take_all, drop-drop}
use denote.Ref.{Bor}
use Rattle.std.specs.Prelude as code
use Rattle.std.specs.Prelude.{Some, None, slice_get, option_copied}
use Rattle.std.specs.List.{prefix_len, slice_range}
use Rattle.std.proofs.lemmas.Option.{none-some, same_Some, slice_get-get_or}
use Rattle.lists.specs.Lists.{count_of, leading, numbers_from}
use Rattle.lists.proofs.BoolLaws.{cases}
use Rattle.lists.proofs.ListLaws.{all_take, count-append, count-le, count_none}
use Rattle.lists.proofs.EachLaws.{all-each}
use Rattle.lists.proofs.BoundLaws.{bound-up, bound-down}
use Rattle.sorting.specs.Sort.{sort_by}
use Rattle.sorting.proofs.SortLaws.{Ordered, sort-ordered, ordered-sort, leb-total, leb-trans}
use Rattle.sorting.proofs.SortedKeyLaws.{sorted-up}
use Rattle.search.specs.Halving.{CountsBelow, in_cell_before, starts_of, keys_per_cell}

-- ## One of two products

-- A factor of 0 or 1.
pub factor-none : (b h : ℕ) → b ≡ 0 → b * h ≡ 0
factor-none b h e = rw e (omega arith)

pub factor-one : (b h : ℕ) → b ≡ 1 → b * h ≡ h
factor-one b h e = rw e (omega arith)

pub factor-most : (b h : ℕ) → b < 2 → b * h ≤ h
factor-most zero h l = omega arith
factor-most (suc zero) h l = omega arith
factor-most (suc (suc b)) h l = absurd (omega arith)

-- ## The count enclosed

-- Between two numbers, neither above the number of keys, lies how many keys are below x, if they are in order.
pub record Encloses (keys : List ℕ) (x from end : ℕ) : Type 0 where
  pub rising : from ≤ end
  pub inside : end ≤ length keys
  pub low : sort_by leb keys ≡ keys → from ≤ count_of (λ k. ltb k x) keys
  pub high : sort_by leb keys ≡ keys → count_of (λ k. ltb k x) keys ≤ end

pub encloses-all : (keys : List ℕ) (x : ℕ) → Encloses keys x 0 (0 + length keys)
encloses-all keys x =
    record { rising = omega arith; inside = omega arith; low = λ s. omega arith; high = λ s. omega (arith, count-le (λ k. ltb k x) keys) }

pub encloses-one : (keys : List ℕ) (x from end : ℕ) → Encloses keys x from end → from ≡ end → CountsBelow keys x from
encloses-one keys x from end e q =
    record {
      inside = omega (arith, e.inside);
      counted = λ s. omega (arith, e.low s, e.high s);
    }

-- Below 0 is none.
pub none_below : (keys : List ℕ) (x : ℕ) → x < 2 → CountsBelow keys (x / 2 * 2) 0
none_below keys x h =
    let e : x / 2 * 2 ≡ 0 = omega arith in
    rw e (record { inside = omega arith; counted = λ s. sym (count_none (λ k. ltb k 0) keys (all-each (λ k. le-ltb k 0 (omega arith)) keys)) })

-- The key in the middle tells which half the count lies in.
module _ (keys : List ℕ) (x base size half mid top r : ℕ) (e : Encloses keys (x / 2 * 2 + 2) base (base + size)) (some : 0 < half) (most : half ≤ size)
    (even : 2 * half ≤ size + 1) (m : mid ≡ base + half - 1) (t : top ≡ x / 2 + 9223372036854775808)
    (on : get_or keys mid 0 / 2 + 9223372036854775808 ≤ top → r ≡ half) (off : top < get_or keys mid 0 / 2 + 9223372036854775808 → r ≡ 0) where
  abbrev middle : ℕ
  middle = get_or keys mid 0

  pub halved : Encloses keys (x / 2 * 2 + 2) (base + r) (base + r + (size - half))
  halved =
      cases (ltb top (middle / 2 + 9223372036854775808))
      (λ g. let l = ltb-true top (middle / 2 + 9223372036854775808) g in
      let z = off l in
      record {
        rising = omega arith;
        inside = omega (arith, e.inside);
        low = λ s. omega (arith, e.low s);
        high = λ s. omega (arith, bound-down (x / 2 * 2 + 2) keys mid (sorted-up keys s) (omega (arith, e.inside)) (omega arith));
      })
      (λ g. let l = ltb-false top (middle / 2 + 9223372036854775808) g in
      let z = on l in
      record {
        rising = omega arith;
        inside = omega (arith, e.inside);
        low = λ s. omega (arith, bound-up (x / 2 * 2 + 2) keys mid (sorted-up keys s) (omega (arith, e.inside)) (omega arith));
        high = λ s. omega (arith, e.high s);
      })

-- ## The count between two hints

-- What is shown of the key that a slice gives at a place holds of the key there.
pub shown-at : (keys : List ℕ) (i : ℕ) (test : ℕ → Bool) (r : Bool) (o : code.Option (Bor ℕ)) → option_copied o ≡ slice_get keys i
    → ((k : Bor ℕ) → o ≡ Some k → r ≡ test k.now) → r ≡ true → i < length keys → test (get_or keys i 0) ≡ true
shown-at keys i test r None e f t h = absurd (none-some (get_or keys i 0) (e ∙ slice_get-get_or keys i 0 h))
shown-at keys i test r (Some k) e f t h =
    let same : k.now ≡ get_or keys i 0 = same_Some k.now (get_or keys i 0) (e ∙ slice_get-get_or keys i 0 h) in rw same at (sym (f k refl) ∙ t)

-- The last key shows that all are at most x, the first that all are above.
pub shown-least : (keys : List ℕ) (x : ℕ) → (length keys - 1 < length keys → leb (get_or keys (length keys - 1) 0) x ≡ true) → sort_by leb keys ≡ keys
    → length keys ≤ count_of (λ k. ltb k (x / 2 * 2 + 2)) keys
shown-least [] x f s = omega arith
shown-least (key ∷ keys) x f s =
    let i = length (key ∷ keys) - 1 in
    let l = leb-true (get_or (key ∷ keys) i 0) x (f (omega arith)) in
    omega (arith, bound-up (x / 2 * 2 + 2) (key ∷ keys) i (sorted-up (key ∷ keys) s) (omega arith) (omega arith))

pub shown-most : (keys : List ℕ) (x : ℕ) → (0 < length keys → ltb (x / 2) (get_or keys 0 0 / 2) ≡ true) → sort_by leb keys ≡ keys
    → count_of (λ k. ltb k (x / 2 * 2 + 2)) keys ≤ 0
shown-most [] x f s = omega arith
shown-most (key ∷ keys) x f s =
    let l = ltb-true (x / 2) (key / 2) (f (omega arith)) in
    bound-down (x / 2 * 2 + 2) (key ∷ keys) 0 (sorted-up (key ∷ keys) s) (omega arith) (omega arith)

-- A part of keys in order is in order.
ordered-take : (n : ℕ) (keys : List ℕ) → Ordered leb keys → Ordered leb (take n keys)
ordered-take zero keys o = tt
ordered-take (suc n) [] o = tt
ordered-take (suc n) (k ∷ keys) o = ((all_take (λ y. leb k y ≡ true) n keys o.0).0, ordered-take n keys o.1)

ordered-drop : (n : ℕ) (keys : List ℕ) → Ordered leb keys → Ordered leb (drop n keys)
ordered-drop zero keys o = o
ordered-drop (suc n) [] o = tt
ordered-drop (suc n) (k ∷ keys) o = ordered-drop n keys o.1

-- Those before a part are below x and those behind it are not, so the part's count tells of all.
module _ (keys : List ℕ) (x from end n : ℕ) (rising : from ≤ end) (inside : end ≤ length keys) where
  abbrev front : List ℕ
  front = take from keys

  abbrev part : List ℕ
  part = slice_range keys from end

  abbrev behind : List ℕ
  behind = slice_range keys end (length keys)

  parted : count_of (λ k. ltb k x) keys ≡ count_of (λ k. ltb k x) front + (count_of (λ k. ltb k x) part + count_of (λ k. ltb k x) behind)
  parted =
      let all : behind ≡ drop end keys = take_all (length keys - end) (drop end keys) (omega (arith, length-drop end keys)) in
      let rest : drop (end - from) (drop from keys) ≡ behind = drop-drop (end - from) from keys ∙ ap (λ (i : ℕ). drop i keys) (omega arith) ∙ sym all in
      omega (arith, split from keys, split (end - from) (drop from keys), ap (count_of (λ k. ltb k x)) rest)
    where
      split : (i : ℕ) (ks : List ℕ) → count_of (λ k. ltb k x) (take i ks) + count_of (λ k. ltb k x) (drop i ks) ≡ count_of (λ k. ltb k x) ks
      split i ks = sym (count-append (λ k. ltb k x) (take i ks) (drop i ks)) ∙ ap (count_of (λ k. ltb k x)) (take-append-drop i ks)

  pub part-counted : (sort_by leb front ≡ front → length front ≤ count_of (λ k. ltb k x) front) → (sort_by leb behind ≡ behind → count_of (λ k. ltb k x) behind ≤ 0)
      → CountsBelow part x n → CountsBelow keys x (from + n)
  part-counted low high c = record {
    inside = omega (arith, c.inside, length-take (end - from) (drop from keys));
    counted = λ s.
        let o : Ordered leb keys = rw s at (ordered-sort leb leb-total leb-trans keys) in
        omega (
          arith,
          parted,
          low (sort-ordered leb front (ordered-take from keys o)),
          high (sort-ordered leb behind (ordered-take (length keys - end) (drop end keys) (ordered-drop end keys o))),
          c.counted (sort-ordered leb part (ordered-take (end - from) (drop from keys) (ordered-drop from keys o))),
          count-le (λ k. ltb k x) front,
          length-take from keys,
        );
  }

-- ## Keys at the front

module _ (p : ℕ → Bool) where
  front-most : (xs : List ℕ) → length (leading p xs) ≤ length xs
  front-most [] = omega arith
  front-most (x ∷ xs) = cases (p x) (λ g. simp g (omega (arith, front-most xs))) (λ g. simp g (omega arith))

  -- As the library counts them.
  front-counted : (xs : List ℕ) → prefix_len p xs ≡ length (leading p xs)
  front-counted [] = refl
  front-counted (x ∷ xs) = cases (p x) (λ g. simp g (omega (arith, front-counted xs))) (λ g. simp g)

  -- From so many on that all stand at the front.
  front-rest : (xs : List ℕ) (i : ℕ) → i ≤ length (leading p xs) → i + length (leading p (drop i xs)) ≡ length (leading p xs)
  front-rest xs zero h = omega arith
  front-rest [] (suc i) h = absurd (omega arith)
  front-rest (x ∷ xs) (suc i) h =
      cases (p x)
      (λ g. let h' : suc i ≤ suc (length (leading p xs)) = simp g at h in simp g (omega (arith, front-rest xs i (omega arith))))
      (λ g. let h' : suc i ≤ 0 = simp g at h in absurd (omega arith))

front-grows : (p q : ℕ → Bool) → ((x : ℕ) → p x ≡ true → q x ≡ true) → (xs : List ℕ) → length (leading p xs) ≤ length (leading q xs)
front-grows p q f [] = omega arith
front-grows p q f (x ∷ xs) = cases (p x) (λ g. simp (g, f x g) (omega (arith, front-grows p q f xs))) (λ g. simp g (omega arith))

-- ## The table of starts

abbrev pub start_of : List ℕ → ℕ → ℕ
start_of keys cell = length (leading (in_cell_before cell) keys)

-- Counted on from so many keys that are all of cells before.
pub start-on : (keys : List ℕ) (at cell n : ℕ) → at ≤ start_of keys cell → n ≡ prefix_len (in_cell_before cell) (take (length keys - at) (drop at keys)) → at + n ≡ start_of keys cell
start-on keys at cell n h e =
    let rest : take (length keys - at) (drop at keys) ≡ drop at keys = take_all (length keys - at) (drop at keys) (omega (arith, length-drop at keys)) in
    omega (arith, e ∙ ap (prefix_len (in_cell_before cell)) rest ∙ front-counted (in_cell_before cell) (drop at keys), front-rest (in_cell_before cell) keys at h)

pub start-inside : (keys : List ℕ) (cell : ℕ) → start_of keys cell ≤ length keys
start-inside keys cell = front-most (in_cell_before cell) keys

pub start-grows : (keys : List ℕ) (cell : ℕ) → start_of keys cell ≤ start_of keys (cell + 1)
start-grows keys cell =
    front-grows (in_cell_before cell) (in_cell_before (cell + 1))
    (λ x t. let l = ltb-true (x / keys_per_cell) cell t in lt-ltb (x / keys_per_cell) (cell + 1) (omega arith))
    keys

-- The starts of cells from one on.
abbrev pub starts_from : List ℕ → ℕ → ℕ → List ℕ
starts_from keys cell n = map (start_of keys) (numbers_from cell n)

pub starts-next : (keys : List ℕ) (cell n : ℕ) → cell < n → starts_from keys cell (n - cell) ≡ start_of keys cell ∷ starts_from keys (cell + 1) (n - (cell + 1))
starts-next keys cell n h = let e : n - cell ≡ suc (n - (cell + 1)) = omega arith in let f : cell + 1 ≡ suc cell = omega arith in rw (e, f)

length-starts : (keys : List ℕ) (cell n : ℕ) → length (starts_from keys cell n) ≡ n
length-starts keys cell zero = refl
length-starts keys cell (suc n) = ap suc (length-starts keys (suc cell) n)

pub starts-long : (keys : List ℕ) (n : ℕ) → length (starts_of keys n) ≡ n
starts-long keys n = length-starts keys 0 n
