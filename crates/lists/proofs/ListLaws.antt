-- Laws of lists: of all elements, of counts, of choosing and joining, of rows, and of lists that are in order by a number.
use mathlib.Core.Path.{◌≡◌, refl, sym, ap, ap₂, ◌∙◌}
use mathlib.Core.Bool.{Bool, true, false, ◌||◌}
use mathlib.Core.List.{List, [], ◌∷◌, ◌++◌, map, append_assoc}
use mathlib.Core.Option
use mathlib.Core.Option.{some, none-ne-some, some-injective}
use Prim.Native.Nat.{ℕ, zero, suc, ◌+◌, ◌*◌, ◌≤◌, ◌<◌}
use native.Mathlib.Nat.{mul-suc, add_comm}
use native.Mathlib.Omega.{arith}
use borrow.Author.Tests.{leb-false, lt-leb}
use lib.Dec.{leb}
use lib.ListN.{length, get_or, set, take, drop, get_elem?, length-append}
use lib.Seq.{take_at, drop_at, get_or-take, get_or-drop}
use Rattle.lists.proofs.BoolLaws.{cases, neither}
use Rattle.lists.specs.Lists.{All, keep, any_of, all_of, count_of, leading, one, sum_of, join_of, last_or, numbers_from, rows_in}

-- ## All elements

module _ {A : Type 0} where
  pub all_map : {P Q : A → Type 0} → ((a : A) → P a → Q a) → (xs : List A) → All P xs → All Q xs
  all_map f [] q = tt
  all_map f (x ∷ xs) q = (f x q.0, all_map f xs q.1)

  pub all_both : (P Q : A → Type 0) (xs : List A) → All P xs → All Q xs → All (λ x. P x × Q x) xs
  all_both P Q [] p q = tt
  all_both P Q (x ∷ xs) p q = ((p.0, q.0), all_both P Q xs p.1 q.1)

  module _ (P : A → Type 0) where
    pub all_append : (xs ys : List A) → All P xs → All P ys → All P (xs ++ ys)
    all_append [] ys p q = q
    all_append (x ∷ xs) ys p q = (p.0, all_append xs ys p.1 q)

    pub all_keep : (p : A → Bool) (xs : List A) → All P xs → All P (keep p xs)
    all_keep p [] q = tt
    all_keep p (x ∷ xs) q = cases (p x) (λ h. simp h (q.0, all_keep p xs q.1)) (λ h. simp h (all_keep p xs q.1))

    pub all_take : (n : ℕ) (xs : List A) → All P xs → All P (take n xs) × All P (drop n xs)
    all_take zero xs q = (tt, q)
    all_take (suc n) [] q = (tt, tt)
    all_take (suc n) (x ∷ xs) q = let g = all_take n xs q.1 in ((q.0, g.0), g.1)

    pub all_get_d : (xs : List A) (i : ℕ) (d : A) → All P xs → P d → P (get_or xs i d)
    all_get_d [] i d q h = h
    all_get_d (x ∷ xs) zero d q h = q.0
    all_get_d (x ∷ xs) (suc i) d q h = all_get_d xs i d q.1 h

    pub all-last : (xs : List A) (d : A) → All P xs → P d → P (last_or d xs)
    all-last [] d q h = h
    all-last (x ∷ xs) d q h = all-last xs x q.1 q.0

    pub all-all_of : (p : A → Bool) → ((a : A) → P a → p a ≡ true) → (xs : List A) → All P xs → all_of p xs ≡ true
    all-all_of p f [] q = refl
    all-all_of p f (x ∷ xs) q = simp (f x q.0) (all-all_of p f xs q.1)

  pub any_none : (p : A → Bool) (xs : List A) → any_of p xs ≡ false → All (λ x. p x ≡ false) xs
  any_none p [] h = tt
  any_none p (x ∷ xs) h = let f = neither (p x) (any_of p xs) h in (f.0, any_none p xs f.1)

module _ {A B : Type 0} where
  pub all_of_map : {P : A → Type 0} (Q : B → Type 0) (f : A → B) → ((a : A) → P a → Q (f a)) → (xs : List A) → All P xs → All Q (map f xs)
  all_of_map Q f g [] q = tt
  all_of_map Q f g (x ∷ xs) q = (g x q.0, all_of_map Q f g xs q.1)

  pub all-images : (Q : B → Type 0) (f : A → B) → ((a : A) → Q (f a)) → (xs : List A) → All Q (map f xs)
  all-images Q f g [] = tt
  all-images Q f g (x ∷ xs) = (g x, all-images Q f g xs)

  pub all_join : {P : A → Type 0} (Q : B → Type 0) (f : A → List B) → ((a : A) → P a → All Q (f a)) → (xs : List A) → All P xs → All Q (join_of f xs)
  all_join Q f g [] q = tt
  all_join Q f g (x ∷ xs) q = all_append Q (f x) (join_of f xs) (g x q.0) (all_join Q f g xs q.1)

  -- What holds of the elements of a map held of the elements mapped.
  pub all-unmap : (P : B → Type 0) (f : A → B) (xs : List A) → All P (map f xs) → All (λ x. P (f x)) xs
  all-unmap P f [] q = tt
  all-unmap P f (x ∷ xs) q = (q.0, all-unmap P f xs q.1)

-- ## Choosing, joining, mapping

module _ {A : Type 0} (p : A → Bool) where
  pub keep-none : (xs : List A) → All (λ x. p x ≡ false) xs → keep p xs ≡ []
  keep-none [] q = refl
  keep-none (x ∷ xs) q = simp q.0 (keep-none xs q.1)

  pub keep_append : (xs ys : List A) → keep p (xs ++ ys) ≡ keep p xs ++ keep p ys
  keep_append [] ys = refl
  keep_append (x ∷ xs) ys = cases (p x) (λ h. simp (h, keep_append xs ys)) (λ h. simp (h, keep_append xs ys))

module _ {A B : Type 0} where
  pub join-append : (f : A → List B) (xs ys : List A) → join_of f (xs ++ ys) ≡ join_of f xs ++ join_of f ys
  join-append f [] ys = refl
  join-append f (x ∷ xs) ys = simp (join-append f xs ys, append_assoc)

  pub join-none : (f : A → List B) (xs : List A) → All (λ x. f x ≡ []) xs → join_of f xs ≡ []
  join-none f [] q = refl
  join-none f (x ∷ xs) q = simp (q.0, join-none f xs q.1)

  -- Where each element gives the same list, the joined lists are the same.
  pub join-same : (f g : A → List B) (xs : List A) → All (λ x. f x ≡ g x) xs → join_of f xs ≡ join_of g xs
  join-same f g [] q = refl
  join-same f g (x ∷ xs) q = simp (q.0, join-same f g xs q.1)

  pub join-short : (f : A → List B) (bound : ℕ) (xs : List A) → All (λ x. length (f x) ≤ bound) xs → length (join_of f xs) ≤ length xs * bound
  join-short f bound [] q = omega arith
  join-short f bound (x ∷ xs) q =
      let l = length-append (f x) (join_of f xs) in
      let r = join-short f bound xs q.1 in
      let h = q.0 in
      omega arith

  -- Joined, they are as many as all lists have.
  pub length-joined : (f : A → List B) (xs : List A) → length (join_of f xs) ≡ sum_of (λ x. length (f x)) xs
  length-joined f [] = refl
  length-joined f (x ∷ xs) = length-append (f x) (join_of f xs) ∙ ap (λ (n : ℕ). length (f x) + n) (length-joined f xs)

  pub any-map : (p : B → Bool) (f : A → B) (xs : List A) → any_of p (map f xs) ≡ any_of (λ x. p (f x)) xs
  any-map p f [] = refl
  any-map p f (x ∷ xs) = ap (λ (b : Bool). p (f x) || b) (any-map p f xs)

  pub map_back : (f : A → B) (g : B → A) → ((a : A) → g (f a) ≡ a) → (xs : List A) → map g (map f xs) ≡ xs
  map_back f g e [] = refl
  map_back f g e (x ∷ xs) = ap₂ (λ (a : A) (as' : List A). a ∷ as') (e x) (map_back f g e xs)

  pub map-append : (f : A → B) (xs ys : List A) → map f (xs ++ ys) ≡ map f xs ++ map f ys
  map-append f [] ys = refl
  map-append f (x ∷ xs) ys = ap (λ (l : List B). f x ∷ l) (map-append f xs ys)

  pub map-take : (f : A → B) (n : ℕ) (xs : List A) → map f (take n xs) ≡ take n (map f xs)
  map-take f zero xs = refl
  map-take f (suc n) [] = refl
  map-take f (suc n) (x ∷ xs) = ap (λ (l : List B). f x ∷ l) (map-take f n xs)

  pub map_at : (f : A → B) (xs : List A) (i : ℕ) → get_elem? (map f xs) i ≡ Option.map f (get_elem? xs i)
  map_at f [] i = refl
  map_at f (x ∷ xs) zero = refl
  map_at f (x ∷ xs) (suc i) = map_at f xs i

-- The lists that the elements of a map give.
pub join-map : {A B C : Type 0} (f : B → List C) (g : A → B) (xs : List A) → join_of f (map g xs) ≡ join_of (λ x. f (g x)) xs
join-map f g [] = refl
join-map f g (x ∷ xs) = ap (λ (l : List _). f (g x) ++ l) (join-map f g xs)

pub map-then : {A B C : Type 0} (f : A → B) (g : B → C) (xs : List A) → map g (map f xs) ≡ map (λ a. g (f a)) xs
map-then f g [] = refl
map-then f g (x ∷ xs) = ap (λ (l : List _). g (f x) ∷ l) (map-then f g xs)

-- ## Numbers from one on

pub length-numbers : (a n : ℕ) → length (numbers_from a n) ≡ n
length-numbers a zero = refl
length-numbers a (suc n) = ap suc (length-numbers (suc a) n)

pub numbers-at : {A : Type 0} (f : ℕ → A) (d : A) (a n i : ℕ) → i < n → get_or (map f (numbers_from a n)) i d ≡ f (a + i)
numbers-at f d a zero i h = absurd (omega arith)
numbers-at f d a (suc n) zero h = let e : a + 0 ≡ a = omega arith in simp e
numbers-at f d a (suc n) (suc i) h =
    let e : suc a + i ≡ a + suc i = omega arith in
    numbers-at f d (suc a) n i (omega arith) ∙ ap f e

-- ## An element at a number

module _ {A : Type 0} where
  -- The element and the others.
  pub at_split : (xs : List A) (i : ℕ) (x : A) → get_elem? xs i ≡ some x → xs ≡ take i xs ++ x ∷ drop (suc i) xs
  at_split [] i x h = absurd (none-ne-some x h)
  at_split (y ∷ ys) zero x h = ap (λ (z : A). z ∷ ys) (some-injective y x h)
  at_split (y ∷ ys) (suc i) x h = ap (λ (l : List A). y ∷ l) (at_split ys i x h)

  pub all-at : (P : A → Type 0) (xs : List A) (i : ℕ) (x : A) → get_elem? xs i ≡ some x → All P xs → P x
  all-at P [] i x h q = absurd (none-ne-some x h)
  all-at P (y ∷ ys) zero x h q = rw (some-injective y x h) at q.0
  all-at P (y ∷ ys) (suc i) x h q = all-at P ys i x h q.1

-- ## Counts

module _ {A : Type 0} (p : A → Bool) where
  pub count-append : (xs ys : List A) → count_of p (xs ++ ys) ≡ count_of p xs + count_of p ys
  count-append [] ys = omega arith
  count-append (x ∷ xs) ys = cases (p x) (λ h. simp (h, count-append xs ys) (omega arith)) (λ h. simp (h, count-append xs ys))

  pub count_none : (xs : List A) → All (λ x. p x ≡ false) xs → count_of p xs ≡ 0
  count_none [] q = refl
  count_none (x ∷ xs) q = simp (q.0, count_none xs q.1)

  pub count-cons : (x : A) (xs : List A) → count_of p (x ∷ xs) ≡ one (p x) + count_of p xs
  count-cons x xs = cases (p x) (λ h. simp h (omega arith)) (λ h. simp h (omega arith))

  -- What a store does to a count.
  pub count_set : (l : List A) (i : ℕ) (v d : A) → i < length l → count_of p (set l i v) + one (p (get_or l i d)) ≡ count_of p l + one (p v)
  count_set [] i v d h = absurd (omega arith)
  count_set (x ∷ xs) zero v d h = omega (arith, count-cons x xs, count-cons v xs)
  count_set (x ∷ xs) (suc i) v d h = omega (arith, count_set xs i v d (omega arith), count-cons x xs, count-cons x (set xs i v))

  pub count-pos : (l : List A) (i : ℕ) (d : A) → i < length l → p (get_or l i d) ≡ true → 0 < count_of p l
  count-pos [] i d h e = absurd (omega arith)
  count-pos (x ∷ xs) zero d h e = simp e (omega arith)
  count-pos (x ∷ xs) (suc i) d h e = omega (arith, count-pos xs i d (omega arith) e, count-cons x xs)

  pub count-le : (xs : List A) → count_of p xs ≤ length xs
  count-le [] = omega arith
  count-le (x ∷ xs) = cases (p x) (λ h. simp h (omega (arith, count-le xs))) (λ h. simp h (omega (arith, count-le xs)))

-- A test that passes wherever another does counts no fewer.
pub count-more : {A : Type 0} (p q : A → Bool) → ((x : A) → p x ≡ true → q x ≡ true) → (xs : List A) → count_of p xs ≤ count_of q xs
count-more p q h [] = omega arith
count-more p q h (x ∷ xs) =
    cases (p x)
    (λ a. simp (a, h x a) (omega (arith, count-more p q h xs)))
    (λ a. cases (q x) (λ b. simp (a, b) (omega (arith, count-more p q h xs))) (λ b. simp (a, b) (count-more p q h xs)))

-- 1 for a number above 0.
abbrev pub sgn : ℕ → ℕ
sgn zero = 0
sgn (suc n) = 1

pub any-count : {A : Type 0} (p : A → Bool) (xs : List A) → one (any_of p xs) ≡ sgn (count_of p xs)
any-count p [] = refl
any-count p (x ∷ xs) = cases (p x) (λ h. simp h) (λ h. simp h (any-count p xs))

-- ## In order by a number

abbrev pub InOrder : {A : Type 0} → (A → ℕ) → List A → Type 0
InOrder key [] = Unit {0}
InOrder key (x ∷ xs) = All (λ y. key x ≤ key y) xs × InOrder key xs

pub order-map : {A B : Type 0} (f : A → B) (key : B → ℕ) (xs : List A) → InOrder (λ a. key (f a)) xs → InOrder key (map f xs)
order-map f key [] q = tt
order-map f key (x ∷ xs) q = (all_of_map (λ y. key (f x) ≤ key y) f (λ a g. g) xs q.0, order-map f key xs q.1)

-- In order, those up to the first above a bound are all that are not above it.
pub leading-keep : {A : Type 0} (key : A → ℕ) (bound : ℕ) (xs : List A) → InOrder key xs
    → leading (λ x. leb (key x) bound) xs ≡ keep (λ x. leb (key x) bound) xs
leading-keep key bound [] o = refl
leading-keep key bound (x ∷ xs) o =
    cases (leb (key x) bound)
    (λ h. simp (h, leading-keep key bound xs o.1))
    (λ h. let f : bound < key x = leb-false (key x) bound h in
    simp (h, keep-none (λ y. leb (key y) bound) xs (all_map (λ y g. lt-leb (key y) bound (omega arith)) xs o.0)))

-- ## Rows

module _ {A B : Type 0} (width : ℕ) (f : A → List B) (wide : (a : A) → length (f a) ≡ width) where
  pub length-join : (xs : List A) → length (join_of f xs) ≡ width * length xs
  length-join [] = omega arith
  length-join (x ∷ xs) =
      length-append (f x) (join_of f xs) ∙ (ap₂ (λ (a b : ℕ). a + b) (wide x) (length-join xs) ∙ sym (mul-suc width (length xs) ∙ add_comm (width * length xs) width))

  -- Rows of one width that were joined are read again.
  pub rows_join : (xs : List A) → rows_in width (length xs) (join_of f xs) ≡ map f xs
  rows_join [] = refl
  rows_join (x ∷ xs) =
      ap₂ (λ (a : List B) (l : List (List B)). a ∷ l)
      (take_at (f x) (join_of f xs) width (wide x))
      (ap (rows_in width (length xs)) (drop_at (f x) (join_of f xs) width (wide x)) ∙ rows_join xs)

-- Word k of row i stands at width × i + k.
pub row-at : {A : Type 0} (width n : ℕ) (ws : List A) (i k : ℕ) (d : A) → i < n → k < width
    → get_or (get_or (rows_in width n ws) i []) k d ≡ get_or ws (width * i + k) d
row-at width zero ws i k d h l = absurd (omega arith)
row-at width (suc n) ws zero k d h l =
    let e : width * 0 + k ≡ k = omega arith in
    get_or-take width ws k d l ∙ simp e
row-at width (suc n) ws (suc i) k d h l =
    let e : width + (width * i + k) ≡ width * suc i + k = omega (arith, mul-suc width i) in
    row-at width n (drop width ws) i k d (omega arith) l ∙ (get_or-drop width ws (width * i + k) d ∙ simp e)
