-- The row of the first key between two numbers, and of the last, by the count of keys below a number.
use mathlib.Core.Path.{◌≡◌, refl, sym, ap, ◌∙◌}
use mathlib.Core.List.{List, [], ◌∷◌, map}
use mathlib.Core.Option.{Option, none, some}
use Prim.Native.Nat.{ℕ, ◌+◌, ◌-◌, ◌*◌, ◌≤◌, ◌<◌}
use native.Mathlib.Nat.{mul-le-mul_right, add-mul}
use native.Mathlib.Omega.{arith}
use borrow.Author.Tests.{eqb-true, eqb-false, ltb-true, ltb-false, leb-true, leb-false, le-leb, lt-leb, lt-ltb, le-ltb}
use lib.Dec.{eqb, leb, ltb}
use lib.ListN.{length, get_or, get_elem?, take, drop}
use lib.Seq.{get_or-take, length-take-le, take_at}
use Rattle.std.specs.Prelude as code
use Rattle.std.specs.Prelude.{Some, None, unwrap_or}
use Rattle.std.specs.Bool.{then_some}
use Rattle.lists.specs.Options.{option_of}
use Rattle.lists.specs.Lists.{count_of, keep, first_or, last_or, last}
use Rattle.lists.proofs.ElementLaws.{last_some}
use Rattle.lists.proofs.ListLaws.{map-then}
use Rattle.lists.proofs.BoolLaws.{cases}
use Rattle.lists.proofs.BoundLaws.{first_past, first_above, first-there, last_none, last-below, last-there}
use Rattle.sorting.specs.Sort.{sort_by}
use Rattle.sorting.proofs.SortLaws.{length-sort}
use Rattle.sorting.proofs.SortedKeyLaws.{sorted-up}
use Rattle.rules.specs.Lent.{written}
use Rattle.nation_tables.specs.Layout.{row_number}
use Rattle.nation_tables.specs.Lookup.{no_row, row_in, in_range, rows_between, first_within, last_within}

-- What stands in front of a slice after a sort: the sorted keys.
pub sorted-front : (xs before all : List ℕ) (n : ℕ) → all ≡ written (sort_by leb xs) before → n ≡ length xs → take n all ≡ sort_by leb xs
sorted-front xs before all n e l =
    ap (take n) e ∙ take_at (sort_by leb xs) (drop (length (sort_by leb xs)) before) n (length-sort leb xs ∙ sym l)

-- ## The first and the last as they stand in a cell

first_some : (xs : List ℕ) → first_or none (map some xs) ≡ get_elem? xs 0
first_some [] = refl
first_some (x ∷ xs) = refl

pub first-number : (low high : ℕ) (keys : List ℕ) → row_number (first_within low high keys) ≡ first_or no_row (rows_between low high keys)
unfolding first_within
first-number low high keys = go (rows_between low high keys)
  where
    go : (xs : List ℕ) → row_number (get_elem? xs 0) ≡ first_or no_row xs
    go [] = refl
    go (x ∷ xs) = refl

pub last-number : (low high : ℕ) (keys : List ℕ) → row_number (last_within low high keys) ≡ last_or no_row (rows_between low high keys)
unfolding last_within
last-number low high keys = go (rows_between low high keys)
  where
    go : (xs : List ℕ) → row_number (last xs) ≡ last_or no_row xs
    go [] = refl
    go (x ∷ xs) = refl

-- What stands in a cell for the row that the code found, if it found one.
pub numbered : (row : code.Option ℕ) → unwrap_or row no_row ≡ row_number (option_of row)
numbered None = refl
numbered (Some n) = refl

-- ## How they are found

abbrev told : ℕ → Option ℕ
told key = some (row_in key)

-- The keys are in order, and i of them are below a number: the key behind these is the first that is not.
module _ (low high : ℕ) (keys : List ℕ) (sorted : sort_by leb keys ≡ keys) (i : ℕ) (below : i ≡ count_of (λ k. ltb k low) keys) where
  pub no-first : length keys ≤ i → none ≡ first_within low high keys
  unfolding first_within
  no-first h = sym (ap (λ (ks : List ℕ). get_elem? (map row_in ks) 0) (first_past low high keys (sorted-up keys sorted) i below h))

  module _ (key : ℕ) (there : i < length keys) (e : key ≡ get_or keys i 0) where
    first-too-high : high ≤ key → none ≡ first_within low high keys
    unfolding first_within
    first-too-high l =
        sym (ap (λ (ks : List ℕ). get_elem? (map row_in ks) 0) (first_above low high keys (sorted-up keys sorted) i below there (omega arith)))

    first_found : key < high → some (row_in key) ≡ first_within low high keys
    unfolding first_within
    first_found l =
        let kept = keep (in_range low high) keys in
        ap told e
        ∙ sym (first-there low high keys (sorted-up keys sorted) i below told none there (omega arith))
        ∙ ap (first_or none) (sym (map-then row_in some kept))
        ∙ first_some (map row_in kept)

    pub first-told : (row : ℕ) → row ≡ row_in key → option_of (then_some (ltb key high) row) ≡ first_within low high keys
    first-told row r =
        cases (ltb key high) (λ g. simp g (ap some r ∙ first_found (ltb-true key high g))) (λ g. simp g (first-too-high (ltb-false key high g)))

-- And the last of these i is the last that is.
module _ (low high : ℕ) (keys : List ℕ) (sorted : sort_by leb keys ≡ keys) (i : ℕ) (inside : i ≤ length keys)
    (below : i ≡ count_of (λ k. ltb k high) keys) where
  abbrev front : List ℕ
  front = take i keys

  long : length front ≡ i
  long = length-take-le i keys inside

  pub no_last : length front ≤ 0 → none ≡ last_within low high keys
  unfolding last_within
  no_last h = sym (ap (λ (ks : List ℕ). last (map row_in ks)) (last_none low high keys (sorted-up keys sorted) i below (omega (arith, long))))

  module _ (key : ℕ) (some_key : 0 < length front) (e : key ≡ get_or front (length front - 1) 0) where
    last_key : key ≡ get_or keys (i - 1) 0
    last_key = e ∙ ap (λ (n : ℕ). get_or front (n - 1) 0) long ∙ get_or-take i keys (i - 1) 0 (omega (arith, long))

    last-too-low : key < low → none ≡ last_within low high keys
    unfolding last_within
    last-too-low l =
        sym (ap (λ (ks : List ℕ). last (map row_in ks))
        (last-below low high keys (sorted-up keys sorted) i below (omega (arith, long)) (omega (arith, last_key))))

    last_found : low ≤ key → some (row_in key) ≡ last_within low high keys
    unfolding last_within
    last_found l =
        let kept = keep (in_range low high) keys in
        ap told last_key
        ∙ sym (last-there low high keys (sorted-up keys sorted) i below told none (omega (arith, long)) (omega (arith, last_key)))
        ∙ ap (last_or none) (sym (map-then row_in some kept))
        ∙ last_some (map row_in kept)

    pub last-told : (row : ℕ) → row ≡ row_in key → option_of (then_some (leb low key) row) ≡ last_within low high keys
    last-told row r =
        cases (leb low key) (λ g. simp g (ap some r ∙ last_found (leb-true low key g))) (λ g. simp g (last-too-low (leb-false low key g)))

-- A key lies from one part's first on and below the next part's just if it begins with that part.
pub begins-with : (width part low r : ℕ) → low < width → in_range (r * width) (r * width + width) (part * width + low) ≡ eqb part r
begins-with width part low r h =
    cases (eqb part r)
    (λ g. let same = ap (λ (n : ℕ). n * width) (eqb-true part r g) in
    simp (g, le-leb (r * width) (part * width + low) (omega arith), lt-ltb (part * width + low) (r * width + width) (omega arith)))
    (λ g. let e = eqb-false part r g in
    cases (ltb part r)
    (λ b. let l = before part r (ltb-true part r b) in simp (g, lt-leb (r * width) (part * width + low) (omega arith)))
    (λ b. let n = ltb-false part r b in
    let l = before r part (omega arith) in
    simp (g, le-leb (r * width) (part * width + low) (omega arith), le-ltb (part * width + low) (r * width + width) (omega arith))))
  where
    before : (a b : ℕ) → a < b → a * width + width ≤ b * width
    before a b l =
        let m : (a + 1) * width ≤ b * width = mul-le-mul_right width (omega arith) in
        omega (arith, add-mul a 1 width)
