-- The ledger names as keys and their points: filled name by name, the keys then sorted, and a tag's points found by them.
use mathlib.Core.Path.{◌≡◌, refl, sym, ap, subst, ◌∙◌}
use mathlib.Core.List.{List, [], ◌∷◌, ◌++◌, map, append_assoc, append-nil}
use mathlib.Core.Option
use mathlib.Core.Option.{none, some}
use Prim.Native.Nat.{ℕ, ◌+◌, ◌-◌, ◌%◌, ◌<◌, ◌≤◌}
use native.Mathlib.Nat.{mod-eq_of_lt, sub-zero}
use native.Mathlib.Omega.{arith}
use lib.Dec.{leb}
use lib.ListN.{length, take, drop, set, get_or, length-append, length-map, length-set}
use lib.Seq.{take_at, drop-drop}
use Rattle.std.proofs.Math.Seq.{take-append_seam, drop-append_seam}
use Rattle.std.specs.Prelude as code
use Rattle.std.specs.Prelude.{Some, None}
use Rattle.std.specs.declared.ops.Range.{Range}
use Rattle.std.proofs.lemmas.List.{get_or-map, map-append}
use Rattle.lists.specs.Lists.{first_that, join_of}
use Rattle.lists.specs.Options.{option_of}
use Rattle.lists.proofs.FillLaws.{Filling, filling-new, filling-room, filling-put, filling-count, filling-written}
use Rattle.lists.proofs.StepLaws.{take-set-more}
use Rattle.sorting.specs.Sort.{sort_by, Sorts}
use Rattle.sorting.proofs.SortLaws.{length-sort}
use Rattle.sorting.proofs.SortedKeyLaws.{sorted_front}
use Rattle.format.specs.declared.tag.CountryTag.{CountryTag}
use Rattle.format.specs.declared.rows.Point.{Point}
use Rattle.format.specs.Tags.{same_tag}
use Rattle.format.specs.Campaign.{Ledger}
use Rattle.record.specs.declared.ledger.LedgerRow.{LedgerRow}
use Rattle.record.specs.declared.ledger.Ledgers.{Ledgers}
use Rattle.record.specs.Cursors.{points_left, ledger_of, ledgers_left}
use Rattle.search.specs.Places.{tag_key, tag_keys_from, place_from, place_in, keys_per_tag}
use Rattle.search.proofs.PlaceLaws.{tag-keys-nil, tag-keys-cons, length-tag-keys, place-among, first-placed, place_inside}
use Rattle.ledger.specs.Index.{name_keys, all_points, points_in_range, IsIndex}

abbrev ledger_tags : List Ledger → List CountryTag
ledger_tags ls = map (λ l. l.tag) ls

abbrev points_in : List Ledger → List (List Point)
points_in ls = map (λ l. l.points) ls

length-names : (ls : List Ledger) → length (name_keys ls) ≡ length ls
length-names ls = length-tag-keys 0 (ledger_tags ls) ∙ length-map ls (λ l. l.tag)

-- ## Where points stand

-- The points of these names stand behind each other among all, from a number on.
abbrev Standing : List Point → ℕ → List Ledger → Type 0
Standing all first [] = Unit {0}
Standing all first (l ∷ ls) = (l.points ≡ take (length l.points) (drop first all)) × Standing all (first + length l.points) ls

standing : (all : List Point) (ls : List Ledger) (first : ℕ) → drop first all ≡ all_points ls → Standing all first ls
standing all [] first e = tt
standing all (l ∷ ls) first e =
    let behind : drop (first + length l.points) all ≡ all_points ls = sym (drop-drop (length l.points) first all) ∙ ap (drop (length l.points)) e ∙ drop-append_seam l.points (all_points ls) in
    (sym (ap (take (length l.points)) e ∙ take-append_seam l.points (all_points ls)), standing all ls (first + length l.points) behind)

-- ## Filled name by name

-- So many names are done, and the others are left; the next point has the number `first`.
pub record Naming (c : Ledgers) (left : List Ledger) (cells count first : ℕ) (keys₀ keys : List ℕ) (places : List (Range ℕ)) : Type 0 where
  pub keys-so-far : Filling (name_keys (ledgers_left c)) (tag_keys_from count (ledger_tags left)) keys₀ count keys
  pub points-so-far : map (points_in_range (all_points (ledgers_left c))) (take count places) ++ points_in left ≡ points_in (ledgers_left c)
  pub standing-left : Standing (all_points (ledgers_left c)) first left
  pub few : count + length left ≤ 2000
  pub few-points : first + length (join_of (λ l. l.points) left) ≤ 1000000
  pub cells-enough : count + length left ≤ cells
  pub long : length places ≡ cells

pub naming-start : (c : Ledgers) (left : List Ledger) (cells : ℕ) (keys : List ℕ) (places : List (Range ℕ)) → left ≡ ledgers_left c
    → length (ledgers_left c) ≤ 2000 → length (join_of (λ l. l.points) (ledgers_left c)) ≤ 1000000 → length (ledgers_left c) ≤ cells
    → length keys ≡ cells → length places ≡ cells → Naming c left cells 0 0 keys keys places
naming-start c left cells keys places e few points enough k p =
    rw e
    (record {
      keys-so-far = filling-new (name_keys (ledgers_left c)) keys (omega (arith, length-names (ledgers_left c)));
      points-so-far = refl;
      standing-left = standing (all_points (ledgers_left c)) (ledgers_left c) 0 refl;
      few = omega arith;
      few-points = omega arith;
      cells-enough = omega arith;
      long = p;
    })

module _ {c : Ledgers} {left : List Ledger} {cells count first : ℕ} {keys₀ keys : List ℕ} {places : List (Range ℕ)} (n : Naming c left cells count first keys₀ keys places)
    (row : LedgerRow) {rest : List Ledger} (e : left ≡ ledger_of row ∷ rest) where
  keys-left : tag_keys_from count (ledger_tags left) ≡ tag_key row.tag count ∷ tag_keys_from (count + 1) (ledger_tags rest)
  keys-left = ap (λ (ls : List Ledger). tag_keys_from count (ledger_tags ls)) e ∙ tag-keys-cons count row.tag (ledger_tags rest)

  pub naming-room : (count < length keys) × (count < length places)
  naming-room = (filling-room _ _ _ _ _ n.keys-so-far _ _ keys-left, omega (arith, n.cells-enough, n.long, ap length e))

  points-more : length (join_of (λ l. l.points) left) ≡ length (points_left row.points) + length (join_of (λ l. l.points) rest)
  points-more = ap (λ (ls : List Ledger). length (join_of (λ l. l.points) ls)) e ∙ length-append (points_left row.points) (join_of (λ l. l.points) rest)

  standing-here : Standing (all_points (ledgers_left c)) first (ledger_of row ∷ rest)
  standing-here = subst (Standing (all_points (ledgers_left c)) first) e n.standing-left

  naming-more : (key : ℕ) → key ≡ tag_key row.tag (count % keys_per_tag) → (m : ℕ) → m ≡ length (points_left row.points) → (place : Range ℕ)
      → place.start ≡ first → place.end ≡ first + m → Naming c rest cells (count + 1) (first + m) keys₀ (set keys count key) (set places count place)
  naming-more key k m q place f g =
      let long = ap length e in
      let number : count % keys_per_tag ≡ count = mod-eq_of_lt (omega (arith, n.few)) in
      let wide : (first + m) - first ≡ m = omega arith in
      let own : points_in_range (all_points (ledgers_left c)) place ≡ points_left row.points = rw (f, g, wide, q) (sym standing-here.0) in
      record {
        keys-so-far = filling-put _ _ _ _ _ n.keys-so-far _ _ keys-left key (k ∙ ap (tag_key row.tag) number);
        points-so-far =
            ap (λ (ps : List (Range ℕ)). map (points_in_range (all_points (ledgers_left c))) ps ++ points_in rest) (take-set-more places count place naming-room.1)
            ∙ (ap (λ (ps : List (List Point)). ps ++ points_in rest) (map-append (points_in_range (all_points (ledgers_left c))) (take count places) (place ∷ []))
            ∙ (append_assoc (map (points_in_range (all_points (ledgers_left c))) (take count places)) (points_in_range (all_points (ledgers_left c)) place ∷ []) (points_in rest)
            ∙ (ap (λ (ps : List Point). map (points_in_range (all_points (ledgers_left c))) (take count places) ++ (ps ∷ points_in rest)) own
            ∙ (ap (λ (ls : List Ledger). map (points_in_range (all_points (ledgers_left c))) (take count places) ++ points_in ls) (sym e) ∙ n.points-so-far))));
        standing-left = rw q standing-here.1;
        few = omega (arith, n.few);
        few-points = omega (arith, n.few-points, points-more);
        cells-enough = omega (arith, n.cells-enough);
        long = length-set places count place ∙ n.long;
      }

  -- By its number and the next, as the code counts.
  pub naming-next : (at next : ℕ) → at ≡ count → next ≡ count + 1 → (key : ℕ) → key ≡ tag_key row.tag (at % keys_per_tag) → (m : ℕ)
      → m ≡ length (points_left row.points) → (place : Range ℕ) → place.start ≡ first → place.end ≡ first + m
      → Naming c rest cells next (first + m) keys₀ (set keys at key) (set places at place)
  naming-next at next a b key k m q place f g = rw (a, b) (naming-more key (k ∙ ap (λ i. tag_key row.tag (i % keys_per_tag)) a) m q place f g)

-- ## The keys sorted

module _ {c : Ledgers} {left : List Ledger} {cells count first : ℕ} {keys₀ keys : List ℕ} {places : List (Range ℕ)}
    (n : Naming c left cells count first keys₀ keys places) (e : left ≡ []) where
  done : tag_keys_from count (ledger_tags left) ≡ []
  done = ap (λ (l : List Ledger). tag_keys_from count (ledger_tags l)) e ∙ tag-keys-nil count

  counted : count ≡ length (ledgers_left c)
  counted = filling-count _ _ _ _ _ n.keys-so-far done ∙ length-names (ledgers_left c)

  pub places-inside : count ≤ length places
  places-inside = omega (arith, n.cells-enough, n.long)

  front-sorted : (sorted scratch₀ scratch₁ : List ℕ) → Sorts (take count keys) sorted scratch₀ scratch₁
      → take count (sorted ++ drop count keys) ≡ sort_by leb (name_keys (ledgers_left c))
  front-sorted sorted scratch₀ scratch₁ s =
      let ls = ledgers_left c in
      let cells =
      (rw sub-zero at (sorted_front (name_keys ls) keys₀ keys sorted count (filling-written _ _ _ _ _ n.keys-so-far done) (counted ∙ sym (length-names ls)) (rw sub-zero s.keys))) in
      let size : length (sort_by leb (name_keys ls)) ≡ count = length-sort leb (name_keys ls) ∙ length-names ls ∙ sym counted in
      ap (take count) cells ∙ take_at (sort_by leb (name_keys ls)) (drop (length (sort_by leb (name_keys ls))) keys₀) count size

  front-indexed : (sorted : List ℕ) → sorted ≡ sort_by leb (name_keys (ledgers_left c)) → IsIndex c sorted (take count places)
  front-indexed sorted s =
      record {
        few = omega (arith, n.few, counted);
        sorted = s;
        placed = sym (append-nil (map (points_in_range (all_points (ledgers_left c))) (take count places))) ∙ (ap (λ (l : List Ledger). map (points_in_range (all_points (ledgers_left c))) (take count places) ++ points_in l) (sym e) ∙ n.points-so-far);
      }

  -- By the number of all names.
  module _ {names : ℕ} (h : names ≡ length (ledgers_left c)) where
    all-named : names ≡ count
    all-named = h ∙ sym counted

    pub names-sorted : (sorted scratch₀ scratch₁ : List ℕ) → Sorts (take names keys) sorted scratch₀ scratch₁
        → take names (sorted ++ drop names keys) ≡ sort_by leb (name_keys (ledgers_left c))
    names-sorted sorted scratch₀ scratch₁ s = rw all-named (front-sorted sorted scratch₀ scratch₁ (rw all-named at s))

    pub names-indexed : (sorted : List ℕ) → sorted ≡ sort_by leb (name_keys (ledgers_left c)) → IsIndex c sorted (take names places)
    names-indexed sorted s = rw all-named (front-indexed sorted s)

-- ## A tag's points

module _ {c : Ledgers} {keys : List ℕ} {places : List (Range ℕ)} (x : IsIndex c keys places) (tag : CountryTag) (r : code.Option ℕ)
    (told : option_of r ≡ place_in keys tag) where
  abbrev names : List Ledger
  names = ledgers_left c

  abbrev no_name : Ledger
  no_name = record { tag = tag; points = [] }

  place-told : option_of r ≡ place_from 0 tag (ledger_tags names)
  place-told = told ∙ place-among tag (ledger_tags names) (omega (arith, length-map names (λ (l : Ledger). l.tag), x.few)) keys x.sorted

  first-told : first_that (λ l. same_tag l.tag tag) names ≡ Option.map (λ i. get_or names i no_name) (option_of r)
  first-told = first-placed (λ (l : Ledger). l.tag) tag no_name names ∙ ap (Option.map (λ i. get_or names i no_name)) (sym place-told)

  pub found_none : r ≡ None → none ≡ Option.map (λ l. l.points) (first_that (λ l. same_tag l.tag tag) names)
  found_none e = sym (ap (Option.map (λ l. l.points)) (first-told ∙ ap (λ (p : code.Option ℕ). Option.map (λ i. get_or names i no_name) (option_of p)) e))

  module _ {i : ℕ} (e : r ≡ Some i) where
    name-inside : i < length names
    name-inside = omega (arith, place_inside tag (ledger_tags names) i (sym place-told ∙ ap option_of e), length-map names (λ (l : Ledger). l.tag))

    pub found_inside : i < length places
    found_inside =
        omega (arith, name-inside, ap length x.placed, length-map places (points_in_range (all_points (ledgers_left c))), length-map names (λ (l : Ledger). l.points))

    pub found_few : i < 2000
    found_few = omega (arith, name-inside, x.few)

    pub found-points : (d : Range ℕ) (ps : List Point) → ps ≡ points_in_range (all_points (ledgers_left c)) (get_or places i d)
        → some ps ≡ Option.map (λ l. l.points) (first_that (λ l. same_tag l.tag tag) names)
    found-points d ps p =
        let own : points_in_range (all_points (ledgers_left c)) (get_or places i d) ≡ (get_or names i no_name).points =
        sym (get_or-map (points_in_range (all_points (ledgers_left c))) places i d [] found_inside)
        ∙ (ap (λ (qs : List (List Point)). get_or qs i []) x.placed ∙ get_or-map (λ (l : Ledger). l.points) names i no_name [] name-inside) in
        let found : first_that (λ l. same_tag l.tag tag) names ≡ some (get_or names i no_name) =
        first-told ∙ ap (λ (q : code.Option ℕ). Option.map (λ j. get_or names j no_name) (option_of q)) e in
        rw found (ap some (p ∙ own))
