-- The switches of all countries with their rows and numbers, and the walk that writes a key for each of them, whatever the keys are by.
use mathlib.Core.Path.{◌≡◌, refl, sym, ap, ap₂, subst, ◌∙◌}
use mathlib.Core.Bool.{Bool, true}
use mathlib.Core.List.{List, [], ◌∷◌, ◌++◌, map}
use Prim.Native.Nat.{ℕ, suc, ◌+◌, ◌≤◌, ◌<◌}
use native.Mathlib.Numerals.{add-one}
use native.Mathlib.Omega.{arith}
use borrow.Author.Tests.{ltb-true}
use lib.Dec.{ltb}
use lib.ListN.{length, length-append, length-map}
use Rattle.lists.specs.Lists.{All, all_of}
use Rattle.lists.proofs.BoolLaws.{and_left, and_right}
use Rattle.lists.proofs.ListLaws.{InOrder, all_map, all_append, map-append}
use Rattle.lists.proofs.FillLaws.{Filling, filling-new, filling-more, filling-count, filling-written}
use Rattle.format.specs.declared.rows.Switch.{Switch}
use Rattle.format.specs.Campaign.{Country}
use Rattle.format.specs.Dates.{not_after}
use Rattle.nation_tables.specs.Layout.{most_countries, most_switches, key_rows, key_dates, key_numbers, key_tags}
use Rattle.nation_tables.specs.Countries.{switch_key, switch_keys_from, small_switch, Keyed, Filled, FilledFrom}
use Rattle.nation_tables.specs.Switches.{PlacedSwitch, placed, own_placed, all_placed, runs_from, from_key, place_key, FromFits, NumberFits}
use Rattle.lists.proofs.EachLaws.{all-each, all-parts, all_of-all, order-append}

-- ## One switch

abbrev pub placed_by_date : PlacedSwitch → PlacedSwitch → Bool
placed_by_date a b = not_after a.made.date b.made.date

-- A switch's from and its date have room in its key.
pub small-from : (x : Switch) → small_switch x ≡ true → x.from.0 < key_tags
small-from x h = ltb-true x.from.0 key_tags (and_left (ltb x.from.0 key_tags) (ltb x.date.0 key_dates) h)

pub small-date : (x : Switch) → small_switch x ≡ true → x.date.0 < key_dates
small-date x h = ltb-true x.date.0 key_dates (and_right (ltb x.from.0 key_tags) (ltb x.date.0 key_dates) h)

-- ## One country's switches

-- The first and the others, counted as the code counts.
pub own-next : {ss rest : List Switch} {x : Switch} (row k : ℕ) → ss ≡ x ∷ rest → own_placed row k ss ≡ placed row k x ∷ own_placed row (k + 1) rest
unfolding own_placed
own-next row k e = rw (e, add-one)

-- What holds of each holds of the first and of the others.
pub own-fits : (Fits : PlacedSwitch → Type 0) {ss rest : List Switch} {x : Switch} (row k : ℕ) → ss ≡ x ∷ rest → All Fits (own_placed row k ss)
    → Fits (placed row k x) × All Fits (own_placed row (k + 1) rest)
own-fits Fits row k e q = subst (λ (l : List PlacedSwitch). All Fits l) (own-next row k e) q

pub own-end : {ss : List Switch} (row k : ℕ) → ss ≡ [] → own_placed row k ss ≡ []
unfolding own_placed
own-end row k e = rw e

pub length-own : (row k : ℕ) (ss : List Switch) → length (own_placed row k ss) ≡ length ss
unfolding own_placed
length-own row k [] = refl
length-own row k (x ∷ ss) = ap suc (length-own row (suc k) ss)

-- One more behind the others.
pub own-append : (row k : ℕ) (ss : List Switch) (x : Switch) → own_placed row k (ss ++ (x ∷ [])) ≡ own_placed row k ss ++ (placed row (k + length ss) x ∷ [])
unfolding own_placed
own-append row k [] x = let e : k ≡ k + 0 = omega arith in ap (λ (n : ℕ). placed row n x ∷ []) e
own-append row k (y ∷ ss) x =
    let e : suc k + length ss ≡ k + suc (length ss) = omega arith in
    ap (λ (l : List PlacedSwitch). placed row k y ∷ l) (own-append row (suc k) ss x ∙ ap (λ (n : ℕ). own_placed row (suc k) ss ++ (placed row n x ∷ [])) e)

-- What holds of each number and switch holds of each switch in its place.
pub own-all : (P : PlacedSwitch → Type 0) (R : Switch → Type 0) (row past k : ℕ) (ss : List Switch)
    → ((i : ℕ) (x : Switch) → k ≤ i → i < past → R x → P (placed row i x)) → k + length ss ≤ past → All R ss → All P (own_placed row k ss)
unfolding own_placed
own-all P R row past k [] h l q = tt
own-all P R row past k (x ∷ ss) h l q =
    (h k x (omega arith) (omega arith) q.0, own-all P R row past (suc k) ss (λ i y m. h i y (omega arith)) (omega arith) q.1)

-- The same where nothing is known of the switches.
pub own-each : (P : PlacedSwitch → Type 0) (row k : ℕ) (ss : List Switch) → ((i : ℕ) (x : Switch) → k ≤ i → P (placed row i x)) → All P (own_placed row k ss)
own-each P row k ss h = own-all P (λ x. Unit {0}) row (k + length ss) k ss (λ i x l m u. h i x l) (omega arith) (all-each (λ x. tt) ss)

-- In the order of whatever rises with the numbers.
pub own-order : (key : PlacedSwitch → ℕ) (row k : ℕ) (ss : List Switch)
    → ((i j : ℕ) (x y : Switch) → i ≤ j → key (placed row i x) ≤ key (placed row j y)) → InOrder key (own_placed row k ss)
unfolding own_placed
own-order key row k [] h = tt
own-order key row k (x ∷ ss) h =
    (own-each (λ p. key (placed row k x) ≤ key p) row (suc k) ss (λ i y l. h k i x y (omega arith)), own-order key row (suc k) ss h)

-- ## Those of all countries

module _ (P : PlacedSwitch → Type 0) (R : Switch → Type 0) (bound past : ℕ)
    (h : (row i : ℕ) (x : Switch) → row < bound → i < past → R x → P (placed row i x)) where
  pub placed-all : (row k : ℕ) (ks : List Country) → row + length ks ≤ bound → k + length (all_placed row k ks) ≤ past
      → All (λ x. All R x.switches) ks → All P (all_placed row k ks)
  unfolding all_placed
  placed-all row k [] r l q = tt
  placed-all row k (x ∷ ks) r l q =
      let own = own_placed row k x.switches in
      let others = all_placed (suc row) (k + length x.switches) ks in
      let size = length-append own others in
      let long = length-own row k x.switches in
      all_append P own others
      (own-all P R row past k x.switches (λ i y a. h row i y (omega arith)) (omega arith) q.0)
      (placed-all (suc row) (k + length x.switches) ks (omega arith) (omega arith) q.1)

-- Their rows rise.
pub rows-rise : (row k : ℕ) (ks : List Country) → All (λ p. row ≤ p.row) (all_placed row k ks) × InOrder (λ p. p.row) (all_placed row k ks)
unfolding all_placed
rows-rise row k [] = (tt, tt)
rows-rise row k (x ∷ ks) =
    let own = own_placed row k x.switches in
    let others = all_placed (suc row) (k + length x.switches) ks in
    let g = rows-rise (suc row) (k + length x.switches) ks in
    let later : All (λ p. row ≤ p.row) others = all_map (λ p l. omega arith) others g.0 in (
      all_append (λ p. row ≤ p.row) own others (own-each (λ p. row ≤ p.row) row k x.switches (λ i y l. omega arith)) later,
      order-append (λ p. p.row) row own others
          (own-each (λ p. p.row ≤ row) row k x.switches (λ i y l. omega arith)) later
          (own-order (λ p. p.row) row k x.switches (λ i j y z l. omega arith)) g.1,
    )

-- ## The walk

-- The countries that are left, from a row on, still have to give their keys, from k on.
pub record Keying (key : PlacedSwitch → ℕ) (Fits : PlacedSwitch → Type 0) (all left : List Country) (before : List ℕ) (row k : ℕ) (now : List ℕ) : Type 0 where
  pub cells : Filling (map key (all_placed 0 0 all)) (map key (all_placed row k left)) before k now
  pub rows : row + length left ≤ key_rows
  pub room : All Fits (all_placed row k left)

pub keying-start : (key : PlacedSwitch → ℕ) (Fits : PlacedSwitch → Type 0) (all : List Country) (before : List ℕ) → length all ≤ key_rows → length (all_placed 0 0 all) ≤ length before
    → All Fits (all_placed 0 0 all) → Keying key Fits all all before 0 0 before
keying-start key Fits all before r h q =
    record { cells = filling-new _ _ (omega (arith, length-map (all_placed 0 0 all) key)); rows = omega arith; room = q }

module _ (key : PlacedSwitch → ℕ) (Fits : PlacedSwitch → Type 0) (all left : List Country) (before : List ℕ) (row k : ℕ) (now : List ℕ) (q : Keying key Fits all left before row k now) where
  module _ (x : Country) (rest : List Country) (e : left ≡ x ∷ rest) where
    abbrev own : List PlacedSwitch
    own = own_placed row k x.switches

    abbrev others : List PlacedSwitch
    others = all_placed (suc row) (k + length x.switches) rest

    -- What is left are the next country's switches and those of the others.
    placed-split : all_placed row k left ≡ own ++ others
    unfolding all_placed
    placed-split = rw e

    keys-split : map key (all_placed row k left) ≡ map key own ++ map key others
    keys-split = ap (map key) placed-split ∙ map-append key own others

    own-size : length (map key own) ≡ length x.switches
    own-size = length-map own key ∙ length-own row k x.switches

    fitting : All Fits own × All Fits others
    fitting = all-parts Fits own others (rw placed-split at q.room)

    pub keying-here : (row < key_rows) × (k + length x.switches ≤ length now) × All Fits own
    keying-here =
        let r = q.rows in
        let f = q.cells.fits in
        let n = q.cells.long in
        let l = length-append (map key own) (map key others) in
        (omega (arith, ap length e), omega (arith, ap length keys-split, l, own-size), fitting.0)

    -- Behind the next country's keys come those of the others.
    pub keying-more : (next : ℕ) (after : List ℕ) → FilledFrom (map key own) k next now after → Keying key Fits all rest before (row + 1) next after
    keying-more next after w =
        let place : next ≡ k + length x.switches = w.behind ∙ ap (λ (n : ℕ). k + n) own-size in
        let same : others ≡ all_placed (row + 1) next rest = rw (place, add-one row) in
        let filled : Filling (map key (all_placed 0 0 all)) (map key others) before next after =
        subst (λ (n : ℕ). Filling (map key (all_placed 0 0 all)) (map key others) before n after) (sym w.behind)
        (filling-more _ _ _ _ _ q.cells (map key own) (map key others) after keys-split w.filled) in
        record {
          cells = subst (λ (l : List PlacedSwitch). Filling (map key (all_placed 0 0 all)) (map key l) before next after) same filled;
          rows = let r = q.rows in omega (arith, ap length e);
          room = subst (λ (l : List PlacedSwitch). All Fits l) same fitting.1;
        }

  pub keying-done : left ≡ [] → Filled (map key (all_placed 0 0 all)) k before now
  unfolding all_placed
  keying-done e =
      let none = ap (λ (l : List Country). map key (all_placed row k l)) e in
      record { counted = filling-count _ _ _ _ _ q.cells none; filled = filling-written _ _ _ _ _ q.cells none }

-- ## Keys by the tag that was left

from-own : (row k : ℕ) (ss : List Switch) → map (switch_key row) ss ≡ map from_key (own_placed row k ss)
unfolding own_placed
from-own row k [] = refl
from-own row k (x ∷ ss) = ap (λ (l : List ℕ). switch_key row x ∷ l) (from-own row (suc k) ss)

pub from-keys : (row k : ℕ) (ks : List Country) → switch_keys_from row ks ≡ map from_key (all_placed row k ks)
unfolding switch_keys_from all_placed
from-keys row k [] = refl
from-keys row k (x ∷ ks) =
    ap₂ ◌++◌ (from-own row k x.switches) (from-keys (suc row) (k + length x.switches) ks)
    ∙ sym (map-append from_key (own_placed row k x.switches) (all_placed (suc row) (k + length x.switches) ks))

-- As many switches as keys.
pub from-length : (row k : ℕ) (ks : List Country) → length (switch_keys_from row ks) ≡ length (all_placed row k ks)
from-length row k ks = ap length (from-keys row k ks) ∙ length-map (all_placed row k ks) from_key

-- Of switches that have room in a key each has.
pub switches-small : (ks : List Country) → Keyed ks → All (λ k. All (λ x. small_switch x ≡ true) k.switches) ks
switches-small ks q =
    all_map (λ k h. all_of-all small_switch k.switches h) ks (all_of-all (λ k. all_of small_switch k.switches) ks q.switches)

-- So they do in keys by the tag that was left.
pub from-fits : (ks : List Country) → Keyed ks → All FromFits (all_placed 0 0 ks)
from-fits ks q =
    placed-all FromFits (λ x. small_switch x ≡ true) (length ks) (length (all_placed 0 0 ks)) (λ row i x a b s. small-from x s) 0 0 ks (omega arith) (omega arith)
    (switches-small ks q)

-- ## Keys by the row of the country

pub row-keys : (row k : ℕ) (ks : List Country) → runs_from row k ks ≡ map place_key (all_placed row k ks)
unfolding runs_from
row-keys row k ks = refl

pub row-length : (row k : ℕ) (ks : List Country) → length (runs_from row k ks) ≡ length (all_placed row k ks)
row-length row k ks = ap length (row-keys row k ks) ∙ length-map (all_placed row k ks) place_key

pub row-asked : (ks : List Country) (n : ℕ) → length ks ≤ most_countries → length (switch_keys_from 0 ks) ≤ most_switches → length (runs_from 0 0 ks) ≤ n
    → ((length ks ≤ key_rows) × (length (all_placed 0 0 ks) ≤ n)) × All NumberFits (all_placed 0 0 ks)
row-asked ks n r f h =
    let size = row-length 0 0 ks in
    let all = from-length 0 0 ks in (
      (omega arith, omega (arith, size)),
      placed-all NumberFits (λ x. Unit {0}) (length ks) key_numbers (λ row i x a b s. b) 0 0 ks (omega arith) (omega (arith, size, all))
          (all-each (λ k. all-each (λ x. tt) k.switches) ks),
    )
