-- Lists of cells that are written one cell after the other, and counted.
use mathlib.Core.Path.{◌≡◌, refl, sym, ap, ap₂, ◌∙◌}
use mathlib.Core.List.{List, [], ◌∷◌, ◌++◌, map}
use Prim.Native.Nat.{ℕ, suc, ◌+◌, ◌%◌, ◌≤◌, ◌<◌, min}
use native.Mathlib.Numerals.{add-one}
use native.Mathlib.Omega.{arith}
use borrow.Author.Tests.{eqb-true, eqb-false}
use lib.Dec.{eqb}
use lib.ListN.{length, get_or, set, take, drop, length-set, length-map, get_or-map}
use lib.Seq.{length-take-le, take_all, take_at, take-suc, set_out, ext_get_or, get_or-drop, get_or-set_same, get_or-set_other}
use Rattle.std.proofs.lemmas.List.{take_min}
use Rattle.lists.specs.Lists.{count_of, numbers_from}
use Rattle.lists.proofs.BoolLaws.{cases}
use Rattle.lists.proofs.FillLaws.{Filling}
use Rattle.lists.proofs.ListLaws.{length-numbers, numbers-at, count-append, count-le}
use Rattle.rules.specs.Lent.{written}
use Rattle.nation_tables.specs.Layout.{most_slots, cell_rows}
use Rattle.nation_tables.specs.Holders.{rows_in_cells, slot_counts, cell_word, SlotsRoom, SlotsPut, SlotsWritten}

-- ## Lists

-- A front of elements before others, found by its length.
pub front-is : {A : Type 0} (n : ℕ) (part all rest : List A) → part ≡ all → length all ≡ n → take n (part ++ rest) ≡ all
front-is n part all rest e l = take_at part rest n (ap length e ∙ l) ∙ e

-- A cell that is not yet written is as it was.
pub filling-kept : {A : Type 0} (all rest before : List A) (k : ℕ) (now : List A) (d : A) → Filling all rest before k now → get_or now k d ≡ get_or before k d
filling-kept all rest before k now d f =
    let none : k + 0 ≡ k = omega arith in
    ap (λ (i : ℕ). get_or now i d) (sym none)
    ∙ sym (get_or-drop k now 0 d)
    ∙ ap (λ (l : List _). get_or l 0 d) f.back
    ∙ get_or-drop k before 0 d
    ∙ ap (λ (i : ℕ). get_or before i d) none

-- ## Counting the slots of each row

-- No slot is counted yet.
cleared-counts : (a : ℕ) (l : List ℕ) → map {B = ℕ} (λ _. 0) l ≡ map {B = ℕ} (λ _. 0) (numbers_from a (length l))
cleared-counts a [] = refl
cleared-counts a (x ∷ l) = ap (λ (m : List ℕ). 0 ∷ m) (cleared-counts (suc a) l)

pub counts-none : (l : List ℕ) → map (λ _. 0) l ≡ slot_counts [] (length l)
counts-none l = cleared-counts 0 l

-- A cell for each row.
pub length-counts : (rows : List ℕ) (n : ℕ) → length (slot_counts rows n) ≡ n
length-counts rows n = length-map (numbers_from 0 n) (λ r. count_of (λ x. eqb x r) rows) ∙ length-numbers 0 n

-- The cell of a row.
count_at : (rows : List ℕ) (n r : ℕ) → r < n → get_or (slot_counts rows n) r 0 ≡ count_of (λ x. eqb x r) rows
count_at rows n r h =
    let sum : 0 + r ≡ r = omega arith in
    numbers-at (λ i. count_of (λ x. eqb x i) rows) 0 0 n r h ∙ ap (λ (i : ℕ). count_of (λ x. eqb x i) rows) sum

-- A row has no more slots than there are.
pub slot-count-small : (rows : List ℕ) (n r : ℕ) → r < n → get_or (slot_counts rows n) r 0 ≤ length rows
slot-count-small rows n r h = omega (arith, count_at rows n r h, count-le (λ x. eqb x r) rows)

-- One slot more: its row has one more, if it is one.
counts-more : (rows : List ℕ) (x n : ℕ) → set (slot_counts rows n) x (get_or (slot_counts rows n) x 0 + 1) ≡ slot_counts (rows ++ (x ∷ [])) n
counts-more rows x n =
    let old : List ℕ = slot_counts rows n in
    let v : ℕ = get_or old x 0 + 1 in
    let size : length (set old x v) ≡ n = length-set old x v ∙ length-counts rows n in
    ext_get_or 0 (set old x v) (slot_counts (rows ++ (x ∷ [])) n) (size ∙ sym (length-counts (rows ++ (x ∷ [])) n))
    (λ r l. let inside : r < n = omega arith in
    let room : r < length old = omega (arith, length-counts rows n) in
    let new : get_or (slot_counts (rows ++ (x ∷ [])) n) r 0 ≡ count_of (λ y. eqb y r) rows + count_of (λ y. eqb y r) (x ∷ []) =
    count_at (rows ++ (x ∷ [])) n r inside ∙ count-append (λ y. eqb y r) rows (x ∷ []) in
    cases (eqb x r)
    (λ g. let e : x ≡ r = eqb-true x r g in
    ap (λ (i : ℕ). get_or (set old i (get_or old i 0 + 1)) r 0) e
    ∙ get_or-set_same old r (get_or old r 0 + 1) 0 room
    ∙ ap (λ (m : ℕ). m + 1) (count_at rows n r inside)
    ∙ sym (new ∙ simp g))
    (λ g. get_or-set_other old x r v 0 (λ e. eqb-false x r g (sym e))
    ∙ count_at rows n r inside
    ∙ sym (new ∙ simp g (omega arith))))

module _ (rows : List ℕ) (i n : ℕ) (h : i < length rows) where
  -- The next slot has a row.
  pub counts-next : set (slot_counts (take i rows) n) (get_or rows i 0) (get_or (slot_counts (take i rows) n) (get_or rows i 0) 0 + 1)
      ≡ slot_counts (take (i + 1) rows) n
  counts-next =
      counts-more (take i rows) (get_or rows i 0) n
      ∙ ap (λ (l : List ℕ). slot_counts l n) (sym (take-suc rows i 0 h) ∙ ap (λ (j : ℕ). take j rows) (sym (add-one i)))

  -- It has none.
  pub counts-outside : n ≤ get_or rows i 0 → slot_counts (take i rows) n ≡ slot_counts (take (i + 1) rows) n
  counts-outside l =
      sym (set_out (slot_counts (take i rows) n) (get_or rows i 0) _ (omega (arith, length-counts (take i rows) n))) ∙ counts-next

-- Counts in the front of a slice, where the front was lent.
pub counts-written : (rows before counts : List ℕ) (n : ℕ) → n ≤ length before → counts ≡ slot_counts rows (length (take n before))
    → counts ++ drop n before ≡ written (slot_counts rows n) before
counts-written rows before counts n h e =
    ap₂ (λ (l : List ℕ) (k : ℕ). l ++ drop k before) (e ∙ ap (slot_counts rows) (length-take-le n before h)) (sym (length-counts rows n))

-- The slots before i are counted, by the rows in their cells.
pub record SlotsCounting (slots counts₀ counts : List ℕ) (i : ℕ) : Type 0 where
  pub inside : i ≤ length slots
  pub cells : counts ≡ slot_counts (take i (rows_in_cells slots)) (length counts₀)

-- Cells of 0 count no slot.
pub slots-counting-none : (slots before counts : List ℕ) → counts ≡ map (λ _. 0) before → SlotsCounting slots counts counts 0
slots-counting-none slots before counts e =
    record {
      inside = omega arith;
      cells = e ∙ counts-none before ∙ ap (slot_counts []) (sym (ap length e ∙ length-map before (λ _. 0)));
    }

module _ (slots counts₀ counts : List ℕ) (i : ℕ) (q : SlotsCounting slots counts₀ counts i) where
  -- As many cells as at first.
  pub slots-counting-long : length counts ≡ length counts₀
  slots-counting-long = ap length q.cells ∙ length-counts (take i (rows_in_cells slots)) (length counts₀)

  -- As many rows as slots.
  rows_long : length (rows_in_cells slots) ≡ length slots
  rows_long = length-map slots (λ x. x % cell_rows)

  module _ (h : i < length slots) where
    -- The row in the next slot's cell.
    row-in-cell : get_or (rows_in_cells slots) i 0 ≡ get_or slots i 0 % cell_rows
    row-in-cell = get_or-map (λ x. x % cell_rows) slots i 0

    -- So few that one more has room.
    pub slots-counting-few : (row : ℕ) → row < length counts → get_or counts row 0 ≤ i
    slots-counting-few row l =
        let r = rows_long in
        let n = q.inside in
        omega (
          arith,
          ap (λ (l : List ℕ). get_or l row 0) q.cells,
          slot-count-small (take i (rows_in_cells slots)) (length counts₀) row (omega (arith, slots-counting-long)),
          length-take-le i (rows_in_cells slots) (omega arith),
        )

    -- The next slot is counted.
    pub slots-counting-next : SlotsCounting slots counts₀ (set counts (get_or slots i 0 % cell_rows) (get_or counts (get_or slots i 0 % cell_rows) 0 + 1)) (i + 1)
    slots-counting-next =
        let r = rows_long in
        record {
          inside = omega arith;
          cells =
              ap (λ (n : ℕ). set counts n (get_or counts n 0 + 1)) (sym row-in-cell)
              ∙ ap (λ (l : List ℕ). set l (get_or (rows_in_cells slots) i 0) (get_or l (get_or (rows_in_cells slots) i 0) 0 + 1)) q.cells
              ∙ counts-next (rows_in_cells slots) i (length counts₀) (omega arith);
        }

    -- It has no row.
    pub slots-counting-past : length counts ≤ get_or slots i 0 % cell_rows → SlotsCounting slots counts₀ counts (i + 1)
    slots-counting-past l =
        let r = rows_long in
        let e = row-in-cell in
        record {
          inside = omega arith;
          cells = q.cells ∙ counts-outside (rows_in_cells slots) i (length counts₀) (omega arith) (omega (arith, slots-counting-long));
        }

  -- All slots are counted.
  pub slots-counting-done : (before : List ℕ) → counts₀ ≡ map (λ _. 0) before → length slots ≤ i → counts ≡ slot_counts (rows_in_cells slots) (length before)
  slots-counting-done before e h =
      let r = rows_long in
      q.cells ∙ ap₂ slot_counts (take_all i (rows_in_cells slots) (omega arith)) (ap length e ∙ length-map before (λ _. 0))

-- ## What is written of slots

-- What `write_slots` leaves, by its three bounds.
pub slots-written : (slots : List ℕ) (n : ℕ) (holders₀ holders₁ held₀ counts : List ℕ) (p q r : ℕ) → p ≡ min most_slots (length slots)
    → q ≡ min (length holders₀) p → r ≡ min n (length held₀) → holders₁ ≡ written (map cell_word (take q (take p slots))) holders₀
    → counts ≡ slot_counts (rows_in_cells (take p slots)) (length (take r held₀)) → SlotsWritten slots n holders₀ holders₁ held₀ (counts ++ drop r held₀)
slots-written slots n holders₀ holders₁ held₀ counts p q r e f g h k =
    let first : take p slots ≡ take most_slots slots = ap (λ (i : ℕ). take i slots) e ∙ take_min most_slots slots in
    let long : length (take p slots) ≡ p = length-take-le p slots (omega (arith, e)) in
    let front : take q (take p slots) ≡ take (length holders₀) (take most_slots slots) =
    ap (λ (i : ℕ). take i (take p slots)) (f ∙ ap (min (length holders₀)) (sym long)) ∙ take_min (length holders₀) (take p slots) ∙ ap (take (length holders₀)) first in
    record {
      holders = h ∙ ap (λ (l : List ℕ). written (map cell_word l) holders₀) front;
      held =
          counts-written (rows_in_cells (take p slots)) held₀ counts r (omega (arith, g)) k
          ∙ ap₂ (λ (l : List ℕ) (m : ℕ). written (slot_counts (rows_in_cells l) m) held₀) first g;
    }

-- For callers: all of them, where they find room.
pub slots-put : {slots : List ℕ} {n : ℕ} {holders₀ holders₁ held₀ held₁ : List ℕ} → SlotsRoom slots n holders₀ held₀ → SlotsWritten slots n holders₀ holders₁ held₀ held₁
    → SlotsPut slots n holders₀ holders₁ held₀ held₁
slots-put {slots} {n} {holders₀} {holders₁} {held₀} room w =
    let few : take most_slots slots ≡ slots = take_all most_slots slots room.few in
    let fits : take (length holders₀) (take most_slots slots) ≡ slots = ap (take (length holders₀)) few ∙ take_all (length holders₀) slots room.holders in
    let rows : min n (length held₀) ≡ n = omega (arith, room.held) in
    record {
      holders = w.holders ∙ ap (λ (l : List ℕ). written (map cell_word l) holders₀) fits;
      held = w.held ∙ ap₂ (λ (l : List ℕ) (m : ℕ). written (slot_counts (rows_in_cells l) m) held₀) few rows;
    }
