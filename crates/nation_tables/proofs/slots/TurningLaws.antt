-- Turns by rows give each country row the lives of its country, and in the end the slots that it holds, if no tag stands twice.
use mathlib.Core.Path.{◌≡◌, refl, sym, ap, ap₂, ◌∙◌}
use mathlib.Core.Bool.{Bool, true, false, ◌||◌}
use mathlib.Core.List.{List, [], ◌∷◌, map}
use mathlib.Core.Option.{Option, none, some}
use Prim.Native.Nat.{ℕ, zero, suc, ◌+◌, ◌*◌, ◌/◌, ◌%◌, ◌≤◌, ◌<◌}
use native.Mathlib.Omega.{arith}
use borrow.Author.Tests.{eqb-true, eqb-false, lt-ltb, eq-eqb, ne_eqb}
use lib.Dec.{ltb, eqb}
use lib.ListN.{length, get_or, set, length-set, length-map, get_or-map}
use lib.Seq.{ext_get_or}
use Rattle.lists.specs.Lists.{any_of, count_of, one, twice, numbers_from}
use Rattle.lists.proofs.BoolLaws.{cases, neither}
use Rattle.lists.proofs.ListLaws.{map-then, length-numbers, numbers-at, count_set, count-pos}
use Rattle.lists.proofs.ElementLaws.{at-any}
use Rattle.lists.specs.Lists.{All}
use Rattle.format.specs.declared.tag.CountryTag.{CountryTag}
use Rattle.format.specs.declared.date.Eu4Date.{Eu4Date}
use Rattle.format.specs.Tags.{same_tag}
use Rattle.format.specs.Campaign.{Campaign, Country}
use Rattle.format.specs.declared.values.Entry.{Entry}
use Rattle.rules.specs.Nations.{matches, Move, Turn, start_holders, moves_of, turns_from, turns_of, turn_count, lives_from, lives_of, held_ever, holders_of, held_of}
use Rattle.rules.specs.NationRows.{holder_word}
use Rattle.nation_tables.specs.Layout.{word_span, no_change, no_row, cell_rows, nobody_cell}
use Rattle.nation_tables.specs.Countries.{words_of_tags}
use Rattle.nation_tables.specs.Turning.{RowTurn, first_at, row_tag, row_among, holder_row, row_turn, row_turns_of, row_lived}
use Rattle.nation_tables.specs.Holders.{rows_in_cells, slot_counts, slot_cell, slot_cells, cell_word, Step, turns_along, cells_along}
use Rattle.std.proofs.lemmas.List.{map-set}
use Rattle.nation_tables.proofs.slots.ChainLaws.{first-from}
use Rattle.rules.proofs.LivingLaws.{after_moves, turn-count}
use Rattle.format.specs.Sound.{Sound}
use Rattle.rules.proofs.CampaignLaws.{moves-slots, holders-of}

-- ## Places

pub eqb-sym : (a b : ℕ) → eqb a b ≡ eqb b a
eqb-sym a b =
    cases (eqb a b)
    (λ h. h ∙ sym (eq-eqb b a (sym (eqb-true a b h))))
    (λ h. h ∙ sym (ne_eqb b a (λ e. eqb-false a b h (sym e))))

absent : (y : ℕ) (ys : List ℕ) (r : ℕ) → r < length ys → any_of (eqb y) ys ≡ false → eqb y (get_or ys r 0) ≡ false
absent y [] r l h = absurd (omega arith)
absent y (z ∷ ys) zero l h = (neither (eqb y z) (any_of (eqb y) ys) h).0
absent y (z ∷ ys) (suc r) l h = absent y ys r (omega arith) (neither (eqb y z) (any_of (eqb y) ys) h).1

-- Where nothing stands twice, to be found at a place is to stand there.
pub first-is : (x k : ℕ) (ys : List ℕ) (r : ℕ) → twice ys ≡ false → r < length ys → k + length ys ≤ no_change
    → eqb (first_at x k ys) (k + r) ≡ eqb x (get_or ys r 0)
unfolding first_at
first-is x k [] r d l h = absurd (omega arith)
first-is x k (y ∷ ys) zero d l h =
    cases (eqb y x)
    (λ e. simp (e, eqb-sym x y) (eq-eqb k (k + 0) (omega arith)))
    (λ e. let f : suc k ≤ first_at x (suc k) ys = first-from x (suc k) ys (omega arith) in
    simp (e, eqb-sym x y) (ne_eqb (first_at x (suc k) ys) (k + 0) (λ g. omega arith)))
first-is x k (y ∷ ys) (suc r) d l h =
    let f = neither (any_of (eqb y) ys) (twice ys) d in
    let s : suc k + r ≡ k + suc r = omega arith in
    cases (eqb y x)
    (λ e. let g : y ≡ x = eqb-true y x e in
    simp e (ne_eqb k (k + suc r) (λ w. omega arith) ∙ sym (rw (← g) (absent y ys r (omega arith) f.0))))
    (λ e. simp e (rw (← s) (first-is x (suc k) ys r f.1 (omega arith) (omega arith))))

-- ## One country by its row

module _ (tags : List ℕ) (r : ℕ) (single : twice tags ≡ false) (inside : r < length tags) (few : length tags ≤ no_change) where
  abbrev tag : CountryTag
  tag = record { 0 = get_or tags r 0 }

  row_is : (t : CountryTag) → eqb (row_among tags t) r ≡ same_tag t tag
  row_is t =
      let e : 0 + r ≡ r = omega arith in
      ap (eqb (row_among tags t)) (sym e) ∙ first-is t.0 0 tags r single inside (omega arith)

  holder-is : (h : Option CountryTag) → eqb (holder_row tags h) r ≡ matches tag h
  holder-is none = ne_eqb no_row r (λ e. omega arith)
  holder-is (some t) = row_is t

  -- As many have the row as match the tag.
  count-rows : (hs : List (Option CountryTag)) → count_of (λ x. eqb x r) (map (holder_row tags) hs) ≡ count_of (matches tag) hs
  count-rows [] = refl
  count-rows (h ∷ hs) = simp (holder-is h, count-rows hs)

  pub row-entries : (start : Eu4Date) (xs : List Turn) (n : ℕ)
      → (row_lived start r (map (row_turn tags) xs) n).entries ≡ lives_from start tag xs n
  unfolding row_lived lives_from
  row-entries start [] n = refl
  row-entries start (x ∷ xs) n = simp (holder-is x.old, row_is x.new, row-entries start xs)

  -- The invariant: the number that the country stands at is the number of slots that it holds.
  pub row-held : (start : Eu4Date) (ms : List Move) (holders : List (Option CountryTag)) (n : ℕ)
      → All (λ m. m.slot.0 < length holders) ms → n ≡ count_of (matches tag) holders
      → (row_lived start r (map (row_turn tags) (turns_from holders ms)) n).held ≡ count_of (matches tag) (after_moves ms holders)
  unfolding row_lived turns_from
  row-held start [] holders n q e = e
  row-held start (m ∷ ms) holders n q e =
      let holders' : List (Option CountryTag) = set holders m.slot.0 (some m.holder) in
      let loses : Bool = matches tag (get_or holders m.slot.0 none) in
      let gains : Bool = same_tag m.holder tag in
      let n' : ℕ = count_of (matches tag) holders' in
      let s : n' + one loses ≡ n + one gains = simp e (count_set (matches tag) holders m.slot.0 (some m.holder) none q.0) in
      let pos : loses ≡ true → 0 < n = λ h. simp e (count-pos (matches tag) holders m.slot.0 none q.0 h) in
      let counted : turn_count (eqb (holder_row tags (get_or holders m.slot.0 none)) r) (eqb (row_among tags m.holder) r) n ≡ n' =
      simp (holder-is (get_or holders m.slot.0 none), row_is m.holder) (turn-count loses gains n n' s pos) in
      ap (λ (j : ℕ). (row_lived start r (map (row_turn tags) (turns_from holders' ms)) j).held) counted
      ∙ row-held start ms holders' n' (simp length-set q.1) refl

-- ## The campaign

image-at : {A : Type 0} (f : ℕ → A) (l : List ℕ) (i : ℕ) (d : A) → i < length l → get_or (map f l) i d ≡ f (get_or l i 0)
image-at f l i d h = at-any (map f l) i d (f 0) (omega (arith, length-map l f)) ∙ get_or-map f l i 0

held_at : (c : Campaign) (r : ℕ) → r < length (words_of_tags c.countries) → get_or (held_of c) r 0 ≡ count_of (matches (row_tag c r)) (holders_of c)
unfolding held_of
held_at c r inside =
    ap (λ (l : List ℕ). get_or l r 0) (sym (map-then (λ k. k.tag.0) (λ w. count_of (matches (record { 0 = w })) (holders_of c)) c.countries))
    ∙ image-at (λ w. count_of (matches (record { 0 = w })) (holders_of c)) (words_of_tags c.countries) r 0 inside

-- The lives of a row are those of its country, and the slots that it holds are those of its cell.
pub row-lived : (c : Campaign) (r : ℕ) → twice (words_of_tags c.countries) ≡ false → r < length (words_of_tags c.countries) → length (words_of_tags c.countries) ≤ no_change → Sound c
    → row_lived c.start r (row_turns_of c) (count_of (matches (row_tag c r)) (start_holders c))
    ≡ record { entries = lives_of c (row_tag c r); held = get_or (held_of c) r 0 }
unfolding row_turns_of lives_of turns_of
row-lived c r single inside few q =
    let n : ℕ = count_of (matches (row_tag c r)) (start_holders c) in
    ap₂ (λ (es : List Entry) (h : ℕ). record { entries = es; held = h })
    (row-entries (words_of_tags c.countries) r single inside few c.start (turns_of c) n)
    (row-held (words_of_tags c.countries) r single inside few c.start (moves_of c) (start_holders c) n (moves-slots c q) refl
    ∙ (ap (count_of (matches (row_tag c r))) (sym (holders-of c)) ∙ sym (held_at c r inside)))

-- ## With only the cells of the slots kept

at_map : {A B : Type 0} (f : A → B) (l : List A) (i : ℕ) (d : A) → f (get_or l i d) ≡ get_or (map f l) i (f d)
at_map f [] i d = refl
at_map f (x ∷ l) zero d = refl
at_map f (x ∷ l) (suc i) d = at_map f l i d

-- What is found has 16 bits.
first_small : (x k : ℕ) (ys : List ℕ) → k + length ys ≤ no_change → first_at x k ys < cell_rows
unfolding first_at
first_small x k [] h = omega arith
first_small x k (y ∷ ys) h = cases (eqb y x) (λ e. simp e (omega arith)) (λ e. simp e (first_small x (suc k) ys (omega arith)))

-- The parts of a cell.
low_half : (w r : ℕ) → r < cell_rows → (w * cell_rows + r) % cell_rows ≡ r
low_half w r h = omega arith

high_part : (w r : ℕ) → r < cell_rows → w < word_span → cell_word (w * cell_rows + r) ≡ w
high_part w r h l = let q : (w * cell_rows + r) / cell_rows ≡ w = omega arith in rw q (omega arith)

-- A move as the pass meets it.
abbrev pub step_of : List ℕ → Move → Step
step_of tags m = record { date = m.date; slot = m.slot.0; cell = slot_cell tags (some m.holder) }

-- All moves of a campaign.
abbrev pub steps_in : Campaign → List Step
steps_in c = map (step_of (words_of_tags c.countries)) (moves_of c)

-- A cell has the word and the row of its holder.
pub cell_parts : (tags : List ℕ) (h : Option CountryTag) → slot_cell tags h ≡ holder_word h * cell_rows + holder_row tags h
cell_parts tags none = refl
cell_parts tags (some t) = refl

module _ (tags : List ℕ) (few : length tags ≤ no_change) where
  cell_row : (h : Option CountryTag) → slot_cell tags h % cell_rows ≡ holder_row tags h
  cell_row none = refl
  cell_row (some t) = low_half t.0 (row_among tags t) (first_small t.0 0 tags (omega arith))

  pub cell-rows : (hs : List (Option CountryTag)) → rows_in_cells (map (slot_cell tags) hs) ≡ map (holder_row tags) hs
  cell-rows [] = refl
  cell-rows (h ∷ hs) = ap₂ (λ (r : ℕ) (l : List ℕ). r ∷ l) (cell_row h) (cell-rows hs)

  cell-word : (h : Option CountryTag) → holder_word h < word_span → cell_word (slot_cell tags h) ≡ holder_word h
  cell-word none l = refl
  cell-word (some t) l = high_part t.0 (row_among tags t) (first_small t.0 0 tags (omega arith)) l

  pub cell-words : (hs : List (Option CountryTag)) → All (λ h. holder_word h < word_span) hs → map cell_word (map (slot_cell tags) hs) ≡ map holder_word hs
  cell-words [] q = refl
  cell-words (h ∷ hs) q = ap₂ (λ (w : ℕ) (l : List ℕ). w ∷ l) (cell-word h q.0) (cell-words hs q.1)

  -- The turns that moves give, from the cells of the holders on.
  pub rows-kept : (ms : List Move) (holders : List (Option CountryTag))
      → map (row_turn tags) (turns_from holders ms) ≡ turns_along (map (slot_cell tags) holders) (map (step_of tags) ms)
  unfolding turns_from turns_along
  rows-kept [] holders = refl
  rows-kept (m ∷ ms) holders =
      let slot : ℕ = m.slot.0 in
      let next : List (Option CountryTag) = set holders slot (some m.holder) in
      let old : holder_row tags (get_or holders slot none) ≡ get_or (map (slot_cell tags) holders) slot nobody_cell % cell_rows =
      sym (cell_row (get_or holders slot none)) ∙ ap (λ (x : ℕ). x % cell_rows) (at_map (slot_cell tags) holders slot none) in
      let rest : map (row_turn tags) (turns_from next ms) ≡ turns_along (set (map (slot_cell tags) holders) slot (slot_cell tags (some m.holder))) (map (step_of tags) ms) =
      rows-kept ms next ∙ ap (λ (l : List ℕ). turns_along l (map (step_of tags) ms)) (map-set (slot_cell tags) holders slot (some m.holder)) in
      ap₂ (λ (a b : ℕ). record { date = m.date; old = a; new = b } ∷ map (row_turn tags) (turns_from next ms)) old (sym (cell_row (some m.holder)))
      ∙ ap (λ (l : List RowTurn). record { date = m.date; old = get_or (map (slot_cell tags) holders) slot nobody_cell % cell_rows; new = slot_cell tags (some m.holder) % cell_rows } ∷ l) rest

  -- The cells of the holders after moves.
  pub cells-after : (ms : List Move) (holders : List (Option CountryTag))
      → map (slot_cell tags) (after_moves ms holders) ≡ cells_along (map (step_of tags) ms) (map (slot_cell tags) holders)
  unfolding cells_along
  cells-after [] holders = refl
  cells-after (m ∷ ms) holders =
      cells-after ms (set holders m.slot.0 (some m.holder))
      ∙ ap (cells_along (map (step_of tags) ms)) (map-set (slot_cell tags) holders m.slot.0 (some m.holder))

-- What all holders have before moves and each new one has, they have after them.
module _ (P : Option CountryTag → Type 0) where
  all_set : (l : List (Option CountryTag)) (i : ℕ) (v : Option CountryTag) → All P l → P v → All P (set l i v)
  all_set [] i v q p = tt
  all_set (x ∷ l) zero v q p = (p, q.1)
  all_set (x ∷ l) (suc i) v q p = (q.0, all_set l i v q.1 p)

  pub all_after : (ms : List Move) (holders : List (Option CountryTag)) → All (λ m. P (some m.holder)) ms → All P holders → All P (after_moves ms holders)
  all_after [] holders ps q = q
  all_after (m ∷ ms) holders ps q =
      all_after ms (set holders m.slot.0 (some m.holder)) ps.1 (all_set holders m.slot.0 (some m.holder) q ps.0)

module _ (c : Campaign) (few : length (words_of_tags c.countries) ≤ no_change) where
  -- The campaign's turns, from the cells of the start holders on.
  pub row-turns : row_turns_of c ≡ turns_along (slot_cells c (start_holders c)) (steps_in c)
  unfolding row_turns_of turns_of
  row-turns = rows-kept (words_of_tags c.countries) few (moves_of c) (start_holders c)

  -- The cells of the holders after the last change.
  pub holder-cells : slot_cells c (holders_of c) ≡ cells_along (steps_in c) (slot_cells c (start_holders c))
  holder-cells = ap (slot_cells c) (holders-of c) ∙ cells-after (words_of_tags c.countries) few (moves_of c) (start_holders c)

-- How many slots have each row is how many slots each country holds, if no tag stands twice.
pub counts-held : (tags : List ℕ) → twice tags ≡ false → length tags ≤ no_change → (holders : List (Option CountryTag))
    → slot_counts (map (holder_row tags) holders) (length tags) ≡ map (λ w. count_of (matches (record { 0 = w })) holders) tags
counts-held tags single few holders =
    let rows : List ℕ = map (holder_row tags) holders in
    let size : length (slot_counts rows (length tags)) ≡ length tags =
    length-map (numbers_from 0 (length tags)) (λ r. count_of (λ x. eqb x r) rows) ∙ length-numbers 0 (length tags) in
    ext_get_or 0 (slot_counts rows (length tags)) (map (λ w. count_of (matches (record { 0 = w })) holders) tags)
    (size ∙ sym (length-map tags (λ w. count_of (matches (record { 0 = w })) holders)))
    (λ r l. let inside : r < length tags = omega arith in
    let sum : 0 + r ≡ r = omega arith in
    numbers-at (λ i. count_of (λ x. eqb x i) rows) 0 0 (length tags) r inside
    ∙ ap (λ (i : ℕ). count_of (λ x. eqb x i) rows) sum
    ∙ count-rows tags r single inside few holders
    ∙ sym (image-at (λ w. count_of (matches (record { 0 = w })) holders) tags r 0 inside))

-- ## Who held a slot ever

pub first_any : (x k : ℕ) (ys : List ℕ) → k + length ys ≤ no_change → ltb (first_at x k ys) no_change ≡ any_of (λ y. eqb y x) ys
unfolding first_at
first_any x k [] h = refl
first_any x k (y ∷ ys) h =
    cases (eqb y x) (λ e. simp e (lt-ltb k no_change (omega arith))) (λ e. simp e (first_any x (suc k) ys (omega arith)))

any-positive : {A : Type 0} (p : A → Bool) (xs : List A) → any_of p xs ≡ ltb 0 (count_of p xs)
any-positive p [] = refl
any-positive p (x ∷ xs) =
    cases (p x) (λ h. simp h (sym (lt-ltb 0 (suc (count_of p xs)) (omega arith)))) (λ h. simp h (any-positive p xs))

module _ (tags : List ℕ) (r : ℕ) (single : twice tags ≡ false) (inside : r < length tags) (few : length tags ≤ no_change) where
  gains-any : (ms : List Move) (holders : List (Option CountryTag))
      → any_of (λ y. eqb y r) (map (λ x. x.new) (map (row_turn tags) (turns_from holders ms)))
      ≡ any_of (λ m. same_tag m.holder (record { 0 = get_or tags r 0 })) ms
  unfolding turns_from
  gains-any [] holders = refl
  gains-any (m ∷ ms) holders =
      ap₂ (λ (a b : Bool). a || b) (row_is tags r single inside few m.holder) (gains-any ms (set holders m.slot.0 (some m.holder)))

-- A country held a slot ever if it starts with one, or its row gains one.
pub held-ever : (c : Campaign) (k : Country) (r : ℕ) → k.tag.0 ≡ get_or (words_of_tags c.countries) r 0 → twice (words_of_tags c.countries) ≡ false → r < length (words_of_tags c.countries)
    → length (words_of_tags c.countries) ≤ no_change → length (row_turns_of c) ≤ no_change
    → held_ever c k
    ≡ (ltb 0 (count_of (matches (row_tag c r)) (start_holders c)) || ltb (first_at r 0 (map (λ x. x.new) (row_turns_of c))) no_change)
unfolding held_ever row_turns_of turns_of
held-ever c k r tag single inside few short =
    let news : List ℕ = map (λ x. x.new) (row_turns_of c) in
    let long : 0 + length news ≤ no_change = omega (arith, length-map (row_turns_of c) (λ x. x.new)) in
    ap (λ (w : ℕ). any_of (matches (record { 0 = w })) (start_holders c) || any_of (λ m. same_tag m.holder (record { 0 = w })) (moves_of c)) tag
    ∙ ap₂ (λ (a b : Bool). a || b) (any-positive (matches (row_tag c r)) (start_holders c))
    (sym (first_any r 0 news long ∙ gains-any (words_of_tags c.countries) r single inside few (moves_of c) (start_holders c)))
