-- One pass over the sorted changes that writes the old and the new row of each, and keeps the cell of each slot. The invariant:
-- what is written so far, before what the steps still to come give, is what all steps give.
use mathlib.Core.Path.{◌≡◌, refl, sym, ap, ap₂, ◌∙◌}
use mathlib.Core.List.{List, [], ◌∷◌, map}
use Prim.Native.Nat.{ℕ, suc, ◌+◌, ◌%◌, ◌≤◌, ◌<◌}
use native.Mathlib.Omega.{arith}
use lib.ListN.{length, get_or, set, drop, length-set, length-map}
use Rattle.lists.proofs.ListLaws.{map-then}
use Rattle.lists.proofs.FillLaws.{Filling, filling-new, filling-put, filling-whole}
use Rattle.nation_tables.specs.declared.layout.LossGain.{LossGain}
use Rattle.nation_tables.specs.Layout.{cell_rows, nobody_cell}
use Rattle.nation_tables.specs.Turning.{losses, gains, key_date, Rowed}
use Rattle.nation_tables.specs.Holders.{Step, step_at, steps_of, turns_along, cells_along, turn_cell, Replaced, Passed}
use Rattle.lists.proofs.StepLaws.{map_next, map-end}

-- ## Steps in general

-- A turn for each step.
pub length-along : (slots : List ℕ) (steps : List Step) → length (turns_along slots steps) ≡ length steps
unfolding turns_along
length-along slots [] = refl
length-along slots (x ∷ xs) = ap suc (length-along (set slots x.slot x.cell) xs)

-- The dates of the turns are those of the keys.
turn-dates : (cells keys slots : List ℕ) → map key_date keys ≡ map (λ x. x.date) (turns_along slots (steps_of cells keys))
unfolding turns_along
turn-dates cells [] slots = refl
turn-dates cells (key ∷ keys) slots =
    ap (λ (l : List _). key_date key ∷ l)
    (turn-dates cells keys (set slots (step_at cells key).slot (step_at cells key).cell))

-- What the pass leaves are the turns, by keys and rows.
pub passed-rows : (keys cells slots₀ slots₁ : List ℕ) (turns : List LossGain) → Passed keys cells slots₀ slots₁ turns
    → Rowed keys (losses turns) (gains turns) (turns_along slots₀ (steps_of cells keys))
passed-rows keys cells slots₀ slots₁ turns p =
    record {
      dates = turn-dates cells keys slots₀;
      old_rows = ap losses p.turns ∙ map-then turn_cell (λ x. x.loss) (turns_along slots₀ (steps_of cells keys));
      new_rows = ap gains p.turns ∙ map-then turn_cell (λ x. x.gain) (turns_along slots₀ (steps_of cells keys));
    }

-- ## The loop

-- The steps of the keys passed are done.
pub record PassLoop (keys cells slots₀ : List ℕ) (turns₀ : List LossGain) (slots : List ℕ) (turns : List LossGain) (k : ℕ) : Type 0 where
  pub inside : k ≤ length keys
  pub long : length slots ≡ length slots₀
  pub told :
      Filling (map turn_cell (turns_along slots₀ (steps_of cells keys))) (map turn_cell (turns_along slots (steps_of cells (drop k keys)))) turns₀ k turns
  pub after : cells_along (steps_of cells (drop k keys)) slots ≡ cells_along (steps_of cells keys) slots₀

-- There is a cell for each turn.
length-told : (keys cells slots : List ℕ) → length (map turn_cell (turns_along slots (steps_of cells keys))) ≡ length keys
length-told keys cells slots =
    length-map (turns_along slots (steps_of cells keys)) turn_cell ∙ length-along slots (steps_of cells keys) ∙ length-map keys (step_at cells)

-- Nothing is passed yet.
pub pass-none : (keys cells slots : List ℕ) (turns : List LossGain) → length turns ≡ length keys → PassLoop keys cells slots turns slots turns 0
pass-none keys cells slots turns e =
    record {
      inside = omega arith;
      long = refl;
      told = filling-new _ _ (omega (arith, length-told keys cells slots));
      after = refl;
    }

module _ (keys cells slots₀ : List ℕ) (turns₀ : List LossGain) (slots : List ℕ) (turns : List LossGain) (k : ℕ) (p : PassLoop keys cells slots₀ turns₀ slots turns k) where
  abbrev here : Step
  here = step_at cells (get_or keys k 0)

  -- One step more.
  pub pass_step : k < length keys → (slot cell old : ℕ) (slots' : List ℕ) → slot ≡ here.slot → cell ≡ here.cell → Replaced slots slot cell old slots'
      → PassLoop keys cells slots₀ turns₀ slots' (set turns k (record { loss = old % cell_rows; gain = cell % cell_rows })) (k + 1)
  unfolding turns_along cells_along
  pass_step h slot cell old slots' a b r =
      let next : steps_of cells (drop k keys) ≡ here ∷ steps_of cells (drop (k + 1) keys) = map_next (step_at cells) keys k h in
      let put : slots' ≡ set slots here.slot here.cell = r.cells ∙ ap₂ (set slots) a b in
      let was : old ≡ get_or slots here.slot nobody_cell = r.old ∙ ap (λ (i : ℕ). get_or slots i nobody_cell) a in
      record {
        inside = omega arith;
        long = ap length r.cells ∙ length-set slots slot cell ∙ p.long;
        told =
            rw put
            (filling-put _ _ _ k turns p.told _ _ (ap (λ (l : List Step). map turn_cell (turns_along slots l)) next) _
            (ap₂ (λ (x y : ℕ). record { loss = x % cell_rows; gain = y % cell_rows }) was b));
        after = rw put (ap (λ (l : List Step). cells_along l slots) (sym next) ∙ p.after);
      }

  -- No key is left.
  pub pass-done : length turns₀ ≡ length keys → length keys ≤ k → Passed keys cells slots₀ slots turns
  unfolding turns_along cells_along
  pass-done e h =
      let none : steps_of cells (drop k keys) ≡ [] = map-end (step_at cells) keys k h in
      record {
        turns =
            filling-whole _ _ _ _ _ p.told (ap (λ (l : List Step). map turn_cell (turns_along slots l)) none)
            (e ∙ sym (length-told keys cells slots₀));
        slots = ap (λ (l : List Step). cells_along l slots) (sym none) ∙ p.after;
      }
