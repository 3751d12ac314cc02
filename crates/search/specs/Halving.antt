-- The search among keys, and the table that narrows it. It renders no rule.
use Rattle.std.specs.Prelude.{◌≡◌, Bool, List, map, ℕ, ◌/◌, ◌≤◌, leb, ltb, length}
use Rattle.lists.specs.Lists.{count_of, leading, numbers_from}
use Rattle.sorting.specs.Sort.{sort_by}

-- A cell holds the keys with the same first 12 bits: so many numbers.
abbrev pub keys_per_cell : ℕ
keys_per_cell = 4503599627370496

-- A key is of a cell before this one.
abbrev pub in_cell_before : ℕ → ℕ → Bool
in_cell_before cell key = ltb (key / keys_per_cell) cell

-- For so many cells, how many keys at the front are of cells before each.
abbrev pub starts_of : List ℕ → ℕ → List ℕ
starts_of keys cells = map (λ c. length (leading (in_cell_before c) keys)) (numbers_from 0 cells)

-- How many keys are below a number.
abbrev pub count_below : ℕ → List ℕ → ℕ
count_below x keys = count_of (λ k. ltb k x) keys

-- What a search finds: how many keys are below a number, if they are in order; never more than there are.
pub record CountsBelow (keys : List ℕ) (x count : ℕ) : Type 0 where
  pub inside : count ≤ length keys
  pub counted : sort_by leb keys ≡ keys → count ≡ count_of (λ k. ltb k x) keys
