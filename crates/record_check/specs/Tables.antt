-- Tables that tell of every byte, and of every number of month and day, whether it is good; no public promise cites them.
use Rattle.std.specs.Prelude.{◌≡◌, Bool, false, List, ℕ, ◌<◌, ◌≤◌, length, get_or}
use Rattle.format.specs.Tags.{tag_byte}
use Rattle.format.specs.Days.{is_day}

-- A table that holds for every number whether it is a tag's byte.
pub record TagTable (table : List Bool) : Type 0 where
  pub rule : (b : ℕ) → get_or table b false ≡ tag_byte b

-- A table that holds for every number whether it is month×100 + day of a day.
pub record DayTable (table : List Bool) : Type 0 where
  pub rule : (k : ℕ) → get_or table k false ≡ is_day k

-- Such a table while it is filled: whole below a number, and without a mark from there on.
pub record DaysTo (table : List Bool) (end : ℕ) : Type 0 where
  pub size : length table ≡ 10000
  pub below : (k : ℕ) → k < end → get_or table k false ≡ is_day k
  pub rest : (k : ℕ) → end ≤ k → get_or table k false ≡ false
