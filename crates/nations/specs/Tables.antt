-- What the reading of tables asks of their cells. Inner definitions: they are how the nations are computed.
use Rattle.std.specs.Prelude.{◌≡◌, ℕ, ◌≤◌, ◌<◌, All, leb, length}
use Rattle.sorting.specs.Sort.{sort_by}
use Rattle.nation_tables.specs.Layout.{key_rows, key_numbers, row_key_span, short_span}
use Rattle.nation_tables.specs.Lookup.{row_in}
use Rattle.nation_tables.specs.Gathering.{Cells}
use Rattle.nations.specs.Walks.{Chained}

-- A key of an initial is one of a word, and of a row that each table of rows has.
pub record KeyInside (w : Cells) (key : ℕ) : Type 0 where
  pub tagged : row_in key < length w.tags
  pub started : row_in key < length w.started
  pub loses : row_in key < length w.losses
  pub gains : row_in key < length w.gains
  pub narrow : key < row_key_span

-- Chains that rise, keys in order, and rows that are countries'.
pub record Readable (w : Cells) : Type 0 where
  pub chained : Chained w.keys w.olds w.news
  pub runs : sort_by leb w.runs ≡ w.runs
  pub initials : sort_by leb w.initials ≡ w.initials
  pub few : length w.initials ≤ key_rows
  pub few_runs : length w.runs ≤ key_numbers
  pub inside : All (KeyInside w) w.initials
  pub started : All (λ n. n ≤ short_span) w.started
