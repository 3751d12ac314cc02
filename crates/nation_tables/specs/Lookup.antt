-- Keys of country rows and how they are looked up. Inner: these are how the nations are computed.
-- A key ends with the row of a country.
use Rattle.std.specs.Prelude.{Bool, ◌&&◌, List, map, ℕ, leb, ltb}
use Rattle.std.proofs.Math.Option.{Option}
use Rattle.std.proofs.Math.ListN.{get_elem?}
use Rattle.lists.specs.Lists.{keep, last}
pub use Rattle.nation_tables.specs.Keys.{row_in}
pub use Rattle.nation_tables.specs.Layout.{no_row}

-- The key stands from one number on and below another.
abbrev pub in_range : ℕ → ℕ → ℕ → Bool
in_range low high key = leb low key && ltb key high

-- The rows of the keys between two numbers, in the order of the keys.
abbrev pub rows_between : ℕ → ℕ → List ℕ → List ℕ
rows_between low high keys = map row_in (keep (in_range low high) keys)

-- The first of these rows, and the last.
unfoldable pub first_within : ℕ → ℕ → List ℕ → Option ℕ
first_within low high keys = get_elem? (rows_between low high keys) 0

unfoldable pub last_within : ℕ → ℕ → List ℕ → Option ℕ
last_within low high keys = last (rows_between low high keys)
