-- The nations placed in two lent slices: by what they are counted and written, or left. Inner definitions: they are how the nations are computed.
use Rattle.std.specs.Prelude as code
use Rattle.std.specs.Prelude.{Some, None, ◌≡◌, Bool, true, false, ◌&&◌, List, ℕ, ◌*◌, ◌≤◌, leb, length}
use Rattle.lists.specs.Lists.{join_of}
use Rattle.format.specs.declared.values.Entry.{Entry}
use Rattle.format.specs.declared.values.NationRow.{NationRow}
use Rattle.rules.specs.Chronicle.{Nation}
use Rattle.rules.specs.Lent.{written}
use Rattle.rules.specs.NationRows.{nation_width, entry_width, nation_row_words, nation_words, entry_words}
use Rattle.nations.specs.declared.written_nations.Listed.{Listed}
use Rattle.nations.specs.CountryEntries.{entries_words}

-- ## Rows

-- What the walk over a country's entries leaves in a slice: their rows, and how many they are.
pub record EntriesWritten (entries : List Entry) (count : ℕ) (before after : List ℕ) : Type 0 where
  pub counted : count ≡ length entries
  pub cells : after ≡ written (entries_words entries) before

-- The row of a nation whose entries begin at a number.
abbrev pub nation_row : ℕ → Nation → NationRow
nation_row first n = record { initial = n.initial; latest = n.latest; stored = n.stored; first = first; count = length n.entries }

-- Room for the row of a nation and for those of its entries.
pub record NationRoom (n : Nation) (rows₀ entries₀ : List ℕ) : Type 0 where
  pub row : nation_width ≤ length rows₀
  pub entries : entry_width * length n.entries ≤ length entries₀

-- They are written.
pub record NationPut (n : Nation) (first count : ℕ) (rows₀ rows₁ entries₀ entries₁ : List ℕ) : Type 0 where
  pub row : rows₁ ≡ written (nation_row_words (nation_row first n)) rows₀
  pub told : EntriesWritten n.entries count entries₀ entries₁

-- Room for the rows of nations and of their entries.
pub record NationsRoom (ns : List Nation) (rows₀ entries₀ : List ℕ) : Type 0 where
  pub rows : length (nation_words ns) ≤ length rows₀
  pub entries : length (entry_words ns) ≤ length entries₀

-- They are written.
pub record NationsWritten (ns : List Nation) (rows₀ rows₁ entries₀ entries₁ : List ℕ) : Type 0 where
  pub rows : rows₁ ≡ written (nation_words ns) rows₀
  pub entries : entries₁ ≡ written (entry_words ns) entries₀

-- How many nations, and how many entries they have.
abbrev pub listed_of : List Nation → Listed
listed_of ns = record { nations = length ns; entries = length (join_of (λ n. n.entries) ns) }

-- ## Placed or left

-- Slices of these lengths have room for so many nations and entries.
abbrev pub nations_for : Listed → ℕ → ℕ → Bool
nations_for r nations entries = leb (nation_width * r.nations) nations && leb (entry_width * r.entries) entries

-- The nations and their entries are written, and counted.
pub record PlacedRows (ns : List Nation) (r : Listed) (rows₀ rows₁ entries₀ entries₁ : List ℕ) : Type 0 where
  pub listed : r ≡ listed_of ns
  pub room : nations_for (listed_of ns) (length rows₀) (length entries₀) ≡ true
  pub put : NationsWritten ns rows₀ rows₁ entries₀ entries₁

-- A slice is too short for them: none is written, and both slices are as they were.
pub record NonePlaced (ns : List Nation) (rows₀ rows₁ entries₀ entries₁ : List ℕ) : Type 0 where
  pub short : nations_for (listed_of ns) (length rows₀) (length entries₀) ≡ false
  pub rows : rows₁ ≡ rows₀
  pub entries : entries₁ ≡ entries₀

-- Which of these it was.
abbrev pub placed_told : List Nation → code.Option Listed → List ℕ → List ℕ → List ℕ → List ℕ → Type 0
placed_told ns (Some r) rows₀ rows₁ entries₀ entries₁ = PlacedRows ns r rows₀ rows₁ entries₀ entries₁
placed_told ns None rows₀ rows₁ entries₀ entries₁ = NonePlaced ns rows₀ rows₁ entries₀ entries₁
