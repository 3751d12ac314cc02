-- Tables of the countries, and keys by which a country's row is found. Inner: these are how the nations are computed. A row is a country's number in the record, from 0.
use Rattle.std.specs.Prelude.{◌≡◌, Bool, true, cond, ◌&&◌, List, [], ◌∷◌, ◌++◌, map, ℕ, suc, ◌+◌, ◌*◌, ◌≤◌, ◌<◌, eqb, leb, ltb, length, take, drop}
use Rattle.std.proofs.Math.Option
use Rattle.std.proofs.Math.Option.{Option}
use Rattle.std.proofs.Math.ListN.{get_elem?}
use Rattle.lists.specs.Lists.{All, all_of, first_or, last_or}
use Rattle.sorting.specs.Sort.{sort_by}
use Rattle.format.specs.declared.tag.CountryTag.{CountryTag}
use Rattle.format.specs.declared.rows.Switch.{Switch}
use Rattle.format.specs.Campaign.{Country}
use Rattle.rules.specs.Lent.{written}
use Rattle.rules.specs.Nations.{initial_of}
pub use Rattle.nation_tables.specs.Keys.{settling_key}
use Rattle.nation_tables.specs.Keys.{row_key}
use Rattle.nation_tables.specs.Layout.{key_rows, key_dates, key_tags, last_date, no_row, row_number}
use Rattle.nation_tables.specs.Lookup.{last_within}

-- ## Rows

-- The tag of the country in a row, if there is one.
abbrev pub tag_at_row : List Country → ℕ → Option CountryTag
tag_at_row ks row = Option.map (λ k. k.tag) (get_elem? ks row)

-- The countries' tags, in row order.
abbrev pub country_tags : List Country → List CountryTag
country_tags ks = map (λ k. k.tag) ks

-- The words of the countries' tags and initials, in row order.
abbrev pub words_of_tags : List Country → List ℕ
words_of_tags ks = map (λ k. k.tag.0) ks

abbrev pub initial_words : List Country → List ℕ
initial_words ks = map (λ k. (initial_of k).0) ks

-- The places of a word among words, counted from a number on.
unfoldable pub places_of : ℕ → ℕ → List ℕ → List ℕ
places_of word i [] = []
places_of word i (w ∷ ws) = cond (eqb w word) (i ∷ places_of word (suc i) ws) (places_of word (suc i) ws)

-- The row of the country with a tag.
abbrev pub row_of : List Country → CountryTag → ℕ
row_of ks t = first_or no_row (places_of t.0 0 (words_of_tags ks))

-- The last row of a country with an initial.
abbrev pub mapped_row : List Country → CountryTag → ℕ
mapped_row ks t = last_or no_row (places_of t.0 0 (initial_words ks))

-- ## Keys

-- Each word with its row below it, counted from a number on.
unfoldable pub word_keys : ℕ → List ℕ → List ℕ
word_keys row [] = []
word_keys row (w ∷ ws) = row_key w row ∷ word_keys (suc row) ws

-- The keys of words, in order.
abbrev pub row_keys : List ℕ → List ℕ
row_keys ws = sort_by leb (word_keys 0 ws)

-- The row that the keys of initials have for a tag: the last one with it.
abbrev pub initial_row : List ℕ → CountryTag → Option ℕ
initial_row keys t = last_within (t.0 * key_rows) (t.0 * key_rows + key_rows) keys

-- As it stands in a cell.
abbrev pub initial_number : List ℕ → CountryTag → ℕ
initial_number keys t = row_number (initial_row keys t)

-- The key of a switch of the country in a row, by the tag that was left.
abbrev pub switch_key : ℕ → Switch → ℕ
switch_key row x = settling_key x.from.0 x.date.0 row

-- The keys of all switches, country by country, the countries' rows counted from a number on.
unfoldable pub switch_keys_from : ℕ → List Country → List ℕ
switch_keys_from row [] = []
switch_keys_from row (k ∷ ks) = map (switch_key row) k.switches ++ switch_keys_from (suc row) ks

-- The keys of all switches, in order.
abbrev pub switch_keys : List Country → List ℕ
switch_keys ks = sort_by leb (switch_keys_from 0 ks)

-- ## Keys that changes settle by

-- A country with one more switch, from its own tag and dated behind every date: by it a change to that tag settles that no other switch does.
abbrev pub own_switch : Country → Switch
own_switch k = record { date = record { 0 = last_date }; from = k.tag }

abbrev pub with_own : Country → Country
with_own k =
    record {
      tag = k.tag;
      human = k.human;
      was_player = k.was_player;
      has_switched_nation = k.has_switched_nation;
      cities = k.cities;
      previous = k.previous;
      switches = k.switches ++ (own_switch k ∷ []);
    }

-- The keys of all switches and of all countries, country by country, and in order.
abbrev pub settling_keys_from : ℕ → List Country → List ℕ
settling_keys_from row ks = switch_keys_from row (map with_own ks)

abbrev pub settling_keys : List Country → List ℕ
settling_keys ks = switch_keys (map with_own ks)

-- ## What the keys lean on

-- A switch's from and date have room in its key.
abbrev pub small_switch : Switch → Bool
small_switch x = ltb x.from.0 key_tags && ltb x.date.0 key_dates

-- Countries of an accepted record: their rows have room in a key, and so have their switches.
pub record Keyed (ks : List Country) : Type 0 where
  pub few : length ks ≤ key_rows
  pub switches : all_of (λ k. all_of small_switch k.switches) ks ≡ true

-- A country's own key has room, and stands behind those of all switches from its tag.
pub record OwnLast (ks : List Country) : Type 0 where
  pub tags : All (λ k. k.tag.0 < key_tags) ks
  pub dates : All (λ k. All (λ x. x.date.0 < last_date) k.switches) ks

-- ## What the functions leave

-- Room for the tag of each country, and for the word of its initial.
abbrev pub TagsRoom : List Country → List CountryTag → List ℕ → Type 0
TagsRoom ks tags₀ initials₀ = (length ks ≤ length tags₀) × (length ks ≤ length initials₀)

-- The countries' tags, and the words of their initials.
pub record Tabled (ks : List Country) (tags₀ tags₁ : List CountryTag) (initials₀ initials₁ : List ℕ) : Type 0 where
  pub tags : tags₁ ≡ country_tags ks ++ drop (length (country_tags ks)) tags₀
  pub initials : initials₁ ≡ written (initial_words ks) initials₀

-- So many cells in the front of a slice.
pub record Filled (cells : List ℕ) (count : ℕ) (before after : List ℕ) : Type 0 where
  pub counted : count ≡ length cells
  pub filled : after ≡ written cells before

-- Cells in a slice from a place on, and the place behind them.
pub record FilledFrom (cells : List ℕ) (at next : ℕ) (before after : List ℕ) : Type 0 where
  pub behind : next ≡ at + length cells
  pub filled : after ≡ take at before ++ (cells ++ drop (at + length cells) before)
