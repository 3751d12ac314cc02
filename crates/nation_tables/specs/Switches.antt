-- The switches of each country by date, and their targets. Inner: these are how the nations are computed.
use Rattle.std.specs.Prelude.{List, [], ◌∷◌, ◌++◌, map, ℕ, suc, ◌+◌, ◌*◌, ◌%◌, ◌≤◌, ◌<◌, leb, ltb, length, get_or}
use Rattle.lists.specs.Lists.{All, count_of, join_of}
use Rattle.sorting.specs.Sort.{sort_by}
use Rattle.format.specs.declared.tag.CountryTag.{CountryTag}
use Rattle.format.specs.declared.rows.Switch.{Switch}
use Rattle.format.specs.Campaign.{Country}
use Rattle.format.specs.declared.values.Entry.{Entry}
use Rattle.format.specs.declared.values.EntryKind.TheVariants.{TagSwitch}
use Rattle.rules.specs.Nations.{last_target, switch_chain}
use Rattle.rules.specs.NationRows.{target_word}
pub use Rattle.nation_tables.specs.Keys.{run_key, date_in}
use Rattle.nation_tables.specs.Keys.{settling_key, number_in}
use Rattle.nation_tables.specs.Layout.{key_rows, key_numbers, key_tags, word_span, row_span}

-- ## The switches of all countries

-- A switch, the row of its country and its number in the record.
pub record PlacedSwitch : Type 0 where
  pub row : ℕ
  pub number : ℕ
  pub made : Switch

abbrev pub placed : ℕ → ℕ → Switch → PlacedSwitch
placed row number x = record { row = row; number = number; made = x }

-- The switches of the country in a row, the first of which has a number.
unfoldable pub own_placed : ℕ → ℕ → List Switch → List PlacedSwitch
own_placed row k [] = []
own_placed row k (x ∷ xs) = placed row k x ∷ own_placed row (suc k) xs

-- Those of all countries, country by country, rows and switches counted from numbers on.
unfoldable pub all_placed : ℕ → ℕ → List Country → List PlacedSwitch
all_placed row k [] = []
all_placed row k (x ∷ xs) = own_placed row k x.switches ++ all_placed (suc row) (k + length x.switches) xs

-- ## Keys

-- The key of a switch, by the tag that was left, and what is asked of it, beside its row, so that its key has room.
abbrev pub from_key : PlacedSwitch → ℕ
from_key x = settling_key x.made.from.0 x.made.date.0 x.row

abbrev pub FromFits : PlacedSwitch → Type 0
FromFits x = x.made.from.0 < key_tags

-- The same, by the row of its country.
abbrev pub place_key : PlacedSwitch → ℕ
place_key x = run_key x.row x.made.date.0 x.number

abbrev pub NumberFits : PlacedSwitch → Type 0
NumberFits x = x.number < key_numbers

-- The keys of one country's switches, by what a switch has for its key.
abbrev pub own_keys_from : (PlacedSwitch → ℕ) → ℕ → ℕ → List Switch → List ℕ
own_keys_from key_of row at xs = map key_of (own_placed row at xs)

-- What is asked for them: that each has room, and finds a cell.
abbrev pub OwnAsked : (PlacedSwitch → Type 0) → ℕ → ℕ → List Switch → List ℕ → Type 0
OwnAsked fits row at xs cells₀ = (row < key_rows) × (at + length xs ≤ length cells₀) × All fits (own_placed row at xs)

-- The keys of all switches by row, country by country, rows and switches counted from numbers on.
unfoldable pub runs_from : ℕ → ℕ → List Country → List ℕ
runs_from row k ks = map place_key (all_placed row k ks)

-- The keys of all switches, in order.
abbrev pub run_keys : List Country → List ℕ
run_keys ks = sort_by leb (runs_from 0 0 ks)

-- How many of these keys are of rows before a row: there the row's own begin.
abbrev pub run_start : ℕ → List ℕ → ℕ
run_start row keys = count_of (λ k. ltb k (row * row_span)) keys

-- ## Targets

-- The words of the targets of a chain of switches, whose last target is given.
abbrev pub chain_words : CountryTag → List Switch → List ℕ
chain_words end ss = map (λ e. target_word e.kind) (switch_chain end ss)

-- The words of one country's targets, in row order.
abbrev pub own_targets : Country → List ℕ
own_targets k = chain_words (last_target k) k.switches

-- The words of all targets, country by country.
abbrev pub target_words : List Country → List ℕ
target_words ks = join_of own_targets ks

-- A switch's target by its key and the words of all targets.
abbrev pub target_in : List ℕ → ℕ → ℕ
target_in words key = get_or words (number_in key) 0 % word_span

-- The entry of a switch, by its key and the words of all targets.
abbrev pub switch_in : List ℕ → ℕ → Entry
switch_in words key = record { date = record { 0 = date_in key }; kind = TagSwitch (record { 0 = target_in words key }) }
