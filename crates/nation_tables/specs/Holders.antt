-- Who holds each slot, change by change, by rows. Inner: these are how the nations are computed.
use Rattle.std.specs.Prelude.{◌≡◌, false, List, [], ◌∷◌, map, ℕ, suc, ◌+◌, ◌*◌, ◌/◌, ◌%◌, ◌≤◌, ◌<◌, leb, eqb, min, length, get_or, set, take}
use Rattle.std.proofs.Math.Option.{Option, none, some}
use Rattle.lists.specs.Lists.{count_of, numbers_from, twice}
use Rattle.sorting.specs.Sort.{sort_by}
use Rattle.format.specs.declared.tag.CountryTag.{CountryTag}
use Rattle.format.specs.declared.date.Eu4Date.{Eu4Date}
use Rattle.format.specs.Campaign.{Campaign, Country, campaign_of}
use Rattle.format.specs.declared.values.OwnerChange.{OwnerChange}
use Rattle.rules.specs.Lent.{written}
use Rattle.rules.specs.Changes.{changes_of}
use Rattle.rules.specs.Nations.{matches, start_holders, all_switches, settles, holders_of}
use Rattle.owner_changes.specs.ChangeSteps.{entered, per_id, change_keys_from}
use Rattle.nation_tables.specs.Layout.{most_slots, word_span, key_dates, key_tags, cell_rows, nobody_cell}
use Rattle.nation_tables.specs.Countries.{country_tags, words_of_tags, initial_words, row_keys, settling_keys, Keyed, OwnLast}
use Rattle.nation_tables.specs.declared.layout.LossGain as code
use Rattle.nation_tables.specs.Turning.{losses, gains, key_date, row_among, RowTurn, row_turns_of, Rowed}

-- ## Tables

-- The countries' tags, and the keys that changes settle by.
pub record Settler (ks : List Country) (ts : List CountryTag) (ss : List ℕ) : Type 0 where
  pub keyed : Keyed ks
  pub own : OwnLast ks
  pub once : twice (words_of_tags ks) ≡ false
  pub tags : ts ≡ country_tags ks
  pub keys : ss ≡ settling_keys ks

-- The countries' tags by row, the keys of their initials, and the keys that changes settle by.
pub record CountryTables (ks : List Country) (ts : List CountryTag) (is ss : List ℕ) : Type 0 where
  pub tags : ts ≡ country_tags ks
  pub initials : is ≡ row_keys (initial_words ks)
  pub keys : ss ≡ settling_keys ks

-- ## Rows of slots

-- The rows in cells.
abbrev pub rows_in_cells : List ℕ → List ℕ
rows_in_cells cells = map (λ x. x % cell_rows) cells

-- For each of so many rows, how many slots have it.
abbrev pub slot_counts : List ℕ → ℕ → List ℕ
slot_counts rows n = map (λ r. count_of (λ x. eqb x r) rows) (numbers_from 0 n)

-- ## The cell of a slot or of a change: the word of the holder's tag, and below it the row of its country

-- Nobody has no word, and no row.
abbrev pub slot_cell : List ℕ → Option CountryTag → ℕ
slot_cell tags none = nobody_cell
slot_cell tags (some t) = t.0 * cell_rows + row_among tags t

-- Stands where there is no tag: its word is no tag's.
abbrev pub no_tag : CountryTag
no_tag = record { 0 = 0 }

-- The cell of the country in a row, by the tags of countries.
abbrev pub row_cell : List CountryTag → ℕ → ℕ
row_cell tags row = (get_or tags row no_tag).0 * cell_rows + row

-- The word in a cell.
abbrev pub cell_word : ℕ → ℕ
cell_word cell = cell / cell_rows % word_span

-- The cell of whom a change settles to.
unfoldable pub holder_cell : List Country → OwnerChange → ℕ
holder_cell ks x = slot_cell (words_of_tags ks) (some (settles (all_switches ks) x))

-- ## The pass

-- A change as the pass meets it.
pub record Step : Type 0 where
  pub date : Eu4Date
  pub slot : ℕ
  pub cell : ℕ

-- By its key and its cell: the key ends in the number of the cell.
abbrev pub step_at : List ℕ → ℕ → Step
step_at cells key = record { date = key_date key; slot = key / per_id % per_id; cell = get_or cells (key % per_id) 0 }

abbrev pub steps_of : List ℕ → List ℕ → List Step
steps_of cells keys = map (step_at cells) keys

-- The turns that steps give, from the cells of the slots on; and the cells after them.
unfoldable pub turns_along : List ℕ → List Step → List RowTurn
turns_along slots [] = []
turns_along slots (x ∷ xs) =
    record { date = x.date; old = get_or slots x.slot nobody_cell % cell_rows; new = x.cell % cell_rows }
    ∷ turns_along (set slots x.slot x.cell) xs

unfoldable pub cells_along : List Step → List ℕ → List ℕ
cells_along [] slots = slots
cells_along (x ∷ xs) slots = cells_along xs (set slots x.slot x.cell)

-- The two rows of a turn.
abbrev pub turn_cell : RowTurn → code.LossGain
turn_cell x = record { loss = x.old; gain = x.new }

-- A cell is put into a slot; the answer is the one that was there, or nobody's.
pub record Replaced (slots : List ℕ) (slot cell r : ℕ) (after : List ℕ) : Type 0 where
  pub old : r ≡ get_or slots slot nobody_cell
  pub cells : after ≡ set slots slot cell

-- The turns of the steps, and the cells of the slots after them.
pub record Passed (keys cells slots₀ slots₁ : List ℕ) (turns₁ : List code.LossGain) : Type 0 where
  pub turns : turns₁ ≡ map turn_cell (turns_along slots₀ (steps_of cells keys))
  pub slots : slots₁ ≡ cells_along (steps_of cells keys) slots₀

-- ## All of it

-- A change whose date and tag have room in the keys of switches.
pub record Small (x : OwnerChange) : Type 0 where
  pub date : x.date.0 < key_dates
  pub to : x.to.0 < key_tags

-- A cell for each slot, and one for each country.
pub record StartRoom (c : Campaign) (slots₀ started₀ : List ℕ) : Type 0 where
  pub slots : length slots₀ ≡ suc (length c.provinces)
  pub started : length started₀ ≡ length c.countries

-- Room for every change.
pub record StepsRoom (xs keys₀ cells₀ : List ℕ) : Type 0 where
  pub keys : length (entered xs) ≤ length keys₀
  pub cells : length (entered xs) ≤ length cells₀

-- Room for every change, slot and country.
pub record HoldingRoom (xs keys₀ cells₀ slots₀ started₀ : List ℕ) (turns₀ : List code.LossGain) : Type 0 where
  pub keys : length (entered xs) ≤ length keys₀
  pub cells : length (entered xs) ≤ length cells₀
  pub turns : length (entered xs) ≤ length turns₀
  pub slots : suc (length (campaign_of xs).provinces) ≤ length slots₀
  pub started : length (campaign_of xs).countries ≤ length started₀

-- The slots that each country holds at the start.
abbrev pub started_of : Campaign → List ℕ
started_of c = map (λ k. count_of (matches k.tag) (start_holders c)) c.countries

-- The cells of holders.
abbrev pub slot_cells : Campaign → List (Option CountryTag) → List ℕ
slot_cells c holders = map (slot_cell (words_of_tags c.countries)) holders

-- The cells of the slots at the start, and how many slots each country holds then.
pub record Began (c : Campaign) (slots₁ started₁ : List ℕ) : Type 0 where
  pub slots : slots₁ ≡ slot_cells c (start_holders c)
  pub started : started₁ ≡ started_of c

-- The cell of each change at its number.
abbrev pub holder_cells : List ℕ → List ℕ
holder_cells xs = map (holder_cell (campaign_of xs).countries) (entered xs)

-- The keys of so many changes in order, and the cells of all changes.
pub record Stepped (xs : List ℕ) (n : ℕ) (keys cells : List ℕ) : Type 0 where
  pub counted : n ≡ length (entered xs)
  pub sorted : take n keys ≡ sort_by leb (change_keys_from 0 (entered xs))
  pub filled : take n cells ≡ holder_cells xs

-- The keys of all changes in order, the row of the old and of the new holder of each, and in front of their cells the cell of each slot after the last change,
-- and how many slots each country holds at the start.
pub record Held (xs : List ℕ) (n : ℕ) (keys slots₁ started₁ : List ℕ) (turns : List code.LossGain) : Type 0 where
  pub counted : n ≡ length (changes_of (campaign_of xs))
  pub sorted : take n keys ≡ sort_by leb (change_keys_from 0 (entered xs))
  pub rowed : Rowed (take n keys) (losses (take n turns)) (gains (take n turns)) (row_turns_of (campaign_of xs))
  pub slots : take (suc (length (campaign_of xs).provinces)) slots₁ ≡ slot_cells (campaign_of xs) (holders_of (campaign_of xs))
  pub started : take (length (campaign_of xs).countries) started₁ ≡ started_of (campaign_of xs)

-- Room for the holder of each slot and for the slots held by each of so many countries, of no more slots than a record has.
pub record SlotsRoom (slots : List ℕ) (n : ℕ) (holders₀ held₀ : List ℕ) : Type 0 where
  pub holders : length slots ≤ length holders₀
  pub held : n ≤ length held₀
  pub few : length slots ≤ most_slots

-- The holder of each slot and the slots held by each of so many countries, by the cells of the slots, in the fronts of two slices.
pub record SlotsPut (slots : List ℕ) (n : ℕ) (holders₀ holders₁ held₀ held₁ : List ℕ) : Type 0 where
  pub holders : holders₁ ≡ written (map cell_word slots) holders₀
  pub held : held₁ ≡ written (slot_counts (rows_in_cells slots) n) held₀

-- As many of them as find room: of the first slots, no more than a record has, the holders in front, and of the first countries what they hold.
pub record SlotsWritten (slots : List ℕ) (n : ℕ) (holders₀ holders₁ held₀ held₁ : List ℕ) : Type 0 where
  pub holders : holders₁ ≡ written (map cell_word (take (length holders₀) (take most_slots slots))) holders₀
  pub held : held₁ ≡ written (slot_counts (rows_in_cells (take most_slots slots)) (min n (length held₀))) held₀
