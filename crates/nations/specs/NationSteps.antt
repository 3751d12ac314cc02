-- The steps of `nation_events` one after the other. Conditions and answers of inner steps; no public promise cites them.
use Rattle.std.specs.Prelude as code
use Rattle.std.specs.Prelude.{Some, None, ◌≡◌, Bool, true, ◌&&◌, List, ℕ, suc, ◌*◌, ◌≤◌, leb, length, take}
use Rattle.sorting.specs.Sort.{sort_by}
use Rattle.format.specs.Campaign.{campaign_of}
use Rattle.format.specs.RecordNumber.{refusal}
use Rattle.rules.specs.Chronicle.{Nation}
use Rattle.rules.specs.Lent.{written, refused}
use Rattle.rules.specs.Changes.{change_width, changes_of, change_rows}
use Rattle.rules.specs.Nations.{nations_of, holders_of}
use Rattle.rules.specs.Outcomes.{call_nation_events}
use Rattle.owner_changes.specs.ChangeSteps.{entered, change_keys_from}
use Rattle.nation_tables.specs.declared.gathering.TableSizes.{TableSizes}
use Rattle.nation_tables.specs.Holders.{slot_cells, SlotsRoom, SlotsPut}
use Rattle.nation_tables.specs.declared.gathering.TableCells.{TableCells}
use Rattle.nation_tables.specs.Gathering.{Cells, fronts_of}
use Rattle.nations.specs.declared.written_nations.Listed.{Listed}
use Rattle.format.specs.declared.values.NationCounts.{NationCounts}
use Rattle.nations.specs.declared.gathered_nations.NationsTold.{NationsTold}
use Rattle.nations.specs.declared.slots_and_changes.RestCells.{RestCells}
use Rattle.nations.specs.LentCells.{nation_cells}
use Rattle.nations.specs.ListedNations.{nations_at}
use Rattle.nations.specs.WrittenNations.{PlacedRows}

-- ## Room

-- Slices of these lengths have room for the slots, countries and changes.
abbrev pub rest_for : TableSizes → ℕ → ℕ → ℕ → Bool
rest_for z holders held changes = leb z.slots holders && leb z.countries held && leb (change_width * z.changes) changes

-- ## Nations

-- The fronts of the tables that nations are read from lie inside, with cells for k countries, m keys that changes settle by, and n changes.
pub record FrontsInside (z : TableSizes) (k m n : ℕ) : Type 0 where
  pub countries : z.countries ≤ k
  pub runs : z.switches ≤ m
  pub targets : z.switches ≤ n
  pub changes : z.changes ≤ n

-- Their cells.
abbrev pub fronts_in : {k p m n : ℕ} → TableSizes → TableCells k p m n → Cells
fronts_in z t = fronts_of z t.tags t.initial_keys t.runs t.cells t.firsts t.started t.keys t.turns

-- The nations that they tell.
abbrev pub fronts_nations : {k p m n : ℕ} → TableSizes → TableCells k p m n → List Nation
fronts_nations z t = nations_at (fronts_in z t) (take z.countries t.initial_keys)

-- ## Slots and changes

-- The fronts of the slots and of the sorted keys of an accepted record, which lie inside, with cells for p slots and n changes.
pub record RestReady (xs : List ℕ) (z : TableSizes) (slots₀ keys₀ : List ℕ) (p n : ℕ) : Type 0 where
  pub slots : z.slots ≤ p
  pub changes : z.changes ≤ n
  pub sorted : take z.changes keys₀ ≡ sort_by leb (change_keys_from 0 (entered xs))

-- Room for the holder of each slot, for the slots held by each country, and for the changes.
pub record RestRoom (z : TableSizes) (slots₀ holders₀ held₀ changes₀ : List ℕ) : Type 0 where
  pub slots : SlotsRoom (take z.slots slots₀) z.countries holders₀ held₀
  pub changes : change_width * z.changes ≤ length changes₀

-- The same with the tables at hand.
abbrev pub RestReadyIn : {k p m n : ℕ} → List ℕ → TableSizes → TableCells k p m n → Type 0
RestReadyIn {k} {p} {m} {n} xs z t = RestReady xs z t.slots t.keys p n

-- The holders, the slots held and the changes are written.
pub record RestWritten (xs : List ℕ) (z : TableSizes) (slots₀ holders₀ holders₁ held₀ held₁ changes₀ changes₁ : List ℕ) : Type 0 where
  pub slots : SlotsPut (take z.slots slots₀) z.countries holders₀ holders₁ held₀ held₁
  pub changes : changes₁ ≡ written (change_rows (changes_of (campaign_of xs))) changes₀

-- How many rows of each kind.
abbrev pub counts_from : TableSizes → Listed → NationCounts
counts_from z r = record { nations = r.nations; entries = r.entries; slots = z.slots; countries = z.countries; changes = z.changes }

-- ## All but the rest

-- The nations of an accepted record are written, slices of three lengths have room for the rest, and the tables for it are there.
pub record NationsPlaced (xs : List ℕ) (holders held changes : ℕ) (z : TableSizes) (r : Listed) (slots₁ keys₁ : List ℕ) (p n : ℕ) (rows₀ rows₁ entries₀ entries₁ : List ℕ) : Type 0 where
  pub countries : z.countries ≡ length (campaign_of xs).countries
  pub counted : z.changes ≡ length (changes_of (campaign_of xs))
  pub slotted : z.slots ≡ suc (length (campaign_of xs).provinces)
  pub slots : take z.slots slots₁ ≡ slot_cells (campaign_of xs) (holders_of (campaign_of xs))
  pub accepted : refusal xs ≡ 0
  pub ready : RestReady xs z slots₁ keys₁ p n
  pub rest : rest_for z holders held changes ≡ true
  pub placed : PlacedRows (nations_of (campaign_of xs)) r rows₀ rows₁ entries₀ entries₁

-- With slices of these lengths for the rest, the call refuses for want of room and leaves all as it was.
pub record NoRoomTold (xs : List ℕ) (holders held changes : ℕ) (rows₀ rows₁ entries₀ entries₁ : List ℕ) : Type 0 where
  pub refuses : (holders₀ held₀ changes₀ : List ℕ) → length holders₀ ≡ holders → length held₀ ≡ held → length changes₀ ≡ changes
      → record { answer = refused 10; memory = nation_cells rows₁ entries₁ holders₀ held₀ changes₀ }
      ≡ call_nation_events xs (nation_cells rows₀ entries₀ holders₀ held₀ changes₀)

-- What is told: the nations placed, or that a slice is too short.
abbrev pub nations_told : List ℕ → ℕ → ℕ → ℕ → code.Option NationsTold → List ℕ → List ℕ → ℕ → ℕ → List ℕ → List ℕ → List ℕ → List ℕ → Type 0
nations_told xs holders held changes (Some t) slots keys p n rows₀ rows₁ entries₀ entries₁ =
    NationsPlaced xs holders held changes t.sizes t.listed slots keys p n rows₀ rows₁ entries₀ entries₁
nations_told xs holders held changes None slots keys p n rows₀ rows₁ entries₀ entries₁ = NoRoomTold xs holders held changes rows₀ rows₁ entries₀ entries₁

-- The same with the tables at hand.
abbrev pub nations_told_in : {k p m n : ℕ} → List ℕ → RestCells → code.Option NationsTold → TableCells k p m n → List ℕ → List ℕ → List ℕ → List ℕ → Type 0
nations_told_in {k} {p} {m} {n} xs room r t rows₀ rows₁ entries₀ entries₁ =
    nations_told xs room.holders room.held room.changes r t.slots t.keys p n rows₀ rows₁ entries₀ entries₁
