-- The tables gathered one after the other: conditions and answers of the steps, and what all tables together say of a campaign. Inner: these
-- are how the nations are computed.
use Rattle.std.specs.Prelude.{◌≡◌, false, List, ℕ, suc, ◌≤◌, ◌<◌, leb, length, take}
use Rattle.lists.specs.Lists.{twice}
use Rattle.sorting.specs.Sort.{sort_by}
use Rattle.format.specs.declared.tag.CountryTag.{CountryTag}
use Rattle.format.specs.declared.date.Eu4Date.{Eu4Date}
use Rattle.format.specs.Sound.{Sound}
use Rattle.format.specs.RecordNumber.{refusal}
use Rattle.format.specs.Campaign.{Campaign, Country, campaign_of}
use Rattle.rules.specs.Changes.{changes_of}
use Rattle.rules.specs.Nations.{holders_of}
use Rattle.owner_changes.specs.ChangeSteps.{entered, most_changes, change_keys_from}
use Rattle.nation_tables.specs.declared.gathering.Sizes.{Sizes}
use Rattle.nation_tables.specs.declared.gathering.TableSizes.{TableSizes}
use Rattle.nation_tables.specs.declared.gathering.TableCells.{TableCells}
use Rattle.record.specs.declared.opened.Record.{Record}
use Rattle.record.specs.Cursors.{countries_left}
use Rattle.nation_tables.specs.Layout.{most_countries, most_switches, most_settling, most_slots, rows_within}
use Rattle.nation_tables.specs.Countries.{country_tags, words_of_tags, initial_words, row_keys, switch_keys_from, settling_keys_from, settling_keys, Keyed}
use Rattle.nation_tables.specs.declared.layout.LossGain.{LossGain}
use Rattle.nation_tables.specs.Turning.{losses, gains, Linked, TurnsLinked, Rowed, row_turns_of}
use Rattle.nation_tables.specs.Holders.{started_of, slot_cells, Held}
use Rattle.nation_tables.specs.Switches.{run_keys, target_words}

-- ## Steps

-- Room for a cell of each country, and for the keys that changes settle by.
pub record TablesRoom (ks : List Country) (tags₀ : List CountryTag) (scratch₀ initials₀ switches₀ : List ℕ) : Type 0 where
  pub tags : length ks ≤ length tags₀
  pub scratch : length ks ≤ length scratch₀
  pub initials : length ks ≤ length initials₀
  pub switches : length (settling_keys_from 0 ks) ≤ length switches₀

-- The tables stand at the front of their cells.
pub record TablesFilled (ks : List Country) (r : Sizes) (tags₁ : List CountryTag) (initials₁ switches₁ : List ℕ) : Type 0 where
  pub countries : r.countries ≡ length ks
  pub keyed : r.settling ≡ length (settling_keys_from 0 ks)
  pub tags : take r.countries tags₁ ≡ country_tags ks
  pub initials : take r.countries initials₁ ≡ row_keys (initial_words ks)
  pub switches : take r.settling switches₁ ≡ settling_keys ks

-- Room for the key of each switch, and for its target.
pub record SwitchesRoom (ks : List Country) (runs₀ targets₀ : List ℕ) : Type 0 where
  pub runs : length (switch_keys_from 0 ks) ≤ length runs₀
  pub targets : length (switch_keys_from 0 ks) ≤ length targets₀

-- Chains of the losses and gains of so many changes, and the keys and targets of switches at the front of their cells.
pub record Arranged (ks : List Country) (n : ℕ) (turns₀ turns₁ firsts₁ : List LossGain) (runs₁ targets₁ : List ℕ) : Type 0 where
  pub linked : TurnsLinked (take n turns₀) (take n turns₁) firsts₁
  pub runs : take (length (switch_keys_from 0 ks)) runs₁ ≡ run_keys ks
  pub targets : take (length (switch_keys_from 0 ks)) targets₁ ≡ target_words ks

-- ## What is gathered

-- The tags of countries, the keys of initials, the keys and targets of switches, the chains of changes with their first ones for each row, the
-- slots that each row starts with, the keys of changes, and the start date.
pub record Cells : Type 0 where
  pub tags : List CountryTag
  pub initials : List ℕ
  pub runs : List ℕ
  pub targets : List ℕ
  pub losses : List ℕ
  pub gains : List ℕ
  pub started : List ℕ
  pub keys : List ℕ
  pub olds : List ℕ
  pub news : List ℕ
  pub start : Eu4Date

-- The cells as they are lent: the first losses and gains stand together, and so do the links of changes.
abbrev pub cells_from : List CountryTag → List ℕ → List ℕ → List ℕ → List LossGain → List ℕ → List ℕ → List LossGain → Eu4Date → Cells
cells_from tags initials runs targets firsts started keys turns start =
    record {
      tags = tags;
      initials = initials;
      runs = runs;
      targets = targets;
      losses = losses firsts;
      gains = gains firsts;
      started = started;
      keys = keys;
      olds = losses turns;
      news = gains turns;
      start = start;
    }

-- So many cells from the front of each table.
abbrev pub fronts_of : TableSizes → List CountryTag → List ℕ → List ℕ → List ℕ → List LossGain → List ℕ → List ℕ → List LossGain → Cells
fronts_of z tags initials runs targets firsts started keys turns =
    cells_from (take z.countries tags) (take z.countries initials) (take z.switches runs) (take z.switches targets) firsts
    (take z.countries started) (take z.changes keys) (take z.changes turns) z.start

-- Cells of a campaign: the tables of its countries, the runs and targets of its switches, and the chains of its turns by rows.
pub record CampaignCells (c : Campaign) (w : Cells) : Type 0 where
  pub keyed : Keyed c.countries
  pub once : twice (words_of_tags c.countries) ≡ false
  pub sound : Sound c
  pub tags : w.tags ≡ country_tags c.countries
  pub initials : w.initials ≡ row_keys (initial_words c.countries)
  pub runs : w.runs ≡ run_keys c.countries
  pub few_runs : length w.runs ≤ most_switches
  pub targets : w.targets ≡ target_words c.countries
  pub start : w.start ≡ c.start
  pub started : w.started ≡ started_of c
  pub old_rows : List ℕ
  pub new_rows : List ℕ
  pub rowed : Rowed w.keys old_rows new_rows (row_turns_of c)
  pub few : length w.keys ≤ most_changes
  pub losses : Linked old_rows w.olds w.losses
  pub gains : Linked new_rows w.news w.gains
  pub loss_rows : length c.countries ≤ length w.losses
  pub gain_rows : length c.countries ≤ length w.gains
  pub slots : length c.provinces < most_slots

-- ## All of it

-- So many countries, slots, keys that changes settle by, and changes suffice for any record of so many bytes.
pub record TableRoom (bytes c p m n : ℕ) : Type 0 where
  pub countries : rows_within most_countries bytes ≤ c
  pub slots : rows_within most_slots bytes ≤ p
  pub keys : rows_within most_settling bytes ≤ m
  pub changes : rows_within most_changes bytes ≤ n

-- The tables of an accepted record at the fronts of their cells, the targets in front of those that served the sorts; and how many there are.
pub record Gathered (xs : List ℕ) (z : TableSizes) (tags₁ : List CountryTag) (initials₁ runs₁ keys₁ targets₁ slots₁ started₁ : List ℕ) (turns₁ firsts₁ : List LossGain) : Type 0 where
  pub accepted : refusal xs ≡ 0
  pub start : z.start ≡ (campaign_of xs).start
  pub countries : z.countries ≡ length (campaign_of xs).countries
  pub changes : z.changes ≡ length (changes_of (campaign_of xs))
  pub slotted : z.slots ≡ suc (length (campaign_of xs).provinces)
  pub switches : z.switches ≡ length (switch_keys_from 0 (campaign_of xs).countries)
  pub cells : CampaignCells (campaign_of xs) (fronts_of z tags₁ initials₁ runs₁ targets₁ firsts₁ started₁ keys₁ turns₁)
  pub sorted : take z.changes keys₁ ≡ sort_by leb (change_keys_from 0 (entered xs))
  pub slots : take z.slots slots₁ ≡ slot_cells (campaign_of xs) (holders_of (campaign_of xs))

-- The same of a record's tables.
abbrev pub GatheredIn : {k p m n : ℕ} → List ℕ → TableSizes → TableCells k p m n → Type 0
GatheredIn xs z t = Gathered xs z t.tags t.initial_keys t.runs t.keys t.cells t.slots t.started t.turns t.firsts

-- The tables of countries, the keys of their initials and those that changes settle by are filled.
abbrev pub CountriesIn : {k p m n : ℕ} → Record → Sizes → TableCells k p m n → Type 0
CountriesIn r z t = TablesFilled (countries_left r.countries) z t.tags t.initial_keys t.runs

-- All changes are settled.
abbrev pub HeldIn : {k p m n : ℕ} → List ℕ → ℕ → TableCells k p m n → Type 0
HeldIn xs count t = Held xs count t.keys t.slots t.started t.turns
