-- What a draft holds: inner steps.
use Rattle.std.specs.Prelude.{◌≡◌, List, ◌++◌, map, ℕ, ◌+◌, ◌-◌, ◌*◌, ◌≤◌, ltb, length, take, drop}
use Rattle.std.specs.declared.ops.Range.{Range}
use Rattle.lists.specs.Lists.{keep, count_of}
use Rattle.format.specs.declared.tag.CountryTag.{CountryTag}
use Rattle.format.specs.Campaign.{Country}
use Rattle.record.specs.declared.cursors.Countries.{Countries}
use Rattle.record.specs.Cursors.{countries_left}
use Rattle.rules.specs.Histories.{History, is_released}
use Rattle.rules.specs.HistoryRows.{nation_word}
use Rattle.players.specs.declared.drafts.Draft.{Draft}
use Rattle.search.specs.Places.{keys_per_tag, place_in}
use Rattle.players.specs.Marks.{cell_at_place, stored_word, number_in_cell}
use Rattle.players.specs.DraftParts.{told_by, draft_by}

-- ## The countries that were played

abbrev pub played_left : Countries → List Country
played_left c = keep (λ k. k.was_player) (countries_left c)

-- ## The players of a tag, by sorted keys

-- How many keys stand before those of a tag, and how many are its own.
abbrev pub keys_before : List ℕ → CountryTag → ℕ
keys_before keys tag = count_of (λ k. ltb k (tag.0 * keys_per_tag)) keys

abbrev pub run_length : List ℕ → CountryTag → ℕ
run_length keys tag = count_of (λ k. ltb k (tag.0 * keys_per_tag + keys_per_tag)) keys - keys_before keys tag

-- The run that the code holds.
pub record RunOf (keys : List ℕ) (tag : CountryTag) (r : Range ℕ) : Type 0 where
  pub first : r.start ≡ keys_before keys tag
  pub count : r.end - r.start ≡ run_length keys tag
  pub rising : r.start ≤ r.end
  pub inside : r.end ≤ length keys

-- ## A draft

-- A country's draft with the nation that this word of a cell counts from 1.
abbrev pub draft_with : List ℕ → List ℕ → Country → ℕ → Draft
draft_with ws keys k word =
    draft_by k.human k.has_switched_nation k.cities (number_in_cell word) (told_by ws k.tag (number_in_cell word)) (keys_before keys k.tag) (run_length keys k.tag)

-- The same, with the word of its cell, by the sorted keys of country tags.
abbrev pub draft_for : List ℕ → List ℕ → List ℕ → List ℕ → Country → Draft
draft_for ws tags cells keys k = draft_with ws keys k (cell_at_place cells (place_in tags k.tag))

-- ## All drafts

-- Players are few, and there is room for a draft of each country that was played.
pub record FillReady (c : Countries) (keys : List ℕ) (out : List Draft) : Type 0 where
  pub short : length keys ≤ 1000
  pub room : length (played_left c) ≤ length out

-- So many drafts, by the cells.
pub record FillsDrafts (c : Countries) (ws tags cells keys : List ℕ) (count : ℕ) (out₀ out₁ : List Draft) : Type 0 where
  pub counted : count ≡ length (played_left c)
  pub drafts : out₁ ≡ map (draft_for ws tags cells keys) (played_left c) ++ drop count out₀

-- At most so many countries, no more than a record has, and room for each.
pub record DraftReady (most : ℕ) (c : Countries) (keys : List ℕ) (out : List Draft) : Type 0 where
  pub few : length (countries_left c) ≤ most
  pub possible : most ≤ 2000
  pub short : length keys ≤ 1000
  pub room : length out ≡ most

-- So many drafts, by the nations.
pub record HoldsDrafts (most : ℕ) (c : Countries) (ws keys : List ℕ) (count : ℕ) (out : List Draft) : Type 0 where
  pub counted : count ≡ length (played_left c)
  pub few : count ≤ most
  pub long : length out ≡ most
  pub drafts : take count out ≡ map (λ k. draft_with ws keys k (stored_word ws k.tag)) (played_left c)

-- ## The draft of a history

-- From the history itself.
abbrev pub history_draft : List ℕ → History → Draft
history_draft keys h =
    record {
      initial = h.initial;
      latest = h.latest;
      stored = h.stored;
      nation = nation_word h.nation;
      human = h.country.human;
      released = is_released h;
      first = keys_before keys h.country.tag;
      count = length h.names;
    }
