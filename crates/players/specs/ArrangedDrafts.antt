-- How drafts become histories: inner steps.
use Rattle.std.specs.Prelude as code
use Rattle.std.specs.Prelude.{◌≡◌, is_some, IfSome, Bool, true, false, cond, ◌&&◌, List, [], ◌∷◌, ◌++◌, map, ℕ, ◌+◌, ◌-◌, ◌*◌, ◌%◌, ◌≤◌, ◌<◌, leb, ltb, eqb, length, take, drop, set}
use Rattle.lists.specs.Lists.{All, any_of, keep, one, last_or, sum_of, join_of}
use Rattle.format.specs.declared.tag.CountryTag.{CountryTag}
use Rattle.search.specs.Places.{keys_per_tag}
use Rattle.rules.specs.Lent.{written, Outcome, room_number, outcome}
use Rattle.format.specs.declared.values.HistoryCounts.{HistoryCounts}
use Rattle.format.specs.declared.values.HistoryRow.{HistoryRow}
use Rattle.rules.specs.PlayerOutcomes.{HistoryCells, both_fit, both_written}
use Rattle.rules.specs.HistoryRows.{history_width, history_row_words}
use Rattle.players.specs.declared.drafts.Draft.{Draft}
use Rattle.players.specs.Drafts.{is_played, is_leftover}

-- The history of a draft, with the number of names before its own.
abbrev pub history_from : Draft → ℕ → HistoryRow
history_from d first =
    record {
      initial = d.initial;
      latest = d.latest;
      stored = d.stored;
      nation = d.nation;
      human = one d.human;
      first = first;
      count = d.count;
    }

unfoldable pub histories_from : ℕ → List Draft → List HistoryRow
histories_from first [] = []
histories_from first (d ∷ ds) = history_from d first ∷ histories_from (first + d.count) ds

-- The name of a key, and those that a draft leads to.
abbrev pub name_in : ℕ → ℕ
name_in key = key % keys_per_tag

abbrev pub names_at : List ℕ → Draft → List ℕ
names_at keys d = map name_in (take d.count (drop d.first keys))

-- Each draft leads to keys, and there is room for all names.
pub record NamesFit (ds : List Draft) (keys out : List ℕ) : Type 0 where
  pub few : length ds ≤ 2000
  pub short : length keys ≤ 1000
  pub inside : All (λ d. d.first + d.count ≤ length keys) ds
  pub room : sum_of (λ d. d.count) ds ≤ length out

-- The last leftover vanishes, in ironman, where the only history with players is a released country's.
abbrev pub is_popped : Bool → List Draft → Bool
is_popped ironman ds =
    ironman
    && eqb (length (keep is_played ds)) 1
    && ltb 0 (length (keep is_leftover ds))
    && any_of (λ d. d.released) (keep is_played ds)

-- The initial of the last draft.
abbrev pub last_initial : List Draft → CountryTag
last_initial ds = last_or (record { 0 = 0 }) (map (λ d. d.initial) ds)

-- There is room for the histories of few drafts, and numbers of names are small.
pub record WriteReady (ds : List Draft) (names : ℕ) (out : List ℕ) : Type 0 where
  pub many : length ds ≤ 2000
  pub room : history_width * length ds ≤ length out
  pub few : names + sum_of (λ d. d.count) ds ≤ 4294967295

-- The histories of drafts written at the front, so many words, where names are before theirs.
abbrev pub DraftsWritten : List Draft → ℕ → ℕ → List ℕ → List ℕ → Type 0
DraftsWritten ds names words before after =
    (words ≡ history_width * length ds) × (after ≡ written (join_of history_row_words (histories_from names ds)) before)

-- The words of all histories with players and of so many leftovers.
abbrev pub kept_words : List Draft → ℕ → List ℕ
kept_words ds kept =
    join_of history_row_words (histories_from 0 (keep is_played ds))
    ++ join_of history_row_words (histories_from (sum_of (λ d. d.count) ds) (take kept (keep is_leftover ds)))

-- How many leftovers stay.
abbrev pub kept_of : Bool → List Draft → ℕ
kept_of popped ds = cond popped (length (keep is_leftover ds) - 1) (length (keep is_leftover ds))

-- The words of all histories. The first takes the initial of a leftover that vanishes.
abbrev pub draft_words : Bool → List Draft → List ℕ
draft_words popped ds =
    cond popped
    (set (kept_words ds (kept_of true ds)) 0 (last_initial (keep is_leftover ds)).0)
    (kept_words ds (kept_of false ds))

-- The initial of the leftover that vanishes, if one does.
pub record Vanishes (ironman : Bool) (ds : List Draft) (v : code.Option CountryTag) : Type 0 where
  pub popped : is_some v ≡ is_popped ironman ds
  pub last : IfSome v (λ t. t ≡ last_initial (keep is_leftover ds))

-- There is room for as many leftovers as stay.
pub record HistoriesReady (ds : List Draft) (v : code.Option CountryTag) (kept names : ℕ) (out : List ℕ) : Type 0 where
  pub left : kept ≡ kept_of (is_some v) ds
  pub last : IfSome v (λ t. t ≡ last_initial (keep is_leftover ds))
  pub named : names ≡ sum_of (λ d. d.count) ds
  pub few : names ≤ 4294967295
  pub many : length ds ≤ 2000
  pub sole : is_some v ≡ true → 0 < length (keep is_played ds)
  pub room : history_width * (length (keep is_played ds) + kept) ≤ length out

-- Few drafts, and each leads to keys, of which there are few.
pub record ArrangeReady (ds : List Draft) (keys : List ℕ) : Type 0 where
  pub few : length ds ≤ 2000
  pub short : length keys ≤ 1000
  pub inside : All (λ d. d.first + d.count ≤ length keys) ds

-- Both lists of words, and how many histories and names they are.
abbrev pub drafted_cells : Bool → List Draft → List ℕ → HistoryCells
drafted_cells popped ds keys = record { rows = draft_words popped ds; names = join_of (names_at keys) ds }

abbrev pub drafted_counts : Bool → List Draft → HistoryCounts
drafted_counts popped ds =
    record { histories = length (keep is_played ds) + kept_of popped ds; names = sum_of (λ d. d.count) ds }

-- Refused by 10 alone.
abbrev pub drafted_outcome : Bool → List Draft → List ℕ → HistoryCells → Outcome HistoryCounts HistoryCells
drafted_outcome ironman ds keys before =
    outcome (room_number (both_fit (drafted_cells (is_popped ironman ds) ds keys) before))
    (drafted_counts (is_popped ironman ds) ds)
    (both_written (drafted_cells (is_popped ironman ds) ds keys) before)
    before
