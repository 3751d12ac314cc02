-- Rules 2: the outcome of each call on players. Numbers are listed in the order of the checks: the
-- record's own, then 11, 10.
use Rattle.std.specs.Prelude.{Bool, ◌&&◌, List, [], ◌∷◌, ℕ, length}
use Rattle.std.proofs.Math.Option.{Option}
use Rattle.format.specs.declared.tag.CountryTag.{CountryTag}
use Rattle.format.specs.Campaign.{campaign_of}
use Rattle.format.specs.RecordNumber.{refusal, first_of}
use Rattle.format.specs.declared.values.HistoryCounts.{HistoryCounts}
use Rattle.rules.specs.Lent.{Answer, answered, written, fits, room_number, Outcome, outcome}
use Rattle.rules.specs.NationRows.{nations_in}
use Rattle.rules.specs.Players.{players_of, player_rows}
use Rattle.rules.specs.Histories.{History, histories_of, names_in}
use Rattle.rules.specs.HistoryRows.{history_words, history_rows_in}
use Rattle.rules.specs.StartingCountry.{starting_country}
use Rattle.rules.specs.CallNumbers.{chronicle_number, histories_number, numbered_number}

-- ## `players`: the number of players, and their rows

-- Refused by the record's number, or 10. It is given the record's bytes and the lent slice. (Rules 8.3)
unfoldable pub call_players : List ℕ → List ℕ → Outcome ℕ (List ℕ)
call_players xs before =
    let players = players_of (campaign_of xs) in
    let rows = player_rows players in
    outcome (first_of (refusal xs ∷ room_number (fits rows before) ∷ [])) (length players) (written rows before) before

-- ## `player_histories`: the numbers of histories and of names, and both lists

-- The slices that are lent to it, or the words that it writes into each. (Rules 8.10)
pub record HistoryCells : Type 0 where
  pub rows : List ℕ
  pub names : List ℕ

-- History rows, and the list of names that they point into. (Rules 8.10)
unfoldable pub history_cells_of : List History → HistoryCells
history_cells_of hs = record { rows = history_words hs; names = names_in hs }

-- Both lent slices have room for their part of the answer. (Rules 8.10)
abbrev pub both_fit : HistoryCells → HistoryCells → Bool
both_fit cells before = fits cells.rows before.rows && fits cells.names before.names

-- Both lent slices with their part of the answer in them. (Rules 8.10)
abbrev pub both_written : HistoryCells → HistoryCells → HistoryCells
both_written cells before =
    record { rows = written cells.rows before.rows; names = written cells.names before.names }

-- They are the lengths of the lists. (Rules 8.10)
unfoldable pub history_counts_of : List History → HistoryCounts
history_counts_of hs = record { histories = length hs; names = length (names_in hs) }

-- Refused by the record's number, 11, or 10. It is given the record, the nation and entry words, and the lent slices. (Rules 8.10)
unfoldable pub call_player_histories : List ℕ → List ℕ → List ℕ → HistoryCells → Outcome HistoryCounts HistoryCells
call_player_histories xs ws es before =
    let nations = nations_in ws es in
    let histories = histories_of (campaign_of xs) nations in
    let cells = history_cells_of histories in
    outcome (first_of (refusal xs ∷ chronicle_number ws es ∷ numbered_number nations ∷ room_number (both_fit cells before) ∷ []))
    (history_counts_of histories) (both_written cells before) before

-- ## `starting_country`: its tag, or none

-- Refused by 11. It is given history words, and the nation and entry words that they point into; it is lent nothing to write. (Rules 8.14)
unfoldable pub call_starting_country : List ℕ → List ℕ → List ℕ → Answer (Option CountryTag)
call_starting_country hs ws es =
    answered (first_of (chronicle_number ws es ∷ histories_number (nations_in ws es) hs ∷ []))
    (starting_country (nations_in ws es) (history_rows_in hs))
