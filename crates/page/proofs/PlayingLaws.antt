-- Answers about players as the host gets them.
use mathlib.Core.Path.{◌≡◌, refl, ap}
use mathlib.Core.List.{List, [], ◌∷◌}
use Prim.Native.Nat.{ℕ, ◌+◌, ◌*◌, ◌≤◌}
use native.Mathlib.Omega.{arith}
use borrow.Author.Tests.{leb-true}
use lib.ListN.{length}
use Rattle.lists.specs.Lists.{join_of}
use Rattle.lists.proofs.BoolLaws.{and_left}
use Rattle.format.specs.Campaign.{campaign_of}
use Rattle.format.specs.RecordNumber.{refusal, first_of}
use Rattle.format.proofs.FirstLaws.{first-zero, all-zero}
use Rattle.rules.specs.Lent.{Answer, refused, gives, fits, room_number}
use Rattle.rules.specs.NationRows.{nations_in}
use Rattle.rules.specs.Players.{players_of, player_rows}
use Rattle.rules.specs.Histories.{History, histories_of}
use Rattle.rules.specs.HistoryRows.{history_width, history_row_words, history_rows_from, history_words}
use Rattle.rules.specs.CallNumbers.{chronicle_number, numbered_number}
use Rattle.format.specs.declared.values.HistoryCounts.{HistoryCounts}
use Rattle.rules.specs.PlayerOutcomes.{HistoryCells, history_cells_of, history_counts_of, both_fit, call_players, call_player_histories}
use Rattle.rules.proofs.LentLaws.{answered-given}
use Rattle.players.proofs.PlayerLaws.{players-few}
use Rattle.page.specs.Playing.{histories_given, call_player_histories_given}
use Rattle.page.proofs.HostLaws.{room-true}

-- The number of players is small.
pub players-counted : (xs before : List ℕ) (n : ℕ) → gives n ≡ (call_players xs before).answer → n ≤ 1000
unfolding call_players
players-counted xs before n e =
    let players = players_of (campaign_of xs) in
    let g = answered-given (first_of (refusal xs ∷ room_number (fits (player_rows players) before) ∷ [])) (length players) n e in
    omega (arith, g.1, players-few xs (first-zero (refusal xs) _ g.0).0)

-- ## Histories

-- Seven words for each history.
words-of-histories : (first : ℕ) (hs : List History) → length (join_of history_row_words (history_rows_from first hs)) ≡ history_width * length hs
unfolding history_rows_from
words-of-histories first [] = refl
words-of-histories first (h ∷ hs) = omega (arith, words-of-histories (first + length h.names) hs)

-- Where they have room, their number has room in a signed word.
module _ (xs ws es : List ℕ) (before : HistoryCells) where
  histories-given : (counts : HistoryCounts) → gives counts ≡ (call_player_histories xs ws es before).answer → history_width * counts.histories ≤ length before.rows
  unfolding call_player_histories history_cells_of history_counts_of history_words
  histories-given counts e =
      let hs = histories_of (campaign_of xs) (nations_in ws es) in
      let cells = history_cells_of hs in
      let room = fits cells.rows before.rows in
      let both = both_fit cells before in
      let numbers = refusal xs ∷ chronicle_number ws es ∷ numbered_number (nations_in ws es) ∷ room_number both ∷ [] in
      let g = answered-given (first_of numbers) (history_counts_of hs) counts e in
      let all = all-zero numbers g.0 in
      let fit = and_left room (fits cells.names before.names) (room-true both all.1.1.1.0) in
      omega (
        arith,
        ap (λ c. c.histories) g.1,
        words-of-histories 0 hs,
        leb-true (length cells.rows) (length before.rows) fit,
      )

  -- So has the number alone.
  pub first-given : (n : ℕ) → gives n ≡ (call_player_histories_given xs ws es before).answer → history_width * n ≤ length before.rows
  unfolding call_player_histories_given
  first-given n e = go (call_player_histories xs ws es before).answer refl e
    where
      go : (a : Answer HistoryCounts) → a ≡ (call_player_histories xs ws es before).answer → gives n ≡ histories_given a → history_width * n ≤ length before.rows
      go (gives counts) q e = let same : n ≡ counts.histories = cc in rw same (histories-given counts q)
      go (refused m) q e = let z : ◌≡◌ {A = ℕ} 0 1 = cc in absurd (omega arith)
