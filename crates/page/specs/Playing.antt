-- How histories and the starting country come back from a C function.
use Rattle.std.specs.Prelude.{List, [], ◌∷◌, ℕ}
use Rattle.format.specs.declared.tag.CountryTag.{CountryTag}
use Rattle.rules.specs.Lent.{Answer, refused, gives, Outcome}
use Rattle.format.specs.declared.values.HistoryCounts.{HistoryCounts}
use Rattle.rules.specs.PlayerOutcomes.{HistoryCells, call_player_histories, call_starting_country}
use Rattle.page.specs.Host.{found_cells}

-- ## `player_histories`, by the number of histories

-- Refused as before, or the first of the two counts. The second need not be told: the last row has it, where its names begin and how many
-- they are.
abbrev pub histories_given : Answer HistoryCounts → Answer ℕ
histories_given (refused n) = refused n
histories_given (gives counts) = gives counts.histories

-- The C function `player_histories`: the outcome of the call, of both counts the first.
unfoldable pub call_player_histories_given : List ℕ → List ℕ → List ℕ → HistoryCells → Outcome ℕ HistoryCells
call_player_histories_given xs ws es before =
    let called = call_player_histories xs ws es before in
    record { answer = histories_given called.answer; memory = called.memory }

-- ## `starting_country`, with its tag in a lent slice

-- One word: the tag's.
abbrev pub starting_words : CountryTag → List ℕ
starting_words t = t.0 ∷ []

-- The C function `starting_country`: the answer of the call, with the tag in the lent slice.
unfoldable pub call_starting_country_cells : List ℕ → List ℕ → List ℕ → List ℕ → Outcome ℕ (List ℕ)
call_starting_country_cells hs ws es before = found_cells starting_words (call_starting_country hs ws es) before
