-- Computed cases of players, histories and the starting country (CaseForms says what these pages are).
use Rattle.std.specs.Prelude.{List, [], ◌∷◌, ◌++◌, ℕ}
use Rattle.std.proofs.Math.Option.{Option, none, some}
use Prim.Native.String.{String}
use Rattle.format.specs.declared.tag.CountryTag.{CountryTag}
use Rattle.rules.specs.Lent.{Answer, gives, refused, Outcome}
use Rattle.format.specs.declared.values.HistoryCounts.{HistoryCounts}
use Rattle.rules.specs.PlayerOutcomes.{call_players, HistoryCells, call_player_histories, call_starting_country}
use Rattle.rules.specs.cases.Packing.{tagged, word, DraftCountry, played, packed}
use Rattle.rules.specs.Table.{sevens}
use Rattle.rules.specs.cases.CaseForms.{Case, case, second_version, nation, turned, came, went, rows, wrote, unwritten}

-- A record of countries and strings, with flags: 1 ironman, 2 multiplayer.
abbrev named : ℕ → List DraftCountry → List String → List ℕ
named flags countries strings =
    packed
    (record {
      flags = flags;
      start = 14440101;
      current = 14500101;
      countries = countries;
      provinces = [];
      wars = [];
      ledgers = [];
      strings = strings;
    })

-- ## Players

-- Two for AAA, one of the name `Player`, one with a text too short for a tag, one with a byte that no tag has, and a name without a text.
abbrev pairs : List String
pairs = "Ann" ∷ "AAA" ∷ "Player" ∷ "BBB" ∷ "Bob" ∷ "BB" ∷ "Cid" ∷ "B_B" ∷ "Dan" ∷ "AAA" ∷ "Odd" ∷ []

-- Alone, and in multiplayer; one word short; a record of version 2, before any question of room.
unfoldable pub player_cases : List (Case (Outcome ℕ (List ℕ)))
player_cases =
    case (call_players (named 1 [] pairs) (sevens 5)) (wrote 2 ((0 ∷ word "AAA" ∷ []) ∷ (8 ∷ word "AAA" ∷ []) ∷ []) 1)
    ∷ case (call_players (named 2 [] pairs) (sevens 6))
    (wrote 3 ((0 ∷ word "AAA" ∷ []) ∷ (2 ∷ word "BBB" ∷ []) ∷ (8 ∷ word "AAA" ∷ []) ∷ []) 0)
    ∷ case (call_players (named 2 [] pairs) (sevens 5)) (unwritten 10 5)
    ∷ case (call_players (second_version (named 2 [] pairs)) (sevens 5)) (unwritten 2 5)
    ∷ []

-- ## Histories

-- Country flags: 1 human, 2 was_player, 4 has_switched_nation. AAA is followed by two that are nobody's; NON was no player's, though a
-- pair names it.
abbrev released : ℕ → ℕ → ℕ → List String → List ℕ
released flags country_flags cities strings =
    named flags
    (played "AAA" country_flags cities
    ∷ played "NON" 5 1
    ∷ played "LL1" 2 0
    ∷ played "LL2" 2 0
    ∷ [])
    strings

-- One player of AAA. Eve has a country without a history.
abbrev ann : List String
ann = "Eve" ∷ "NON" ∷ "Ann" ∷ "AAA" ∷ []

-- The nation of AAA with a latest tag; two stored under LL2, of which the first counts.
abbrev lived : String → List ℕ
lived latest =
    rows
    (nation "NON" "NON" "NON" 0 0
    ∷ nation "IN0" latest "AAA" 0 1
    ∷ nation "IN1" "LA1" "LL1" 1 0
    ∷ nation "IN2" "LA2" "LL2" 1 0
    ∷ nation "DUP" "DUP" "LL2" 1 0
    ∷ [])

-- A history row: its tags, the nation's number + 1 or 0, human, first, count.
abbrev history : String → String → String → ℕ → ℕ → ℕ → ℕ → List ℕ
history initial latest stored number human first count =
    word initial ∷ word latest ∷ word stored ∷ number ∷ human ∷ first ∷ count ∷ []

-- Lent slices of so many cells: rows, names.
abbrev lent_slices : ℕ → ℕ → HistoryCells
lent_slices rs names = record { rows = sevens rs; names = sevens names }

abbrev asked : List ℕ → List ℕ → ℕ → ℕ → Outcome HistoryCounts HistoryCells
asked xs nations rs names = call_player_histories xs nations (came 14450101) (lent_slices rs names)

-- The histories and names that were written, and so many cells behind both.
abbrev wrote_histories : List (List ℕ) → List ℕ → ℕ → ℕ → ℕ → Outcome HistoryCounts HistoryCells
wrote_histories hs names histories count beyond =
    record {
      answer = gives (record { histories = histories; names = count });
      memory = record { rows = rows hs ++ sevens beyond; names = names ++ sevens beyond };
    }

abbrev kept_slices : ℕ → ℕ → ℕ → Outcome HistoryCounts HistoryCells
kept_slices number rs names = record { answer = refused number; memory = lent_slices rs names }

-- AAA keeps its initial, and both leftovers stay.
abbrev unreleased : String → ℕ → Outcome HistoryCounts HistoryCells
unreleased latest human =
    wrote_histories
    (history "IN0" latest "AAA" 2 human 0 1 ∷ history "IN1" "LA1" "LL1" 3 0 1 0 ∷ history "IN2" "LA2" "LL2" 4 0 1 0 ∷ [])
    (2 ∷ []) 3 1 0

-- AAA takes the initial of LL2, which is gone.
abbrev released_told : Outcome HistoryCounts HistoryCells
released_told =
    wrote_histories (history "IN2" "AAA" "AAA" 2 1 0 1 ∷ history "IN1" "LA1" "LL1" 3 0 1 0 ∷ []) (2 ∷ []) 2 1 1

-- Released with three cities, and with one. Then each condition fails by itself: ironman, human, switched, cities above 0 (0 and -1),
-- stored and latest the same, one player. Last, none is left over to take from.
unfoldable pub release_cases : List (Case (Outcome HistoryCounts HistoryCells))
release_cases =
    case (asked (released 1 7 3 ann) (lived "AAA") 15 2) released_told
    ∷ case (asked (released 1 7 1 ann) (lived "AAA") 15 2) released_told
    ∷ case (asked (released 0 7 3 ann) (lived "AAA") 21 1) (unreleased "AAA" 1)
    ∷ case (asked (released 1 6 3 ann) (lived "AAA") 21 1) (unreleased "AAA" 0)
    ∷ case (asked (released 1 3 3 ann) (lived "AAA") 21 1) (unreleased "AAA" 1)
    ∷ case (asked (released 1 7 0 ann) (lived "AAA") 21 1) (unreleased "AAA" 1)
    ∷ case (asked (released 1 7 4294967295 ann) (lived "AAA") 21 1) (unreleased "AAA" 1)
    ∷ case (asked (released 1 7 3 ann) (lived "BBB") 21 1) (unreleased "BBB" 1)
    ∷ case (asked (released 1 7 3 ("Ann" ∷ "AAA" ∷ "Bob" ∷ "AAA" ∷ [])) (lived "AAA") 21 2)
    (wrote_histories
    (history "IN0" "AAA" "AAA" 2 1 0 2 ∷ history "IN1" "LA1" "LL1" 3 0 2 0 ∷ history "IN2" "LA2" "LL2" 4 0 2 0 ∷ [])
    (0 ∷ 2 ∷ []) 3 2 0)
    ∷ case (asked (named 1 (played "AAA" 7 3 ∷ []) ann) (lived "AAA") 7 1)
    (wrote_histories (history "IN0" "AAA" "AAA" 2 1 0 1 ∷ []) (2 ∷ []) 1 1 0)
    ∷ []

-- Two with players, so that nothing is taken: LL1, a row before them, goes last; BAR has no nation.
abbrev several : List ℕ
several =
    named 1
    (played "LL1" 2 0 ∷ played "AAA" 7 3 ∷ played "BAR" 3 0 ∷ [])
    ("Ann" ∷ "BAR" ∷ "Bob" ∷ "AAA" ∷ "Cid" ∷ "BAR" ∷ [])

abbrev several_told : Outcome HistoryCounts HistoryCells
several_told =
    wrote_histories
    (history "IN0" "AAA" "AAA" 2 1 0 1 ∷ history "BAR" "BAR" "BAR" 0 1 1 2 ∷ history "IN1" "LA1" "LL1" 3 0 3 0 ∷ [])
    (2 ∷ 0 ∷ 4 ∷ []) 3 3 0

-- Just enough room; one word short of either slice; a word over in the rows lent; and a record of version 2 as well.
unfoldable pub history_cases : List (Case (Outcome HistoryCounts HistoryCells))
history_cases =
    case (asked several (lived "AAA") 21 3) several_told
    ∷ case (asked several (lived "AAA") 20 3) (kept_slices 10 20 3)
    ∷ case (asked several (lived "AAA") 21 2) (kept_slices 10 21 2)
    ∷ case (asked several (lived "AAA" ++ (7 ∷ [])) 20 2) (kept_slices 11 20 2)
    ∷ case (asked (second_version several) (lived "AAA" ++ (7 ∷ [])) 20 2) (kept_slices 2 20 2)
    ∷ []

-- Nobody's: ironman, and AAA fit to be released but for a player.
abbrev nobodies : List ℕ
nobodies = named 1 (played "LL1" 2 0 ∷ played "AAA" 7 3 ∷ played "LL2" 2 0 ∷ []) []

abbrev nobodies_told : Outcome HistoryCounts HistoryCells
nobodies_told =
    wrote_histories
    (history "IN1" "LA1" "LL1" 3 0 0 0 ∷ history "IN0" "AAA" "AAA" 2 1 0 0 ∷ history "IN2" "LA2" "LL2" 4 0 0 0 ∷ [])
    [] 3 0 2

-- Four with players, and two without between them.
abbrev many : List ℕ
many =
    named 1
    (played "LL1" 2 0 ∷ played "BAR" 2 0 ∷ played "BAS" 2 0 ∷ played "LL2" 2 0 ∷ played "BAT" 2 0 ∷ played "AAA" 7 3 ∷ [])
    ("Ann" ∷ "AAA" ∷ "Bob" ∷ "BAS" ∷ "Cid" ∷ "BAR" ∷ "Dan" ∷ "BAT" ∷ [])

abbrev many_told : Outcome HistoryCounts HistoryCells
many_told =
    wrote_histories
    (history "BAR" "BAR" "BAR" 0 0 0 1
    ∷ history "BAS" "BAS" "BAS" 0 0 1 1
    ∷ history "BAT" "BAT" "BAT" 0 0 2 1
    ∷ history "IN0" "AAA" "AAA" 2 1 3 1
    ∷ history "IN1" "LA1" "LL1" 3 0 4 0
    ∷ history "IN2" "LA2" "LL2" 4 0 4 0
    ∷ [])
    (4 ∷ 2 ∷ 6 ∷ 0 ∷ []) 6 4 0

-- None with players, and none at all; more than two with players.
unfoldable pub order_cases : List (Case (Outcome HistoryCounts HistoryCells))
order_cases =
    case (asked nobodies (lived "AAA") 23 2) nobodies_told
    ∷ case (asked (named 1 (played "AAA" 5 3 ∷ []) ann) (lived "AAA") 1 1) (wrote_histories [] [] 0 0 1)
    ∷ case (asked many (lived "AAA") 42 4) many_told
    ∷ []

-- ## The starting country

-- Three nations: the first and the last appeared, the second did not.
abbrev starters : List ℕ
starters = rows (nation "IN1" "LA1" "ST1" 0 1 ∷ nation "IN2" "LA2" "ST2" 1 2 ∷ nation "IN3" "LA3" "ST3" 3 2 ∷ [])

abbrev start_entries : List ℕ
start_entries = rows (came 14450101 ∷ went 14450101 ∷ turned 14460101 "LA2" ∷ went 14450101 ∷ came 14460101 ∷ [])

-- The history of a nation by its number + 1, or of none.
abbrev of : String → ℕ → List ℕ
of initial number = history initial "LAT" "STO" number 0 0 0

abbrev starting : List (List ℕ) → Answer (Option CountryTag)
starting hs = call_starting_country (rows hs) starters start_entries

-- One lacks Appeared, by its nation or for want of one; all have it, and there is one; all have it, and there are two; two lack it; there
-- is none.
unfoldable pub starting_cases : List (Case (Answer (Option CountryTag)))
starting_cases =
    case (starting (of "AAA" 1 ∷ of "BBB" 2 ∷ of "ABC" 3 ∷ [])) (gives (some (tagged "BBB")))
    ∷ case (starting (of "AAA" 1 ∷ of "BBB" 0 ∷ [])) (gives (some (tagged "BBB")))
    ∷ case (starting (of "AAA" 3 ∷ [])) (gives (some (tagged "AAA")))
    ∷ case (starting (of "AAA" 1 ∷ of "BBB" 3 ∷ [])) (gives none)
    ∷ case (starting (of "AAA" 2 ∷ of "BBB" 0 ∷ of "ABC" 1 ∷ [])) (gives none)
    ∷ case (starting []) (gives none)
    ∷ []

-- Rows of histories with a word over, with a word for each tag that is none, and of a nation that is not listed; rows of nations with a
-- word over.
unfoldable pub starting_shape_cases : List (Case (Answer (Option CountryTag)))
starting_shape_cases =
    case (starting (of "AAA" 3 ∷ (7 ∷ []) ∷ [])) (refused 11)
    ∷ case (starting (history "A_A" "LAT" "STO" 1 0 0 0 ∷ [])) (refused 11)
    ∷ case (starting (history "AAA" "L_T" "STO" 1 0 0 0 ∷ [])) (refused 11)
    ∷ case (starting (history "AAA" "LAT" "S_O" 1 0 0 0 ∷ [])) (refused 11)
    ∷ case (starting (of "AAA" 4 ∷ [])) (refused 11)
    ∷ case (call_starting_country (of "AAA" 3) (starters ++ (7 ∷ [])) start_entries) (refused 11)
    ∷ []
