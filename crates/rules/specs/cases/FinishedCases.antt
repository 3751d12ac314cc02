-- Computed cases of the finished chronicle, made by one call (CaseForms says what these pages are).
use Rattle.std.specs.Prelude.{List, [], ◌∷◌, ℕ}
use Rattle.std.proofs.Math.Option.{Option, none, some}
use Rattle.format.specs.declared.values.TagData.{TagData}
use Rattle.rules.specs.Lent.{gives, refused, Outcome}
use Rattle.rules.specs.Finished.{LentSlices, FinishedAnswer, call_finish_chronicle}
use Rattle.rules.specs.Table.{sevens}
use Rattle.rules.specs.cases.Packing.{word}
use Rattle.rules.specs.cases.Worked.{ENG, GBR, FRA, worked_wars}
use Rattle.rules.specs.cases.CaseForms.{Case, case, second_version, change, nation, turned, came, went, rows}

-- Slices of so many cells: for nations, entries, holders, held, changes, and bookings.
abbrev lent : ℕ → ℕ → ℕ → ℕ → ℕ → ℕ → LentSlices
lent nations entries holders held changes bookings =
    record {
      chronicle = record { nations = sevens nations; entries = sevens entries; holders = sevens holders; held = sevens held; changes = sevens changes };
      bookings = sevens bookings;
    }

-- Just enough for the worked record with wars: two nations, three entries, three slots, two countries, two changes, five bookings.
abbrev enough : LentSlices
enough = lent 10 9 3 2 8 15

-- What is written, with a 7 behind it where one was lent too many. GBR is found as ENG until it is GBR, and so is it booked.
abbrev worked_rows : LentSlices
worked_rows =
    record {
      chronicle =
          record {
            nations = rows (nation "ENG" "GBR" "GBR" 0 3 ∷ nation "FRA" "FRA" "FRA" 3 0 ∷ sevens 1 ∷ []);
            entries = rows (went 14460101 ∷ came 14470101 ∷ turned 14480601 "GBR" ∷ sevens 1 ∷ []);
            holders = 0 ∷ FRA.0 ∷ GBR.0 ∷ 7 ∷ [];
            held = 1 ∷ 1 ∷ 7 ∷ [];
            changes = rows (change 14460101 1 "ENG" "FRA" ∷ change 14470101 2 "FRA" "ENG" ∷ sevens 1 ∷ []);
          };
      bookings =
          rows
          ((0 ∷ FRA.0 ∷ FRA.0 ∷ [])
          ∷ (0 ∷ ENG.0 ∷ GBR.0 ∷ [])
          ∷ (1 ∷ ENG.0 ∷ GBR.0 ∷ [])
          ∷ (2 ∷ FRA.0 ∷ FRA.0 ∷ [])
          ∷ (2 ∷ GBR.0 ∷ GBR.0 ∷ [])
          ∷ sevens 1
          ∷ []);
    }

-- The answer, by whose the tag is that was asked for.
abbrev worked_answer : Option TagData → FinishedAnswer
worked_answer found =
    record { counts = record { nations = 2; entries = 3; slots = 3; countries = 2; changes = 2 }; found = found; bookings = 5 }

-- A tag and a day are asked for, with a cell more than enough in each slice.
abbrev asked : ℕ → ℕ → Outcome FinishedAnswer LentSlices
asked tag day = call_finish_chronicle worked_wars tag day (lent 11 10 4 3 9 16)

abbrev finds : Option TagData → Outcome FinishedAnswer LentSlices
finds found = record { answer = gives (worked_answer found); memory = worked_rows }

-- On the day from which on GBR is called so; on that on which it is annexed, still ENG; a tag that nobody has.
unfoldable pub finished_cases : List (Case (Outcome FinishedAnswer LentSlices))
finished_cases =
    case (asked GBR.0 14480601) (finds (some (record { current = GBR; stored = GBR })))
    ∷ case (asked ENG.0 14460101) (finds (some (record { current = ENG; stored = GBR })))
    ∷ case (asked (word "DEN") 14480601) (finds none)
    ∷ []

-- Refused, by a number, with the slices as they were.
abbrev refuses : List ℕ → ℕ → ℕ → LentSlices → ℕ → Case (Outcome FinishedAnswer LentSlices)
refuses xs tag day before number =
    case (call_finish_chronicle xs tag day before) (record { answer = refused number; memory = before })

-- All is wrong; all but the record; the tag alone and the day alone, with no room; room for all but one of the slices, each in its turn.
unfoldable pub unfinished_cases : List (Case (Outcome FinishedAnswer LentSlices))
unfinished_cases =
    refuses (second_version worked_wars) 0 14480229 (lent 0 0 0 0 0 0) 2
    ∷ refuses worked_wars 0 14480229 (lent 0 0 0 0 0 0) 12
    ∷ refuses worked_wars 0 14480601 (lent 0 0 0 0 0 0) 12
    ∷ refuses worked_wars GBR.0 14480229 (lent 0 0 0 0 0 0) 12
    ∷ refuses worked_wars GBR.0 14480601 (lent 9 9 3 2 8 15) 10
    ∷ refuses worked_wars GBR.0 14480601 (lent 10 8 3 2 8 15) 10
    ∷ refuses worked_wars GBR.0 14480601 (lent 10 9 2 2 8 15) 10
    ∷ refuses worked_wars GBR.0 14480601 (lent 10 9 3 1 8 15) 10
    ∷ refuses worked_wars GBR.0 14480601 (lent 10 9 3 2 7 15) 10
    ∷ refuses worked_wars GBR.0 14480601 (lent 10 9 3 2 8 14) 10
    ∷ []
