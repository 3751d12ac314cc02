-- Rules 9: the worked record, and those records of the starred cases that are made from it or stand beside it.
use Rattle.std.specs.Prelude.{List, [], ◌∷◌, ℕ}
use Rattle.format.specs.declared.tag.CountryTag.{CountryTag}
use Rattle.format.specs.declared.date.Eu4Date.{Eu4Date}
use Rattle.rules.specs.cases.Packing.{tagged, DraftWarEvent, DraftLedger, on, country, province, war, point, ledger, packed}

-- The tags of the cases.
abbrev pub ENG : CountryTag
ENG = tagged "ENG"

abbrev pub GBR : CountryTag
GBR = tagged "GBR"

abbrev pub FRA : CountryTag
FRA = tagged "FRA"

-- A date by its number.
abbrev pub dated : ℕ → Eu4Date
dated d = record { 0 = d }

-- The worked record with a start date, wars and ledger rows: GBR was ENG until 14480601; provinces 1 and 2 pass between ENG and FRA.
abbrev pub worked_with : ℕ → List (List DraftWarEvent) → List DraftLedger → List ℕ
worked_with start wars ledgers =
    packed
    (record {
      flags = 0;
      start = start;
      current = 14500101;
      countries = country "GBR" [] (on 14480601 "ENG" ∷ []) ∷ country "FRA" [] [] ∷ [];
      provinces = province 1 "ENG" (on 14460101 "FRA" ∷ []) ∷ province 2 "FRA" (on 14470101 "ENG" ∷ []) ∷ [];
      wars = wars;
      ledgers = ledgers;
      strings = [];
    })

-- The worked record itself has neither wars nor ledger rows.
abbrev pub worked : List ℕ
worked = worked_with 14441111 [] []

-- The worked record with another start date.
abbrev pub starts_on : ℕ → List ℕ
starts_on start = worked_with start [] []

-- The worked record with two points of ENG's and one of GBR's.
abbrev pub worked_ledger : List ℕ
worked_ledger =
    worked_with 14441111 [] (ledger "ENG" (point 1445 10 ∷ point 1447 12 ∷ []) ∷ ledger "GBR" (point 1449 20 ∷ []) ∷ [])

-- GBR's only slot, which goes to GBR before ENG becomes GBR.
abbrev pub same_day : List ℕ
same_day =
    packed
    (record {
      flags = 0;
      start = 14441111;
      current = 14500101;
      countries = country "GBR" [] (on 14480601 "ENG" ∷ []) ∷ [];
      provinces = province 1 "ENG" (on 14470101 "GBR" ∷ []) ∷ [];
      wars = [];
      ledgers = [];
      strings = [];
    })

-- The worked record with three wars. GBR joins as ENG on the start day, as ENG on the day on which it is annexed, and under its own tag later;
-- FRA joins on two of these days. ENG also leaves a war, which makes no row.
abbrev pub worked_wars : List ℕ
worked_wars =
    worked_with 14441111
    ((war 14441111 0 "FRA" ∷ war 14441111 1 "ENG" ∷ [])
    ∷ (war 14460101 3 "ENG" ∷ war 14460101 0 "ENG" ∷ [])
    ∷ (war 14480601 1 "FRA" ∷ war 14480601 0 "GBR" ∷ [])
    ∷ [])
    []
