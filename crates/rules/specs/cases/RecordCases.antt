-- Computed cases of owner changes, nations, holding and wearing (CaseForms says what these pages are).
use Rattle.std.specs.Prelude.{Bool, true, false, List, [], ◌∷◌, ◌++◌, ℕ}
use Rattle.std.proofs.Math.Option.{Option, none, some}
use Prim.Native.String.{String}
use Rattle.std.proofs.Math.ListN.{get_elem?}
use Rattle.lists.specs.Lists.{any_of, without}
use Rattle.format.specs.declared.tag.CountryTag.{CountryTag}
use Rattle.format.specs.Campaign.{campaign_of}
use Rattle.rules.specs.Chronicle.{Nation, is_appeared, is_annexed}
use Rattle.rules.specs.Lent.{Answer, gives, refused, Outcome}
use Rattle.format.specs.declared.values.DateRun.{DateRun}
use Rattle.format.specs.declared.values.NationCounts.{NationCounts}
use Rattle.rules.specs.NationRows.{nations_in}
use Rattle.rules.specs.Holding.{holder_on, holds_on, wears}
use Rattle.rules.specs.Guarantee.{counted, is_named}
use Rattle.rules.specs.Outcomes.{call_province_owners, call_events_on, NationCells, call_nation_events}
use Rattle.rules.specs.cases.Packing.{tagged, word, DraftCountry, DraftProvince, on, country, province, packed}
use Rattle.rules.specs.cases.Worked.{dated, worked}
use Rattle.rules.specs.Table.{sevens}
use Rattle.rules.specs.cases.CaseForms.{Case, case, second_version, change, nation, turned, came, went, rows, wrote, unwritten}

-- A record of countries and provinces, from 14440101 to 14500101.
abbrev landed : List DraftCountry → List DraftProvince → List ℕ
landed countries provinces =
    packed
    (record {
      flags = 0;
      start = 14440101;
      current = 14500101;
      countries = countries;
      provinces = provinces;
      wars = [];
      ledgers = [];
      strings = [];
    })

-- ## Owner changes

-- Province 2 is listed before 1. AAA to AAA is no change; two changes of province 2 share a day; its last event is dated before them.
abbrev tangled : List ℕ
tangled =
    landed []
    (province 2 "AAA" (on 14460101 "AAA" ∷ on 14460101 "BBB" ∷ on 14460101 "ABC" ∷ on 14450101 "AAA" ∷ [])
    ∷ province 1 "BBB" (on 14460101 "AAA" ∷ [])
    ∷ [])

abbrev tangled_changes : List (List ℕ)
tangled_changes =
    change 14450101 2 "ABC" "AAA"
    ∷ change 14460101 1 "BBB" "AAA"
    ∷ change 14460101 2 "AAA" "BBB"
    ∷ change 14460101 2 "BBB" "ABC"
    ∷ []

-- Room to spare, just enough, one word short; a record of version 2, before any question of room.
unfoldable pub change_cases : List (Case (Outcome ℕ (List ℕ)))
change_cases =
    case (call_province_owners tangled (sevens 17)) (wrote 4 tangled_changes 1)
    ∷ case (call_province_owners tangled (sevens 16)) (wrote 4 tangled_changes 0)
    ∷ case (call_province_owners tangled (sevens 15)) (unwritten 10 15)
    ∷ case (call_province_owners (second_version tangled) (sevens 15)) (unwritten 2 15)
    ∷ []

-- Before all changes, on a day with one and on a day with three, between, and after all; a bad date; the record's number before that.
unfoldable pub events_on_cases : List (Case (Answer DateRun))
events_on_cases =
    case (call_events_on tangled 14441231) (gives (record { first = 0; count = 0 }))
    ∷ case (call_events_on tangled 14450101) (gives (record { first = 0; count = 1 }))
    ∷ case (call_events_on tangled 14451231) (gives (record { first = 1; count = 0 }))
    ∷ case (call_events_on tangled 14460101) (gives (record { first = 1; count = 3 }))
    ∷ case (call_events_on tangled 14460102) (gives (record { first = 4; count = 0 }))
    ∷ case (call_events_on tangled 14460229) (refused 12)
    ∷ case (call_events_on (second_version tangled) 14460229) (refused 2)
    ∷ []

-- ## Nations

-- GBR became IRE first and SCO next by its rows, though the dates say otherwise. FRA and NOR have one initial, their first previous tag; SWE's
-- is `---`, which slot 0 starts as; POL never holds anything. DEN gains on the start day.
abbrev pub realms : List ℕ
realms =
    landed
    (country "GBR" ("AAA" ∷ "BBB" ∷ "SCO" ∷ []) (on 14490601 "TYR" ∷ on 14460101 "IRE" ∷ [])
    ∷ country "FRA" ("VAL" ∷ []) []
    ∷ country "ENG" [] []
    ∷ country "NOR" ("VAL" ∷ "POL" ∷ []) []
    ∷ country "SWE" ("AAA" ∷ []) (on 14470101 "---" ∷ [])
    ∷ country "DEN" [] []
    ∷ country "POL" [] []
    ∷ [])
    (province 1 "TYR" (on 14450101 "ENG" ∷ [])
    ∷ province 2 "VAL" (on 14440101 "DEN" ∷ on 14450101 "NOR" ∷ on 14470101 "FRA" ∷ [])
    ∷ province 3 "ENG" (on 14460101 "IRE" ∷ on 14490101 "NOR" ∷ [])
    ∷ province 4 "ZZZ" (on 14460102 "IRE" ∷ [])
    ∷ [])

-- By initial's bytes. ENG has no entries: its first is the number of entries before it.
abbrev realm_nations : List ℕ
realm_nations =
    rows
    (nation "---" "SWE" "SWE" 0 1
    ∷ nation "DEN" "DEN" "DEN" 1 1
    ∷ nation "ENG" "ENG" "ENG" 2 0
    ∷ nation "TYR" "IRE" "GBR" 2 5
    ∷ nation "VAL" "VAL" "NOR" 7 4
    ∷ [])

-- SWE, DEN, GBR, NOR. On 14460101 GBR's switch stands before its Appeared. On 14490101 GBR loses what IRE had got.
abbrev realm_entries : List ℕ
realm_entries =
    rows
    (turned 14470101 "SWE"
    ∷ went 14450101
    ∷ went 14450101
    ∷ turned 14460101 "SCO"
    ∷ came 14460101
    ∷ went 14490101
    ∷ turned 14490601 "IRE"
    ∷ went 14440101
    ∷ came 14450101
    ∷ went 14470101
    ∷ came 14490101
    ∷ [])

abbrev realm_changes : List ℕ
realm_changes =
    rows
    (change 14440101 2 "VAL" "DEN"
    ∷ change 14450101 1 "TYR" "ENG"
    ∷ change 14450101 2 "DEN" "NOR"
    ∷ change 14460101 3 "ENG" "IRE"
    ∷ change 14460102 4 "ZZZ" "IRE"
    ∷ change 14470101 2 "NOR" "FRA"
    ∷ change 14490101 3 "IRE" "NOR"
    ∷ [])

-- What nations writes; slot 4 went to IRE a day after IRE became SCO.
abbrev realm_cells : NationCells
realm_cells =
    record {
      nations = realm_nations;
      entries = realm_entries;
      holders = word "SWE" ∷ word "ENG" ∷ word "FRA" ∷ word "NOR" ∷ word "IRE" ∷ [];
      held = 0 ∷ 1 ∷ 1 ∷ 1 ∷ 1 ∷ 0 ∷ 0 ∷ [];
      changes = realm_changes;
    }

-- Cells behind each lent slice's part of an answer.
abbrev behind : NationCells → ℕ → NationCells
behind cells n =
    record {
      nations = cells.nations ++ sevens n;
      entries = cells.entries ++ sevens n;
      holders = cells.holders ++ sevens n;
      held = cells.held ++ sevens n;
      changes = cells.changes ++ sevens n;
    }

-- Lent slices of so many cells: nations, entries, holders, held, changes.
abbrev lent_cells : ℕ → ℕ → ℕ → ℕ → ℕ → NationCells
lent_cells nations entries holders held changes =
    record {
      nations = sevens nations;
      entries = sevens entries;
      holders = sevens holders;
      held = sevens held;
      changes = sevens changes;
    }

abbrev kept_cells : ℕ → NationCells → Outcome NationCounts NationCells
kept_cells number before = record { answer = refused number; memory = before }

-- Three countries were XXX, the last of them from the day that the second was. A slot that goes to XXX on their day or before it settles
-- to the second, a day later to the first, and after all of them to XXX itself. Nobody holds slot 0, and no mapped country anything.
abbrev settled : List ℕ
settled =
    landed
    (country "AAA" [] (on 14470101 "XXX" ∷ [])
    ∷ country "BBB" [] (on 14460101 "XXX" ∷ [])
    ∷ country "ABC" [] (on 14460101 "XXX" ∷ [])
    ∷ [])
    (province 1 "ZZZ" (on 14450101 "XXX" ∷ [])
    ∷ province 2 "ZZZ" (on 14460101 "XXX" ∷ [])
    ∷ province 3 "ZZZ" (on 14460102 "XXX" ∷ [])
    ∷ province 4 "ZZZ" (on 14470102 "XXX" ∷ [])
    ∷ [])

abbrev settled_cells : NationCells
settled_cells =
    record {
      nations = [];
      entries = [];
      holders = 0 ∷ word "BBB" ∷ word "BBB" ∷ word "AAA" ∷ word "XXX" ∷ [];
      held = 1 ∷ 2 ∷ 0 ∷ [];
      changes =
          rows
          (change 14450101 1 "ZZZ" "XXX"
          ∷ change 14460101 2 "ZZZ" "XXX"
          ∷ change 14460102 3 "ZZZ" "XXX"
          ∷ change 14470102 4 "ZZZ" "XXX"
          ∷ []);
    }

-- Just enough room; one cell to spare; each slice by itself one cell too short for the worked record; a record of version 2, before any
-- question of room.
unfoldable pub nation_cases : List (Case (Outcome NationCounts NationCells))
nation_cases =
    case (call_nation_events realms (lent_cells 25 33 5 7 28))
    (record {
      answer = gives (record { nations = 5; entries = 11; slots = 5; countries = 7; changes = 7 });
      memory = realm_cells;
    })
    ∷ case (call_nation_events settled (lent_cells 1 1 6 4 17))
    (record {
      answer = gives (record { nations = 0; entries = 0; slots = 5; countries = 3; changes = 4 });
      memory = behind settled_cells 1;
    })
    ∷ case (call_nation_events worked (lent_cells 9 9 3 2 8)) (kept_cells 10 (lent_cells 9 9 3 2 8))
    ∷ case (call_nation_events worked (lent_cells 10 8 3 2 8)) (kept_cells 10 (lent_cells 10 8 3 2 8))
    ∷ case (call_nation_events worked (lent_cells 10 9 2 2 8)) (kept_cells 10 (lent_cells 10 9 2 2 8))
    ∷ case (call_nation_events worked (lent_cells 10 9 3 1 8)) (kept_cells 10 (lent_cells 10 9 3 1 8))
    ∷ case (call_nation_events worked (lent_cells 10 9 3 2 7)) (kept_cells 10 (lent_cells 10 9 3 2 7))
    ∷ case (call_nation_events (second_version worked) (lent_cells 0 0 0 0 0)) (kept_cells 2 (lent_cells 0 0 0 0 0))
    ∷ []

-- ## On a day

-- Who holds slot 3: ENG to the last, GBR from the day that ENG lost it, NOR in the end; and slot 0 on any day.
unfoldable pub holder_cases : List (Case (Option CountryTag))
holder_cases =
    case (holder_on (campaign_of realms) (dated 14451231) (record { 0 = 3 })) (some (tagged "ENG"))
    ∷ case (holder_on (campaign_of realms) (dated 14460101) (record { 0 = 3 })) (some (tagged "GBR"))
    ∷ case (holder_on (campaign_of realms) (dated 14491231) (record { 0 = 3 })) (some (tagged "NOR"))
    ∷ case (holder_on (campaign_of realms) (dated 14491231) (record { 0 = 0 })) (some (tagged "SWE"))
    ∷ case (holder_on (campaign_of settled) (dated 14491231) (record { 0 = 0 })) none
    ∷ []

-- The nations as they are read from the rows written.
abbrev realm_list : List Nation
realm_list = nations_in realm_nations realm_entries

-- What GBR's nation, number 3, wears: its first tag, SCO from 14460101, IRE from 14490601.
abbrev worn : Option Nation → ℕ → Option CountryTag
worn none day = none
worn (some n) day = some (wears n (dated day))

-- Of a nation whose later entry stands first.
abbrev turned_round : Option Nation
turned_round = get_elem? (nations_in (nation "ENG" "GBR" "GBR" 0 2) (turned 14500101 "GBR" ++ turned 14460101 "SCO")) 0

unfoldable pub worn_cases : List (Case (Option CountryTag))
worn_cases =
    case (worn (get_elem? realm_list 3) 14451231) (some (tagged "TYR"))
    ∷ case (worn (get_elem? realm_list 3) 14460101) (some (tagged "SCO"))
    ∷ case (worn (get_elem? realm_list 3) 14490531) (some (tagged "SCO"))
    ∷ case (worn (get_elem? realm_list 3) 14490601) (some (tagged "IRE"))
    ∷ case (worn turned_round 14470101) (some (tagged "SCO"))
    ∷ []

-- Whether a tag is named by some nation other than number 3. A stored tag, as NOR, names none; first tags and targets do.
abbrev named_beside : String → Bool
named_beside tag = any_of (is_named (tagged tag)) (without 3 realm_list)

-- GBR holds something from 14460101 to 14490101.
unfoldable pub day_cases : List (Case Bool)
day_cases =
    case (holds_on (campaign_of realms) (dated 14451231) (tagged "GBR")) false
    ∷ case (holds_on (campaign_of realms) (dated 14460101) (tagged "GBR")) true
    ∷ case (holds_on (campaign_of realms) (dated 14490101) (tagged "GBR")) false
    ∷ case (named_beside "VAL") true
    ∷ case (named_beside "SWE") true
    ∷ case (named_beside "NOR") false
    ∷ case (named_beside "TYR") false
    ∷ []

-- How often NOR, nation 4, came and went after the start day and up to a day.
abbrev lives : Option Nation → ℕ → List ℕ
lives none day = []
lives (some n) day =
    counted is_appeared (dated 14440101) (dated day) n.entries
    ∷ counted is_annexed (dated 14440101) (dated day) n.entries
    ∷ []

unfoldable pub counted_cases : List (Case (List ℕ))
counted_cases =
    case (lives (get_elem? realm_list 4) 14440101) (0 ∷ 0 ∷ [])
    ∷ case (lives (get_elem? realm_list 4) 14450101) (1 ∷ 0 ∷ [])
    ∷ case (lives (get_elem? realm_list 4) 14490101) (2 ∷ 1 ∷ [])
    ∷ []
