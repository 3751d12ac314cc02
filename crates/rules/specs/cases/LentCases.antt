-- Computed cases of what is lent the rows of a chronicle: resolver, shape, war bookings and ledger (CaseForms says what these pages are).
-- The rows are made up, so that initial, latest and stored differ and entries stand in any order.
use Rattle.std.specs.Prelude.{List, [], ◌∷◌, ◌++◌, map, ℕ}
use Rattle.std.proofs.Math.Option.{Option, none, some}
use Prim.Native.String.{String}
use Rattle.rules.specs.Lent.{Answer, gives, refused, Outcome}
use Rattle.format.specs.declared.values.TagData.{TagData}
use Rattle.rules.specs.Outcomes.{call_resolve, call_initial, call_resolve_on, call_initial_on, call_war_participants, call_nation_ledger}
use Rattle.rules.specs.cases.Packing.{tagged, word, DraftWarEvent, DraftLedger, war, point, ledger, packed}
use Rattle.rules.specs.Table.{sevens}
use Rattle.rules.specs.cases.CaseForms.{Case, case, second_version, nation, turned, came, went, rows, wrote, unwritten}

-- The words of a chronicle.
pub record LentChronicle : Type 0 where
  pub nations : List ℕ
  pub entries : List ℕ

-- A tag and whose it is.
abbrev known : String → String → Answer (Option TagData)
known current stored = gives (some (record { current = tagged current; stored = tagged stored }))

-- ## Resolver

-- Nations 0 and 1 have one initial; 1 and 2 became GBR on one day. The entries of nation 0 stand from the last to the first.
abbrev pub mixed : LentChronicle
mixed =
    record {
      nations = rows (nation "ENG" "LA0" "ST0" 0 3 ∷ nation "ENG" "LA1" "ST1" 3 2 ∷ nation "SCO" "LA2" "ST2" 5 2 ∷ []);
      entries =
          rows
          (turned 14500101 "GBR"
          ∷ turned 14460101 "SCO"
          ∷ went 14440101
          ∷ turned 14480101 "GBR"
          ∷ came 14490101
          ∷ turned 14480101 "GBR"
          ∷ turned 14450101 "GBR"
          ∷ []);
    }

abbrev resolved : ℕ → ℕ → Answer (Option TagData)
resolved tag date = call_resolve mixed.nations mixed.entries tag date

abbrev first : ℕ → Answer (Option TagData)
first tag = call_initial mixed.nations mixed.entries tag

abbrev resolved_on : ℕ → ℕ → ℕ → Answer (Option TagData)
resolved_on day tag date = call_resolve_on mixed.nations mixed.entries day tag date

abbrev first_on : ℕ → ℕ → Answer (Option TagData)
first_on day tag = call_initial_on mixed.nations mixed.entries day tag

-- Plain: a day with two switches, a later one of a nation listed earlier, the first day of all and the day before; a tag that is an
-- initial twice; one that is a target and, the day before, only an initial.
unfoldable pub resolve_cases : List (Case (Answer (Option TagData)))
resolve_cases =
    case (resolved (word "GBR") 14490101) (known "LA2" "ST2")
    ∷ case (resolved (word "GBR") 14500101) (known "LA0" "ST0")
    ∷ case (resolved (word "GBR") 14450101) (known "LA2" "ST2")
    ∷ case (resolved (word "GBR") 14441231) (gives none)
    ∷ case (resolved (word "ENG") 14500101) (known "LA1" "ST1")
    ∷ case (resolved (word "SCO") 14460101) (known "LA0" "ST0")
    ∷ case (resolved (word "SCO") 14451231) (known "LA2" "ST2")
    ∷ case (first (word "SCO")) (known "LA2" "ST2")
    ∷ case (first (word "ENG")) (known "LA1" "ST1")
    ∷ case (first (word "GBR")) (gives none)
    ∷ []

-- Set to a day: nation 0's walk ends at once, though SCO is dated before that day; from 14500101 on it goes to its end. Nation 2 before,
-- and from, 14480101. Initial, with a switch up to the day, also of a tag that another nation has by then; with two; without one; and of
-- no nation.
unfoldable pub day_resolve_cases : List (Case (Answer (Option TagData)))
day_resolve_cases =
    case (resolved_on 14460101 (word "SCO") 14460101) (known "ENG" "ST0")
    ∷ case (resolved_on 14500101 (word "SCO") 14460101) (known "SCO" "ST0")
    ∷ case (resolved_on 14471231 (word "GBR") 14490101) (known "SCO" "ST2")
    ∷ case (resolved_on 14480101 (word "GBR") 14490101) (known "GBR" "ST2")
    ∷ case (resolved_on 14480101 (word "GBR") 14441231) (gives none)
    ∷ case (first_on 14480101 (word "ENG")) (known "GBR" "ST1")
    ∷ case (first_on 14500101 (word "SCO")) (known "GBR" "ST2")
    ∷ case (call_initial_on (nation "ENG" "LA0" "ST0" 0 2) (turned 14460101 "SCO" ++ turned 14470101 "IRE") 14470101 (word "ENG")) (known "IRE" "ST0")
    ∷ case (first_on 14471231 (word "ENG")) (gives none)
    ∷ case (first_on 14480101 (word "DEN")) (gives none)
    ∷ []

-- A word that is no tag, a number that is no date, each by itself in each of the four forms.
unfoldable pub asked_cases : List (Case (Answer (Option TagData)))
asked_cases =
    case (resolved 0 14490101) (refused 12)
    ∷ case (resolved (word "GBR") 14490229) (refused 12)
    ∷ case (first 0) (refused 12)
    ∷ case (resolved_on 14490229 (word "GBR") 14490101) (refused 12)
    ∷ case (resolved_on 14490101 0 14490101) (refused 12)
    ∷ case (resolved_on 14490101 (word "GBR") 14490229) (refused 12)
    ∷ case (first_on 14490229 (word "GBR")) (refused 12)
    ∷ case (first_on 14490101 0) (refused 12)
    ∷ []

-- ## Shape

-- The words of nations and of entries.
abbrev pub lent_chronicle : List ℕ → List ℕ → LentChronicle
lent_chronicle nations entries = record { nations = nations; entries = entries }

-- One nation and its one entry.
abbrev sole_nation : List ℕ
sole_nation = nation "ENG" "GBR" "GBR" 0 1

abbrev sole_entry : List ℕ
sole_entry = turned 14480601 "GBR"

-- One thing wrong in each, in this order: a word over behind the nations, and behind the entries; each of a nation's three tags, which is none; a date
-- that is none; a kind above 2; a switch to no tag; of both other kinds an entry with a target; a nation whose first entry is not the first; an
-- entry that no nation has; one that two nations have; one that a nation counts and that is not there.
abbrev misshapen : List LentChronicle
misshapen =
    lent_chronicle (sole_nation ++ (7 ∷ [])) sole_entry
    ∷ lent_chronicle sole_nation (sole_entry ++ (7 ∷ []))
    ∷ lent_chronicle (nation "E_G" "GBR" "GBR" 0 1) sole_entry
    ∷ lent_chronicle (nation "ENG" "G_R" "GBR" 0 1) sole_entry
    ∷ lent_chronicle (nation "ENG" "GBR" "G_R" 0 1) sole_entry
    ∷ lent_chronicle sole_nation (turned 14480229 "GBR")
    ∷ lent_chronicle sole_nation (14480601 ∷ 3 ∷ 0 ∷ [])
    ∷ lent_chronicle sole_nation (14480601 ∷ 0 ∷ 0 ∷ [])
    ∷ lent_chronicle sole_nation (14480601 ∷ 1 ∷ word "GBR" ∷ [])
    ∷ lent_chronicle sole_nation (14480601 ∷ 2 ∷ word "GBR" ∷ [])
    ∷ lent_chronicle (nation "ENG" "GBR" "GBR" 1 1) sole_entry
    ∷ lent_chronicle sole_nation (sole_entry ++ sole_entry)
    ∷ lent_chronicle (sole_nation ++ sole_nation) (sole_entry ++ sole_entry)
    ∷ lent_chronicle (nation "ENG" "GBR" "GBR" 0 2) sole_entry
    ∷ []

-- Nothing wrong: no rows at all; one nation; two with entries behind each other, one in between that has none.
abbrev shapely : List LentChronicle
shapely =
    lent_chronicle [] []
    ∷ lent_chronicle sole_nation sole_entry
    ∷ lent_chronicle (sole_nation ++ nation "NOR" "NOR" "NOR" 1 0 ++ nation "SCO" "SCO" "SCO" 1 2) (sole_entry ++ came 14490101 ++ went 14500101)
    ∷ []

-- Each is asked for what is no tag: 11 comes first, 12 without it.
unfoldable pub shape_cases : List (Case (List (Answer (Option TagData))))
shape_cases =
    case (map (λ t. call_initial t.nations t.entries 0) misshapen) (map (λ t. refused 11) misshapen)
    ∷ case (map (λ t. call_initial t.nations t.entries 0) shapely) (map (λ t. refused 12) shapely)
    ∷ []

-- The other forms, with every question bad too.
unfoldable pub misshapen_cases : List (Case (Answer (Option TagData)))
misshapen_cases =
    case (call_resolve (7 ∷ []) [] 0 0) (refused 11)
    ∷ case (call_resolve_on (7 ∷ []) [] 0 0 0) (refused 11)
    ∷ case (call_initial_on (7 ∷ []) [] 0 0) (refused 11)
    ∷ []

-- ## War bookings

-- A record of wars and ledger rows, from 14440601 to 14500101.
abbrev fought : List (List DraftWarEvent) → List DraftLedger → List ℕ
fought wars ledgers =
    packed
    (record {
      flags = 0;
      start = 14440601;
      current = 14500101;
      countries = [];
      provinces = [];
      wars = wars;
      ledgers = ledgers;
      strings = [];
    })

-- War 0 has no one who joins, war 2 nothing at all. GBR joins war 3 a day too early to be ST0's.
abbrev wars : List ℕ
wars =
    fought
    ((war 14480601 2 "GBR" ∷ [])
    ∷ (war 14480601 0 "GBR" ∷ war 14480601 1 "ENG" ∷ war 14480601 3 "ENG" ∷ war 14480601 4 "GBR" ∷ [])
    ∷ []
    ∷ (war 14480531 1 "GBR" ∷ war 14480601 0 "XXX" ∷ [])
    ∷ [])
    []

abbrev fighters : List ℕ
fighters = nation "ENG" "LA0" "ST0" 0 1

abbrev bookings : List (List ℕ)
bookings =
    (1 ∷ word "GBR" ∷ word "ST0" ∷ [])
    ∷ (1 ∷ word "ENG" ∷ word "ST0" ∷ [])
    ∷ (3 ∷ word "GBR" ∷ word "GBR" ∷ [])
    ∷ (3 ∷ word "XXX" ∷ word "XXX" ∷ [])
    ∷ []

-- Enough room; one word short; a word over in the rows lent; and a record of version 2 as well.
unfoldable pub booking_cases : List (Case (Outcome ℕ (List ℕ)))
booking_cases =
    case (call_war_participants wars fighters sole_entry (sevens 12)) (wrote 4 bookings 0)
    ∷ case (call_war_participants wars fighters sole_entry (sevens 14)) (wrote 4 bookings 2)
    ∷ case (call_war_participants wars fighters sole_entry (sevens 11)) (unwritten 10 11)
    ∷ case (call_war_participants wars (fighters ++ (7 ∷ [])) sole_entry (sevens 11)) (unwritten 11 11)
    ∷ case (call_war_participants (second_version wars) (fighters ++ (7 ∷ [])) sole_entry (sevens 11)) (unwritten 2 11)
    ∷ []

-- ## Ledger

-- ENG's points before the first in or after 1444 are passed over, a later one of 1443 is not; 1449 ends the row's use, 1447 behind it
-- is lost. ENG's second row is never read. A value may be any word.
abbrev pub accounts : List ℕ
accounts =
    fought []
    (ledger "ENG" (point 1443 1 ∷ point 1444 6 ∷ point 1446 4294967295 ∷ point 1443 3 ∷ point 1449 4 ∷ point 1447 5 ∷ [])
    ∷ ledger "NOR" (point 1444 1 ∷ point 1445 2 ∷ point 1447 3 ∷ [])
    ∷ ledger "ENG" (point 1445 99 ∷ [])
    ∷ ledger "SCO" (point 1450 7 ∷ [])
    ∷ [])

-- Annexed, then a switch; Appeared, then Annexed; Annexed, then Appeared; a nation without a ledger row.
abbrev pub owners : LentChronicle
owners =
    lent_chronicle
    (rows
    (nation "ENG" "LA0" "ST0" 0 2
    ∷ nation "NOR" "LA1" "ST1" 2 2
    ∷ nation "NOR" "LA2" "ST2" 4 2
    ∷ nation "XXX" "LA3" "ST3" 6 0
    ∷ []))
    (rows (went 14470101 ∷ turned 14480101 "SCO" ∷ came 14450101 ∷ went 14460101 ∷ went 14450101 ∷ came 14470101 ∷ []))

-- A row of the answer.
abbrev pub given : String → ℕ → ℕ → List ℕ
given tag year value = word tag ∷ year ∷ value ∷ []

-- From 1444 to 1447; from 1444 again, to 1448; SCO from 1448 to 1450.
abbrev switched_points : List (List ℕ)
switched_points =
    given "ENG" 1444 6
    ∷ given "ENG" 1445 0
    ∷ given "ENG" 1446 4294967295
    ∷ given "ENG" 1443 3
    ∷ given "ENG" 1444 0
    ∷ given "ENG" 1445 0
    ∷ given "ENG" 1446 0
    ∷ given "ENG" 1447 0
    ∷ given "ENG" 1444 6
    ∷ given "ENG" 1445 0
    ∷ given "ENG" 1446 4294967295
    ∷ given "ENG" 1443 3
    ∷ given "ENG" 1444 0
    ∷ given "ENG" 1445 0
    ∷ given "ENG" 1446 0
    ∷ given "ENG" 1447 0
    ∷ given "ENG" 1448 0
    ∷ given "SCO" 1449 0
    ∷ given "SCO" 1450 7
    ∷ []

-- From 1445 to 1446, and no more.
abbrev pub gone_points : List (List ℕ)
gone_points = given "NOR" 1445 2 ∷ given "NOR" 1446 0 ∷ []

-- From 1444 to 1445; from 1447 to 1450.
abbrev pub back_points : List (List ℕ)
back_points =
    given "NOR" 1444 1
    ∷ given "NOR" 1445 2
    ∷ given "NOR" 1447 3
    ∷ given "NOR" 1448 0
    ∷ given "NOR" 1449 0
    ∷ given "NOR" 1450 0
    ∷ []

abbrev ledger_call : ℕ → ℕ → Outcome ℕ (List ℕ)
ledger_call number cells = call_nation_ledger accounts owners.nations owners.entries number (sevens cells)

-- Each nation; one word short; a number that no nation has, before the room; then a word over in the rows, and a record of version 2.
unfoldable pub ledger_cases : List (Case (Outcome ℕ (List ℕ)))
ledger_cases =
    case (ledger_call 0 57) (wrote 19 switched_points 0)
    ∷ case (ledger_call 1 7) (wrote 2 gone_points 1)
    ∷ case (ledger_call 2 18) (wrote 6 back_points 0)
    ∷ case (ledger_call 3 0) (wrote 0 [] 0)
    ∷ case (ledger_call 1 5) (unwritten 10 5)
    ∷ case (ledger_call 4 5) (unwritten 13 5)
    ∷ case (call_nation_ledger accounts [] [] 0 (sevens 5)) (unwritten 13 5)
    ∷ case (call_nation_ledger accounts (owners.nations ++ (7 ∷ [])) owners.entries 4 (sevens 5)) (unwritten 11 5)
    ∷ case (call_nation_ledger (second_version accounts) (owners.nations ++ (7 ∷ [])) owners.entries 4 (sevens 5)) (unwritten 2 5)
    ∷ []
