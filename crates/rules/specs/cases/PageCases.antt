-- Computed cases of the page (CaseForms says what these pages are).
use Rattle.std.specs.Prelude.{List, [], ◌∷◌, ◌++◌, ℕ, replicate}
use Rattle.std.proofs.Math.Option.{none, some}
use Prim.Native.String.{String}
use Rattle.lists.specs.Lists.{join_of}
use Rattle.lists.specs.Text.{ascii}
use Rattle.rules.specs.Lent.{gives, Outcome}
use Rattle.rules.specs.NationRows.{nations_in}
use Rattle.rules.specs.Page.{decimal, page_text}
use Rattle.rules.specs.PageOutcomes.{call_page, call_program}
use Rattle.rules.specs.cases.Packing.{tagged}
use Rattle.rules.specs.cases.Worked.{worked}
use Rattle.rules.specs.cases.RecordCases.{realms}
use Rattle.rules.specs.Table.{sevens}
use Rattle.rules.specs.cases.CaseForms.{Case, case, second_version, nation, unwritten}

-- The page that a record and a selection print.
abbrev page : List ℕ → String → List ℕ
page xs selection = call_program (some xs) (ascii selection)

-- A tag twice, one that is no country's, one of a country that is not listed. GBR's last entry is a switch behind Annexed. Then ten tags,
-- and none; selections that are none; the record's number before that; and a file that cannot be read.
unfoldable pub page_cases : List (Case (List ℕ))
page_cases =
    case (page realms "NOR\nZZZ\nNOR\nFRA\nGBR\n")
    (ascii "selected 5\nNOR VAL VAL 4 living\nZZZ absent\nNOR VAL VAL 4 living\nFRA absent\nGBR TYR IRE 5 annexed\n")
    ∷ case (call_program (some worked) (join_of ascii (replicate 10 "ZZZ\n")))
    (ascii "selected 10\n" ++ join_of ascii (replicate 10 "ZZZ absent\n"))
    ∷ case (page worked "") (ascii "selected 0\n")
    ∷ case (page worked "GBR") (ascii "refused 12\n")
    ∷ case (page worked "GBR\nF") (ascii "refused 12\n")
    ∷ case (page worked "GBR\nFR") (ascii "refused 12\n")
    ∷ case (page worked "GBR\r\n") (ascii "refused 12\n")
    ∷ case (page worked "GBR FRA\n") (ascii "refused 12\n")
    ∷ case (page worked "G_R\n") (ascii "refused 12\n")
    ∷ case (call_program (some worked) (ascii "GBR" ++ (9 ∷ []))) (ascii "refused 12\n")
    ∷ case (call_program (some worked) (ascii "GBR" ++ (11 ∷ []))) (ascii "refused 12\n")
    ∷ case (page (second_version worked) "GBR") (ascii "refused 2\n")
    ∷ case (call_program none []) (ascii "refused 1\n")
    ∷ []

-- One digit, two, three, and five.
unfoldable pub decimal_cases : List (Case (List ℕ))
decimal_cases =
    case (decimal 0) (ascii "0")
    ∷ case (decimal 9) (ascii "9")
    ∷ case (decimal 10) (ascii "10")
    ∷ case (decimal 99) (ascii "99")
    ∷ case (decimal 100) (ascii "100")
    ∷ case (decimal 16384) (ascii "16384")
    ∷ []

-- Of two nations stored under one tag, which no campaign has, the first.
unfoldable pub same_stored_cases : List (Case (List ℕ))
same_stored_cases =
    case (page_text (nations_in (nation "ENG" "ENG" "NOR" 0 0 ++ nation "SCO" "SCO" "NOR" 0 0) []) (tagged "NOR" ∷ []))
    (ascii "selected 1\nNOR ENG ENG 0 living\n")
    ∷ []

-- The C function: just enough room, and a byte short; 12 before the room.
unfoldable pub page_room_cases : List (Case (Outcome ℕ (List ℕ)))
page_room_cases =
    case (call_page worked (ascii "FRA\n") (sevens 32)) (record { answer = gives 32; memory = ascii "selected 1\nFRA FRA FRA 0 living\n" })
    ∷ case (call_page worked (ascii "FRA\n") (sevens 31)) (unwritten 10 31)
    ∷ case (call_page worked (ascii "FRA") (sevens 5)) (unwritten 12 5)
    ∷ []
