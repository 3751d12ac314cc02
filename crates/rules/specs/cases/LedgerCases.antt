-- Computed cases of how much room a ledger needs, of nations annexed twice and without entries, and of the ledgers of all nations (CaseForms
-- says what these pages are).
use Rattle.std.specs.Prelude.{List, [], ◌∷◌, ◌++◌, ℕ}
use Rattle.rules.specs.Lent.{Answer, gives, refused, Outcome}
use Rattle.rules.specs.Outcomes.{call_nation_ledger, call_nation_ledger_rows, LedgerCells, call_nation_ledgers}
use Rattle.rules.specs.Table.{sevens}
use Rattle.rules.specs.cases.CaseForms.{Case, case, second_version, nation, came, went, rows, wrote}
use Rattle.rules.specs.cases.LentCases.{LentChronicle, lent_chronicle, accounts, owners, given, gone_points, back_points}

-- Of a nation by its number, no more than so many.
abbrev rows_counted : ℕ → ℕ → Answer ℕ
rows_counted number most = call_nation_ledger_rows accounts owners.nations owners.entries number most

-- As many as it has; just as many as are counted, one more, and none; no ledger row. A number that no nation has; before that a word over
-- in the rows; before that a record of version 2.
unfoldable pub room_cases : List (Case (Answer ℕ))
room_cases =
    case (rows_counted 2 1000) (gives 6)
    ∷ case (rows_counted 2 6) (gives 6)
    ∷ case (rows_counted 2 5) (gives 5)
    ∷ case (rows_counted 1 0) (gives 0)
    ∷ case (rows_counted 3 5) (gives 0)
    ∷ case (rows_counted 4 5) (refused 13)
    ∷ case (call_nation_ledger_rows accounts (owners.nations ++ (7 ∷ [])) owners.entries 4 5) (refused 11)
    ∷ case (call_nation_ledger_rows (second_version accounts) (owners.nations ++ (7 ∷ [])) owners.entries 4 5) (refused 2)
    ∷ []

-- Annexed twice: from 1444 to 1445, from 1444 again to 1446, and no more.
abbrev annexed_twice : LentChronicle
annexed_twice = lent_chronicle (nation "NOR" "LA1" "ST1" 0 2) (rows (went 14450101 ∷ went 14460101 ∷ []))

abbrev twice_points : List (List ℕ)
twice_points =
    given "NOR" 1444 1
    ∷ given "NOR" 1445 2
    ∷ given "NOR" 1444 1
    ∷ given "NOR" 1445 2
    ∷ given "NOR" 1446 0
    ∷ []

-- Without entries: from 1444 to 1450.
abbrev quiet_points : List (List ℕ)
quiet_points =
    given "SCO" 1445 0
    ∷ given "SCO" 1446 0
    ∷ given "SCO" 1447 0
    ∷ given "SCO" 1448 0
    ∷ given "SCO" 1449 0
    ∷ given "SCO" 1450 7
    ∷ []

unfoldable pub span_cases : List (Case (Outcome ℕ (List ℕ)))
span_cases =
    case (call_nation_ledger accounts annexed_twice.nations annexed_twice.entries 0 (sevens 15)) (wrote 5 twice_points 0)
    ∷ case (call_nation_ledger accounts (nation "SCO" "LA1" "ST1" 0 0) [] 0 (sevens 18)) (wrote 6 quiet_points 0)
    ∷ []

-- Appeared, then Annexed; no ledger row; Annexed, then Appeared.
abbrev three : LentChronicle
three =
    lent_chronicle (rows (nation "NOR" "LA1" "ST1" 0 2 ∷ nation "XXX" "LA3" "ST3" 2 0 ∷ nation "NOR" "LA2" "ST2" 2 2 ∷ []))
    (rows (came 14450101 ∷ went 14460101 ∷ went 14450101 ∷ came 14470101 ∷ []))

-- Lent slices of so many cells: rows, counts.
abbrev lent : ℕ → ℕ → LedgerCells
lent rs counts = record { rows = sevens rs; counts = sevens counts }

abbrev kept_ledgers : ℕ → ℕ → ℕ → Outcome ℕ LedgerCells
kept_ledgers number rs counts = record { answer = refused number; memory = lent rs counts }

abbrev ledgers : ℕ → ℕ → Outcome ℕ LedgerCells
ledgers rs counts = call_nation_ledgers accounts three.nations three.entries (lent rs counts)

-- What is written, and so many cells behind either.
abbrev three_ledgers : ℕ → ℕ → Outcome ℕ LedgerCells
three_ledgers beyond beside =
    record {
      answer = gives 8;
      memory =
          record {
            rows = rows gone_points ++ rows back_points ++ sevens beyond;
            counts = 2 ∷ 0 ∷ 6 ∷ sevens beside;
          };
    }

-- Just enough room; cells to spare; a cell too few in either slice; no nations; a word over in the rows; and a record of version 2 as well.
unfoldable pub ledgers_cases : List (Case (Outcome ℕ LedgerCells))
ledgers_cases =
    case (ledgers 24 3) (three_ledgers 0 0)
    ∷ case (ledgers 25 5) (three_ledgers 1 2)
    ∷ case (ledgers 23 3) (kept_ledgers 10 23 3)
    ∷ case (ledgers 24 2) (kept_ledgers 10 24 2)
    ∷ case (call_nation_ledgers accounts [] [] (lent 1 1)) (record { answer = gives 0; memory = lent 1 1 })
    ∷ case (call_nation_ledgers accounts (three.nations ++ (7 ∷ [])) three.entries (lent 1 1)) (kept_ledgers 11 1 1)
    ∷ case (call_nation_ledgers (second_version accounts) (three.nations ++ (7 ∷ [])) three.entries (lent 1 1)) (kept_ledgers 2 1 1)
    ∷ []
