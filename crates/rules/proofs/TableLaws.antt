-- The starred cases of the edges, and the worked page, hold of the definitions.
use mathlib.Core.Path.{◌≡◌, refl}
use mathlib.Core.List.{[], ◌∷◌, ◌++◌}
use Rattle.rules.specs.Lent.{gives}
use Rattle.rules.specs.Outcomes.{call_nation_ledger}
use Rattle.rules.specs.Table.{Starred, computed, expected, expected_ledger, sevens, written_nations, written_entries}
use Rattle.rules.specs.cases.CaseForms.{nation, turned, came, went, rows}
use Rattle.rules.specs.cases.Worked.{worked_ledger}
use Rattle.rules.proofs.Computes.{computes}

-- Two tables with the same in every field are the same. Fields are compared one by one in this way, in a third of the time.
same-fields : (a b : Starred)
    → a.bytes ≡ b.bytes
    → a.whole ≡ b.whole
    → a.cut ≡ b.cut
    → a.last_of_february ≡ b.last_of_february
    → a.leap_day ≡ b.leap_day
    → a.entries ≡ b.entries
    → a.before_switch ≡ b.before_switch
    → a.on_switch ≡ b.on_switch
    → a.set_resolve ≡ b.set_resolve
    → a.set_initial ≡ b.set_initial
    → a.worn ≡ b.worn
    → a.worn_by_others ≡ b.worn_by_others
    → a.ledger ≡ b.ledger
    → a.same_day_whole ≡ b.same_day_whole
    → a.same_day_entries ≡ b.same_day_entries
    → a.page ≡ b.page
    → a.printed ≡ b.printed
    → a.empty_page ≡ b.empty_page
    → a ≡ b
same-fields a b e0 e1 e2 e3 e4 e5 e6 e7 e8 e9 e10 e11 e12 e13 e14 e15 e16 e17 =
    λ i. record { bytes = e0 i; whole = e1 i; cut = e2 i; last_of_february = e3 i; leap_day = e4 i; entries = e5 i; before_switch = e6 i; on_switch = e7 i; set_resolve = e8 i; set_initial = e9 i; worn = e10 i; worn_by_others = e11 i; ledger = e12 i; same_day_whole = e13 i; same_day_entries = e14 i; page = e15 i; printed = e16 i; empty_page = e17 i }

-- The rows of the ledger's case are computed first, once: its call takes them up in many places.
ledger-rows :
    (written_nations worked_ledger ≡ rows (nation "ENG" "GBR" "GBR" 0 3 ∷ nation "FRA" "FRA" "FRA" 3 0 ∷ []))
    × (written_entries worked_ledger ≡ rows (went 14460101 ∷ came 14470101 ∷ turned 14480601 "GBR" ∷ []))
unfolding computes
ledger-rows = (refl, refl)

ledger-told :
    call_nation_ledger worked_ledger (rows (nation "ENG" "GBR" "GBR" 0 3 ∷ nation "FRA" "FRA" "FRA" 3 0 ∷ []))
    (rows (went 14460101 ∷ came 14470101 ∷ turned 14480601 "GBR" ∷ [])) 0 (sevens 20)
    ≡ record { answer = gives 6; memory = expected_ledger ++ sevens 2 }
unfolding computes
ledger-told = refl

ledger : call_nation_ledger worked_ledger (written_nations worked_ledger) (written_entries worked_ledger) 0 (sevens 20)
    ≡ record { answer = gives 6; memory = expected_ledger ++ sevens 2 }
ledger = rw (ledger-rows.0, ledger-rows.1) ledger-told

pub table : computed ≡ expected
unfolding computes computed expected
table = same-fields computed expected refl refl refl refl refl refl refl refl refl refl refl refl ledger refl refl refl refl refl
