-- Computed cases of many questions in one call (CaseForms says what these pages are).
use Rattle.std.specs.Prelude.{List, [], ◌∷◌, ◌++◌, ℕ}
use Prim.Native.String.{String}
use Rattle.rules.specs.Lent.{Outcome}
use Rattle.rules.specs.Questions.{call_resolve_each}
use Rattle.rules.specs.cases.Packing.{word}
use Rattle.rules.specs.Table.{sevens}
use Rattle.rules.specs.cases.CaseForms.{Case, case, rows, wrote, unwritten}
use Rattle.rules.specs.cases.LentCases.{mixed}

-- A question: a tag and a date. An answer: current and stored.
abbrev question : String → ℕ → List ℕ
question tag date = word tag ∷ date ∷ []

abbrev answer : String → String → List ℕ
answer current stored = word current ∷ word stored ∷ []

-- They are asked of the chronicle of the resolver's cases.
abbrev each : List ℕ → ℕ → Outcome ℕ (List ℕ)
each qs cells = call_resolve_each mixed.nations mixed.entries qs (sevens cells)

-- One tag on three days, the first of which has no answer, and another.
abbrev four : List ℕ
four =
    rows
    (question "GBR" 14441231
    ∷ question "GBR" 14500101
    ∷ question "SCO" 14451231
    ∷ question "GBR" 14490101
    ∷ [])

abbrev four_answers : List (List ℕ)
four_answers = (0 ∷ 0 ∷ []) ∷ answer "LA0" "ST0" ∷ answer "LA2" "ST2" ∷ answer "LA2" "ST2" ∷ []

-- A question is bad by its tag, or by its date.
abbrev bad_tag : List ℕ
bad_tag = question "G_R" 14490101

abbrev bad_date : List ℕ
bad_date = question "GBR" 14490229

-- Just enough room, and a cell to spare; a cell too few; none asked. Bad questions before, between and behind others, and a word over, all
-- before the room. Rows with a word over before that.
unfoldable pub question_cases : List (Case (Outcome ℕ (List ℕ)))
question_cases =
    case (each four 8) (wrote 4 four_answers 0)
    ∷ case (each four 9) (wrote 4 four_answers 1)
    ∷ case (each four 7) (unwritten 10 7)
    ∷ case (each [] 1) (wrote 0 [] 1)
    ∷ case (each (bad_tag ++ four) 1) (unwritten 12 1)
    ∷ case (each (four ++ bad_date ++ four) 1) (unwritten 12 1)
    ∷ case (each (four ++ bad_tag) 1) (unwritten 12 1)
    ∷ case (each (four ++ (word "GBR" ∷ [])) 1) (unwritten 12 1)
    ∷ case (call_resolve_each (mixed.nations ++ (7 ∷ [])) mixed.entries bad_date (sevens 1)) (unwritten 11 1)
    ∷ []
