-- Rules 5: many questions in one call, each answered as a plain resolve by itself. (The Rust asks one
-- question.) A question is a row of two words, and so is its answer.
use Rattle.std.specs.Prelude.{Bool, cond, ◌&&◌, List, [], ◌∷◌, map, ℕ, length, get_or}
use Rattle.std.proofs.Math.Option.{Option, none, some}
use Rattle.lists.specs.Lists.{all_of, join_of, is_whole, whole_rows}
use Rattle.format.specs.Tags.{is_tag}
use Rattle.format.specs.Dates.{good_date}
use Rattle.format.specs.RecordNumber.{first_of}
use Rattle.rules.specs.Chronicle.{Nation}
use Rattle.rules.specs.Lent.{written, fits, room_number, Outcome, outcome}
use Rattle.rules.specs.NationRows.{nations_in}
use Rattle.format.specs.declared.values.TagData.{TagData}
use Rattle.format.specs.declared.values.Question.{Question}
use Rattle.rules.specs.Resolver.{resolve}
use Rattle.rules.specs.CallNumbers.{chronicle_number}

-- The width of a question row. (Rules 5.9)
abbrev pub question_width : ℕ
question_width = 2

-- Two words, read as a question. (Rules 5.9)
abbrev pub question_of : List ℕ → Question
question_of ws = record { tag = record { 0 = get_or ws 0 0 }; date = record { 0 = get_or ws 1 0 } }

-- The questions that words make. (Rules 5.9)
unfoldable pub questions_in : List ℕ → List Question
questions_in qs = map question_of (whole_rows question_width qs)

-- A question's tag and date are good. (Rules 5.9)
abbrev pub question_shaped : Question → Bool
question_shaped q = is_tag q.tag && good_date q.date

-- 12: the words are not whole rows, or some question is bad. (Rules 5.9)
abbrev pub questions_number : List ℕ → ℕ
questions_number qs = cond (is_whole question_width qs && all_of question_shaped (questions_in qs)) 0 12

-- The width of an answer row. (Rules 5.9)
abbrev pub answer_width : ℕ
answer_width = 2

-- An answer's words: current and stored tag, 0 and 0 for none. (Rules 5.9)
abbrev pub answer_words : Option TagData → List ℕ
answer_words none = 0 ∷ 0 ∷ []
answer_words (some d) = d.current.0 ∷ d.stored.0 ∷ []

-- A row for each question, in order. (Rules 5.9)
unfoldable pub answer_rows : List Nation → List Question → List ℕ
answer_rows ns qs = join_of (λ q. answer_words (resolve ns q.tag q.date)) qs

-- `resolve_each`: how many questions were answered, and their rows. Refused by 11, 12, or 10. (Rules 5.9)
unfoldable pub call_resolve_each : List ℕ → List ℕ → List ℕ → List ℕ → Outcome ℕ (List ℕ)
call_resolve_each ws es qs before =
    let rows = answer_rows (nations_in ws es) (questions_in qs) in
    outcome (first_of (chronicle_number ws es ∷ questions_number qs ∷ room_number (fits rows before) ∷ []))
    (length (questions_in qs)) (written rows before) before
