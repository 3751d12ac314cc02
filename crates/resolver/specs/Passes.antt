-- What the rows of the answer hold between blocks: the date and the nation number plus 1 of each question's best claim so far.
use Rattle.std.specs.Prelude.{◌≡◌, true, cond, ◌||◌, List, [], ◌∷◌, ◌++◌, ℕ, zero, suc, ◌+◌, ◌*◌, ◌/◌, ◌%◌, ◌≤◌, leb, eqb, length, take, drop, get_or}
use Rattle.std.proofs.Math.Option.{Option, none, some, map}
use Rattle.lists.specs.Lists.{all_of, join_of, numbers_from}
use Rattle.rules.specs.NationRows.{well_shaped}
use Rattle.format.specs.declared.values.Question.{Question}
use Rattle.rules.specs.Questions.{questions_in, question_shaped, answer_width, answer_words}
use Rattle.rows.specs.declared.chronicle.Chronicle.{Chronicle}
use Rattle.resolver.specs.declared.claims.Claim.{Claim}
use Rattle.resolver.specs.Claims.{claims_in, best_of, plain_of, plain_at}
use Rattle.resolver.specs.Asked.{question_at}
use Rattle.resolver.specs.Layout.{row_owners}
use Rattle.resolver.specs.Keys.{last_asked, key_day, key_number}

-- A claim's words: its date, and its nation's number plus 1. A number that takes more than 32 bits would come out another one.
abbrev pub claim_words : Option Claim → List ℕ
claim_words none = 0 ∷ 0 ∷ []
claim_words (some c) = c.date.0 ∷ (c.nation % row_owners + 1) ∷ []

-- The same words, of a key that was looked up and the nation numbers of its block.
abbrev pub key_words : List ℕ → Option ℕ → List ℕ
key_words owners none = 0 ∷ 0 ∷ []
key_words owners (some k) = key_day k ∷ (get_or owners (key_number k) 0 % row_owners + 1) ∷ []

-- The words of a question's best claim among those passed.
abbrev pub best_words : List Claim → Question → List ℕ
best_words cs q = claim_words (best_of q.tag q.date cs)

-- A row written at its place.
abbrev pub row_set : List ℕ → ℕ → List ℕ → List ℕ
row_set out i row = take (answer_width * i) out ++ (row ++ drop (answer_width * (i + 1)) out)

-- A row after a block: the block's claim, if there is one and the row holds none or one that is not later.
abbrev pub updated : List ℕ → Option ℕ → ℕ → ℕ → List ℕ
updated owners none best owner = best ∷ owner ∷ []
updated owners (some k) best owner = cond (eqb owner 0 || leb best (key_day k)) (key_words owners (some k)) (best ∷ owner ∷ [])

-- The number of the nation that a row holds, plus 1; none by 0.
abbrev pub row_owner : ℕ → Option ℕ
row_owner zero = none
row_owner (suc m) = some m

-- A row in the end: latest and stored tag of that nation.
abbrev pub finished : List ℕ → ℕ → List ℕ
finished ws owner = answer_words (map (plain_at ws) (row_owner owner))

-- So many rows, each by its number, and behind them what stood there.
abbrev pub rows_with : (ℕ → List ℕ) → ℕ → List ℕ → List ℕ
rows_with row n before = join_of row (numbers_from 0 n) ++ drop (answer_width * n) before

-- As many as there is room for.
abbrev pub rows_in_room : (ℕ → List ℕ) → List ℕ → List ℕ
rows_in_room row before = rows_with row (length before / answer_width) before

-- ## The rows of each pass, by the number of a question

-- After a block of sorted keys, from the rows before it.
abbrev pub block_row : List ℕ → List ℕ → List ℕ → List ℕ → ℕ → List ℕ
block_row qs keys owners before i =
    updated owners (last_asked (question_at qs i).tag (question_at qs i).date keys) (get_or before (answer_width * i) 0) (get_or before (answer_width * i + 1) 0)

-- With the best of the claims passed.
abbrev pub best_row : List ℕ → List Claim → ℕ → List ℕ
best_row qs cs i = best_words cs (question_at qs i)

-- In the end, from the rows before.
abbrev pub finished_row : List ℕ → List ℕ → ℕ → List ℕ
finished_row ws before i = finished ws (get_or before (answer_width * i + 1) 0)

-- The answer by the best of all claims.
abbrev pub claim_row : List ℕ → List ℕ → List ℕ → ℕ → List ℕ
claim_row ws es qs i = answer_words (map (plain_of ws) (best_of (question_at qs i).tag (question_at qs i).date (claims_in ws es)))

-- Of all claims of a chronicle.
abbrev pub asked_row : Chronicle → List ℕ → ℕ → List ℕ
asked_row chronicle = claim_row chronicle.nations.now chronicle.entries.now

-- A row for each question.
abbrev pub asked_rows : Chronicle → List ℕ → List ℕ → List ℕ
asked_rows chronicle qs before = rows_with (asked_row chronicle qs) (length (questions_in qs)) before

-- What the passes start from: a well-shaped chronicle, good questions, and room for their rows.
pub record QuestionsReady (ws es qs out : List ℕ) : Type 0 where
  pub shaped : well_shaped ws es ≡ true
  pub good : all_of question_shaped (questions_in qs) ≡ true
  pub room : answer_width * length (questions_in qs) ≤ length out
