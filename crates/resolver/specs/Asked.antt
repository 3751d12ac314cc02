-- The questions of lent words by their number, from 0. Past the last one stands the question of no words.
use Rattle.std.specs.Prelude.{List, [], ℕ, get_or}
use Rattle.format.specs.declared.values.Question.{Question}
use Rattle.rules.specs.Questions.{question_of, questions_in}

-- Question number i.
unfoldable pub question_at : List ℕ → ℕ → Question
question_at qs i = get_or (questions_in qs) i (question_of [])
