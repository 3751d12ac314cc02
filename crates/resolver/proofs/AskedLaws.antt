-- A question by its number, from its words.
use mathlib.Core.Path.{◌≡◌, refl, sym, ◌∙◌}
use mathlib.Core.Bool.{Bool, true, false, ◌&&◌}
use mathlib.Core.List.{List, [], ◌∷◌}
use Prim.Native.Nat.{ℕ, ◌+◌, ◌/◌, ◌%◌, ◌<◌}
use lib.Dec.{eqb}
use lib.ListN.{length, get_or, drop}
use Rattle.std.specs.Simd.{first_chunks}
use Rattle.lists.specs.Lists.{all_of, is_whole, whole_rows}
use Rattle.rules.specs.Questions.{question_width, question_of, questions_in, question_shaped}
use Rattle.rows.proofs.RowAtLaws.{chunks-rows, rows-count, rows_next, array-here}
use Rattle.rows.proofs.LentShapeLaws.{rows-pass}
use Rattle.resolver.specs.Asked.{question_at}

module _ (qs : List ℕ) where
  pub questions_count : length qs / question_width ≡ length (questions_in qs)
  unfolding questions_in
  questions_count = rows-count question_width question_of qs

  pub questions-next : (i : ℕ) → i < length (questions_in qs) → drop i (questions_in qs) ≡ question_at qs i ∷ drop (i + 1) (questions_in qs)
  unfolding question_at questions_in
  questions-next i h = rows_next question_width question_of qs i h

  -- Question number i is made of its own words.
  pub question_here : (i : ℕ) → question_of (get_or (first_chunks question_width (length qs / question_width) qs) i (0 ∷ 0 ∷ [])) ≡ question_at qs i
  unfolding question_at questions_in
  question_here i = array-here question_width question_of qs i _ refl

  -- The words divided into arrays, of which each was tested.
  module _ (rows : List (List ℕ)) (p : rows ≡ first_chunks question_width (length qs / question_width) qs) (over : List ℕ) (x : length over ≡ length qs % question_width) where
    pub questions-torn : eqb (length over) 0 ≡ false → false ≡ (is_whole question_width qs && all_of question_shaped (questions_in qs))
    questions-torn h = rw (← x, h) refl

    pub questions-whole : (b : Bool) → eqb (length over) 0 ≡ true
        → (b ≡ true → (k : ℕ) → k < length rows → question_shaped (question_of (get_or rows k [])) ≡ true)
        → (((k : ℕ) → k < length rows → question_shaped (question_of (get_or rows k [])) ≡ true) → b ≡ true)
        → b ≡ (is_whole question_width qs && all_of question_shaped (questions_in qs))
    unfolding questions_in
    questions-whole b h to back =
        let e : whole_rows question_width qs ≡ rows = sym (p ∙ chunks-rows question_width (length qs / question_width) qs) in
        rw (← x, h, e) (rows-pass question_shaped question_of rows b to back)
