-- The outcomes of `resolve_each`, by case: 11, 12, 10, or the rows.
use mathlib.Core.Path.{◌≡◌, refl, sym, ap, ap₂, ◌∙◌}
use mathlib.Core.Bool.{Bool, true, false, cond, not, ◌&&◌}
use mathlib.Core.List.{List, [], ◌∷◌, ◌++◌}
use mathlib.Core.Option.{Option, none, some}
use Prim.Native.Nat.{ℕ, ◌*◌, ◌/◌, ◌≤◌, ◌<◌}
use native.Mathlib.Omega.{arith}
use borrow.Author.Tests.{le-leb, lt-leb, not-true, not-false}
use lib.ListN.{length, drop}
use Rattle.lists.specs.Lists.{all_of, is_whole}
use Rattle.lists.proofs.BoolLaws.{and_right}
use Rattle.lists.proofs.ListLaws.{length-join}
use Rattle.format.specs.RecordNumber.{first_of}
use Rattle.format.proofs.FirstLaws.{first-stop, first-pass, first_one}
use Rattle.rules.specs.Lent.{refused, gives, written, fits, room_number}
use Rattle.rules.specs.NationRows.{nations_in, well_shaped}
use Rattle.format.specs.declared.values.TagData.{TagData}
use Rattle.rules.specs.Resolver.{resolve}
use Rattle.rules.specs.CallNumbers.{chronicle_number}
use Rattle.rules.specs.Questions.{question_width, questions_in, question_shaped, questions_number, answer_words, answer_rows, call_resolve_each, answer_width}
use Rattle.rules.proofs.LentLaws.{answered-given, outcome-refused, outcome-gives}
use Rattle.resolver.specs.Passes.{rows_with, claim_row}
use Rattle.resolver.proofs.AskedLaws.{questions_count}
use Rattle.resolver.proofs.RowsLaws.{answer-rows}

length-answers : (ws es qs : List ℕ) → length (answer_rows (nations_in ws es) (questions_in qs)) ≡ answer_width * length (questions_in qs)
unfolding answer_rows
length-answers ws es qs = length-join answer_width (λ q. answer_words (resolve (nations_in ws es) q.tag q.date)) (λ q. wide (resolve (nations_in ws es) q.tag q.date)) (questions_in qs)
  where
    wide : (o : Option TagData) → length (answer_words o) ≡ answer_width
    wide none = refl
    wide (some d) = refl

module _ (ws es qs before : List ℕ) where
  rows : List ℕ
  rows = answer_rows (nations_in ws es) (questions_in qs)

  number : ℕ
  unfolding rows
  number = first_of (chronicle_number ws es ∷ questions_number qs ∷ room_number (fits rows before) ∷ [])

  -- What `open` refused.
  pub each-torn : (n : ℕ) → 0 < n → n ≡ cond (well_shaped ws es) 0 11 → record { answer = refused n; memory = before } ≡ call_resolve_each ws es qs before
  unfolding call_resolve_each number rows
  each-torn n more e =
      let first : number ≡ n =
      ap (λ (m : ℕ). first_of (m ∷ questions_number qs ∷ room_number (fits rows before) ∷ [])) (sym e) ∙ first-stop n _ (λ z. omega arith) in
      sym (rw first (outcome-refused n (length (questions_in qs)) (written rows before) before more))

  -- The chronicle is well shaped.
  module _ (shaped : well_shaped ws es ≡ true) where
    -- The code has tested the questions, g.
    module _ (g : Bool) (f : g ≡ (is_whole question_width qs && all_of question_shaped (questions_in qs))) where
      behind : number ≡ first_of (questions_number qs ∷ room_number (fits rows before) ∷ [])
      unfolding number rows
      behind = first-pass (chronicle_number ws es) _ (ap (λ (b : Bool). cond b 0 11) shaped)

      pub each-bad : not g ≡ true → record { answer = refused 12; memory = before } ≡ call_resolve_each ws es qs before
      unfolding call_resolve_each number rows
      each-bad h =
          let t = sym f ∙ not-true g h in
          let first : number ≡ 12 = behind ∙ (ap (λ (n : ℕ). first_of (n ∷ room_number (fits rows before) ∷ [])) (ap (λ (b : Bool). cond b 0 12) t) ∙ first-stop 12 _ (λ z. omega arith)) in
          sym (rw first (outcome-refused 12 (length (questions_in qs)) (written rows before) before (omega arith)))

      module _ (ok : not g ≡ false) (n : ℕ) (m : n ≡ length (questions_in qs)) where
        pub each-good : all_of question_shaped (questions_in qs) ≡ true
        each-good = and_right (is_whole question_width qs) _ (sym f ∙ not-false g ok)

        last-number : number ≡ room_number (fits rows before)
        unfolding number rows
        last-number =
            behind
            ∙ (first-pass (questions_number qs) _ (ap (λ (b : Bool). cond b 0 12) (sym f ∙ not-false g ok)) ∙ first_one (room_number (fits rows before)))

        pub each-short : length before / answer_width < n → record { answer = refused 10; memory = before } ≡ call_resolve_each ws es qs before
        unfolding call_resolve_each number rows
        each-short h =
            let short : fits rows before ≡ false = lt-leb (length rows) (length before) (omega (arith, length-answers ws es qs)) in
            let first : number ≡ 10 = last-number ∙ ap room_number short in
            sym (rw first (outcome-refused 10 (length (questions_in qs)) (written rows before) before (omega arith)))

        pub each-room : n ≤ length before / answer_width → answer_width * length (questions_in qs) ≤ length before
        each-room h = omega arith

        pub each_rows : n ≤ length before / answer_width → (after : List ℕ) → after ≡ rows_with (claim_row ws es qs) (length (questions_in qs)) before
            → record { answer = gives n; memory = after } ≡ call_resolve_each ws es qs before
        unfolding call_resolve_each number rows
        each_rows h after w =
            let room : fits rows before ≡ true = le-leb (length rows) (length before) (omega (arith, length-answers ws es qs)) in
            let first : number ≡ 0 = last-number ∙ ap room_number room in
            let all : after ≡ written rows before =
            w ∙ ap₂ ◌++◌ (answer-rows ws es shaped qs) (ap (λ (k : ℕ). drop k before) (sym (length-answers ws es qs))) in
            sym (rw (m, all) (outcome-gives number (length (questions_in qs)) (written rows before) before first))

-- How many rows are given: as many as the questions' words make whole rows.
pub each-few : (ws es qs before : List ℕ) (n : ℕ) → gives n ≡ (call_resolve_each ws es qs before).answer → n ≡ length qs / question_width
unfolding call_resolve_each number rows
each-few ws es qs before n e = (answered-given (number ws es qs before) (length (questions_in qs)) n e).1 ∙ sym (questions_count qs)
