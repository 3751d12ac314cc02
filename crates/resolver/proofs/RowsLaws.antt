-- Rows of the answer from pass to pass: before the first block, after each, and in the end.
use mathlib.Core.Path.{◌≡◌, refl, sym, ap, ◌∙◌}
use mathlib.Core.Bool.{true}
use mathlib.Core.List.{List, [], ◌∷◌, ◌++◌, map}
use mathlib.Core.Option
use mathlib.Core.Option.{Option, none, some}
use Prim.Native.Nat.{ℕ, zero, suc, ◌+◌, ◌*◌, ◌<◌, ◌≤◌}
use native.Mathlib.Nat.{mod-eq_of_lt}
use native.Mathlib.Numerals.{add-one}
use native.Mathlib.Omega.{arith}
use lib.Dec.{leb}
use lib.ListN.{length, drop, get_or, get_or-append, length-append, length-drop}
use lib.Seq.{drop_at}
use Rattle.lists.specs.Lists.{All, all_of, join_of, numbers_from, keep}
use Rattle.lists.proofs.BoolLaws.{and_left, and_right}
use Rattle.lists.proofs.ListLaws.{all_map, all_keep, join-map, join-same, length-join, rows_join, row-at, length-numbers, numbers-at}
use Rattle.sorting.specs.Sort.{sort_by}
use Rattle.format.specs.declared.tag.CountryTag.{CountryTag}
use Rattle.format.specs.declared.date.Eu4Date.{Eu4Date}
use Rattle.format.specs.Tags.{is_tag}
use Rattle.format.specs.Dates.{good_date}
use Rattle.format.proofs.BoundLaws.{date-small}
use Rattle.rules.specs.NationRows.{nation_rows_in, nations_in, well_shaped}
use Rattle.rules.specs.Resolver.{plain_data, resolved_nation, resolve}
use Rattle.format.specs.declared.values.Question.{Question}
use Rattle.rules.specs.Questions.{questions_in, question_shaped, answer_words, answer_rows, answer_width}
use Rattle.rows.proofs.NumberedLaws.{numbers-range, dropped-numbers}
use Rattle.resolver.specs.declared.claims.Claim.{Claim}
use Rattle.resolver.specs.Claims.{claims_in, best_of, is_asked, claim_day, plain_of}
use Rattle.resolver.proofs.ResolvedLaws.{claim_nation, map-twice, claim-resolved}
use Rattle.resolver.specs.Layout.{claim_dates, claim_numbers, row_owners}
use Rattle.resolver.specs.Asked.{question_at}
use Rattle.resolver.specs.Keys.{keys_from, last_asked}
use Rattle.resolver.specs.Passes.{claim_words, updated, finished, rows_with, block_row, best_row, finished_row, claim_row}
use Rattle.resolver.proofs.KeyLaws.{GoodClaim}
use Rattle.resolver.proofs.AskedLaws.{questions-next}
use Rattle.resolver.proofs.AnsweredLaws.{block_words, greatest-has, Has}
use Rattle.resolver.proofs.BestLaws.{block-best}
use Rattle.resolver.proofs.GoodLaws.{SoundClaim, claims-sound}

-- ## Rows of answers

length-all : (row : ℕ → List ℕ) (n : ℕ) → ((i : ℕ) → length (row i) ≡ answer_width) → length (join_of row (numbers_from 0 n)) ≡ answer_width * n
length-all row n w = length-join answer_width row w (numbers_from 0 n) ∙ ap (λ (m : ℕ). answer_width * m) (length-numbers 0 n)

pub length-with : (row : ℕ → List ℕ) (n : ℕ) (before : List ℕ) → ((i : ℕ) → length (row i) ≡ answer_width) → answer_width * n ≤ length before → length (rows_with row n before) ≡ length before
length-with row n before w h =
    length-append (join_of row (numbers_from 0 n)) (drop (answer_width * n) before) ∙ omega (arith, length-all row n w, length-drop (answer_width * n) before)

-- Rows over rows.
rows-again : (row old : ℕ → List ℕ) (n : ℕ) (before : List ℕ) → ((i : ℕ) → length (old i) ≡ answer_width) → rows_with row n (rows_with old n before) ≡ rows_with row n before
rows-again row old n before w =
    ap (λ (l : List ℕ). join_of row (numbers_from 0 n) ++ l) (drop_at (join_of old (numbers_from 0 n)) (drop (answer_width * n) before) (answer_width * n) (length-all old n w))

-- Word k of row i.
row_word : (row : ℕ → List ℕ) (n : ℕ) (before : List ℕ) → ((i : ℕ) → length (row i) ≡ answer_width) → (i k : ℕ) → i < n → k < answer_width → get_or (rows_with row n before) (answer_width * i + k) 0 ≡ get_or (row i) k 0
row_word row n before w i k h l =
    let is : List ℕ = numbers_from 0 n in
    let e : 0 + i ≡ i = omega arith in
    get_or-append (join_of row is) (drop (answer_width * n) before) 0 (answer_width * i + k) (omega (arith, length-all row n w))
    ∙ (sym (row-at answer_width (length is) (join_of row is) i k 0 (omega (arith, length-numbers 0 n)) l)
    ∙ ap (λ (r : List ℕ). get_or r k 0) (ap (λ (rs : List (List ℕ)). get_or rs i []) (rows_join answer_width row w is) ∙ numbers-at row [] 0 n i h ∙ ap row e))

row_first : (row : ℕ → List ℕ) (n : ℕ) (before : List ℕ) → ((i : ℕ) → length (row i) ≡ answer_width) → (i : ℕ) → i < n → get_or (rows_with row n before) (answer_width * i) 0 ≡ get_or (row i) 0 0
row_first row n before w i h = let e : answer_width * i + 0 ≡ answer_width * i = omega arith in rw e at (row_word row n before w i 0 h (omega arith))

-- The same rows by another definition.
rows_same : (f g : ℕ → List ℕ) (n : ℕ) (before : List ℕ) → ((i : ℕ) → i < n → f i ≡ g i) → rows_with f n before ≡ rows_with g n before
rows_same f g n before h =
    ap (λ (l : List ℕ). l ++ drop (answer_width * n) before) (join-same f g (numbers_from 0 n) (all_map (λ i r. h i (omega (arith, r.1))) (numbers_from 0 n) (numbers-range 0 n)))

pub best-wide : (qs : List ℕ) (cs : List Claim) (i : ℕ) → length (best_row qs cs i) ≡ answer_width
best-wide qs cs i = go (best_of (question_at qs i).tag (question_at qs i).date cs)
  where
    go : (o : Option Claim) → length (claim_words o) ≡ answer_width
    go none = refl
    go (some c) = refl

-- The words of a best claim so far, held against a block behind it.
pub block-updated : (tag : CountryTag) (date : Eu4Date) → is_tag tag ≡ true → date.0 < claim_dates → (xs ys : List Claim) → All GoodClaim ys → length ys ≤ claim_numbers
    → updated (map (λ c. c.nation) ys) (last_asked tag date (sort_by leb (keys_from 0 ys))) (get_or (claim_words (best_of tag date xs)) 0 0) (get_or (claim_words (best_of tag date xs)) 1 0)
    ≡ claim_words (best_of tag date (xs ++ ys))
block-updated tag date t d xs ys g few =
    block-best (map (λ c. c.nation) ys) tag date xs ys (last_asked tag date (sort_by leb (keys_from 0 ys))) (block_words tag date t d ys g few)

-- ## Questions

module _ (qs : List ℕ) (good : all_of question_shaped (questions_in qs) ≡ true) where
  question-good : (i : ℕ) → i < length (questions_in qs) → question_shaped (question_at qs i) ≡ true
  unfolding question_at
  question-good i h = at_all (questions_in qs) i _ good h
    where
      at_all : (xs : List Question) (i : ℕ) (d : Question) → all_of question_shaped xs ≡ true → i < length xs → question_shaped (get_or xs i d) ≡ true
      at_all [] i d p l = absurd (omega arith)
      at_all (x ∷ xs) zero d p l = and_left (question_shaped x) _ p
      at_all (x ∷ xs) (suc i) d p l = at_all xs i d (and_right (question_shaped x) _ p) (omega arith)

  -- ## Blocks

  -- Rows with the best of the claims passed, held against a block behind them.
  pub block-rows : (xs ys : List Claim) (before : List ℕ) → All GoodClaim ys → length ys ≤ claim_numbers
      → (keys owners : List ℕ) → keys ≡ sort_by leb (keys_from 0 ys) → owners ≡ map (λ c. c.nation) ys
      → (n : ℕ) → n ≡ length (questions_in qs) → (out new : List ℕ) → out ≡ rows_with (best_row qs xs) n before → new ≡ rows_with (block_row qs keys owners out) n out
      → new ≡ rows_with (best_row qs (xs ++ ys)) n before
  block-rows xs ys before g few keys owners k o n m out new e w =
      w
      ∙ (rows_same (block_row qs keys owners out) (best_row qs (xs ++ ys)) n out step
      ∙ (ap (rows_with (best_row qs (xs ++ ys)) n) e ∙ rows-again (best_row qs (xs ++ ys)) (best_row qs xs) n before (best-wide qs xs)))
    where
      step : (i : ℕ) → i < n → block_row qs keys owners out i ≡ best_row qs (xs ++ ys) i
      step i h =
          let q = question_at qs i in
          let s = question-good i (omega arith) in
          let first : get_or out (answer_width * i) 0 ≡ get_or (best_row qs xs i) 0 0 = rw e (row_first (best_row qs xs) n before (best-wide qs xs) i h) in
          let second : get_or out (answer_width * i + 1) 0 ≡ get_or (best_row qs xs i) 1 0 = rw e (row_word (best_row qs xs) n before (best-wide qs xs) i 1 h (omega arith)) in
          rw (first, second, k, o)
          (block-updated q.tag q.date (and_left (is_tag q.tag) (good_date q.date) s) (date-small q.date (and_right (is_tag q.tag) (good_date q.date) s)) xs ys g few)

-- ## In the end

module _ (ws es : List ℕ) (shaped : well_shaped ws es ≡ true) where
  pub final-rows : length (nation_rows_in ws) < row_owners → (qs : List ℕ) (n : ℕ) (before out new : List ℕ) → out ≡ rows_with (best_row qs (claims_in ws es)) n before
      → new ≡ rows_with (finished_row ws out) n out → new ≡ rows_with (claim_row ws es qs) n before
  final-rows few qs n before out new e w =
      w
      ∙ (rows_same (finished_row ws out) (claim_row ws es qs) n out step
      ∙ (ap (rows_with (claim_row ws es qs) n) e ∙ rows-again (claim_row ws es qs) (best_row qs (claims_in ws es)) n before (best-wide qs (claims_in ws es))))
    where
      turn : (o : Option Claim) → Has claim_day claim_day (SoundClaim (length (nation_rows_in ws))) o → finished ws (get_or (claim_words o) 1 0) ≡ answer_words (Option.map (plain_of ws) o)
      turn none h = refl
      turn (some c) h = let small : c.nation < row_owners = let t = h.there in omega arith in rw (mod-eq_of_lt small, add-one c.nation)

      step : (i : ℕ) → i < n → finished_row ws out i ≡ claim_row ws es qs i
      step i h =
          let q = question_at qs i in
          let all = claims_in ws es in
          let second : get_or out (answer_width * i + 1) 0 ≡ get_or (best_row qs all i) 1 0 = rw e (row_word (best_row qs all) n before (best-wide qs all) i 1 h (omega arith)) in
          rw second
          (turn (best_of q.tag q.date all)
          (greatest-has claim_day claim_day (SoundClaim (length (nation_rows_in ws))) (keep (is_asked q.tag q.date) all) (all_keep (SoundClaim (length (nation_rows_in ws))) (is_asked q.tag q.date) all (claims-sound ws es shaped))))

  -- The rows by the best claims are those of the rules.
  pub answer-rows : (qs : List ℕ) → join_of (claim_row ws es qs) (numbers_from 0 (length (questions_in qs))) ≡ answer_rows (nations_in ws es) (questions_in qs)
  unfolding answer_rows resolve
  answer-rows qs =
      let n = length (questions_in qs) in
      join-same (claim_row ws es qs) (λ i. answer_words (Option.map plain_data (resolved_nation (nations_in ws es) (question_at qs i).tag (question_at qs i).date))) (numbers_from 0 n)
      (all-every (numbers_from 0 n) (λ i. one i))
      ∙ sym (ap (join_of (λ q. answer_words (Option.map plain_data (resolved_nation (nations_in ws es) q.tag q.date)))) (dropped-numbers (questions_in qs) (question_at qs) (questions-next qs) n 0 (omega arith))
      ∙ join-map _ (question_at qs) (numbers_from 0 n))
    where
      one : (i : ℕ) → claim_row ws es qs i ≡ answer_words (Option.map plain_data (resolved_nation (nations_in ws es) (question_at qs i).tag (question_at qs i).date))
      one i =
          let q = question_at qs i in
          ap answer_words (sym (map-twice (claim_nation ws es) plain_data (best_of q.tag q.date (claims_in ws es))) ∙ ap (Option.map plain_data) (claim-resolved ws es q.tag q.date shaped))

      all-every : {P : ℕ → Type 0} (is : List ℕ) → ((i : ℕ) → P i) → All P is
      all-every [] f = tt
      all-every (i ∷ is) f = (f i, all-every is f)
