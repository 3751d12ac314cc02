-- A pass over the rows: those passed hold what the pass writes, the others what stood there.
use mathlib.Core.Path.{◌≡◌, refl, sym, ap, ap₂, ◌∙◌}
use mathlib.Core.Bool.{true}
use mathlib.Core.List.{List, [], ◌∷◌, ◌++◌, append_assoc, append-nil}
use mathlib.Core.Option.{Option, map}
use Prim.Native.Nat.{ℕ, zero, suc, ◌+◌, ◌-◌, ◌*◌, ◌≤◌}
use native.Mathlib.Omega.{arith}
use borrow.Author.Tests.{le-leb}
use lib.Dec.{leb}
use lib.ListN.{length, replicate, take, drop, get_or, length-append, length-drop}
use lib.Seq.{take_at, take_all, drop_at, drop-drop, get_or-append-add, get_or-drop}
use Rattle.std.proofs.lemmas.List.{drop_all}
use Rattle.lists.specs.Lists.{join_of, numbers_from}
use Rattle.lists.proofs.ListLaws.{join-append}
use Rattle.rows.specs.RowAt.{row_put}
use Rattle.format.specs.declared.values.Question.{Question}
use Rattle.rules.specs.Questions.{answer_words, answer_width}
use Rattle.resolver.specs.declared.claims.Claim.{Claim}
use Rattle.resolver.specs.Claims.{claims_in, best_of, plain_at}
use Rattle.resolver.proofs.ResolvedLaws.{map-twice}
use Rattle.resolver.specs.Asked.{question_at}
use Rattle.resolver.specs.Keys.{last_asked}
use Rattle.resolver.specs.Passes.{row_set, updated, row_owner, rows_with, block_row, best_row, finished_row, claim_row}

numbers-behind : (a n : ℕ) → numbers_from a (n + 1) ≡ numbers_from a n ++ ((a + n) ∷ [])
numbers-behind a zero = let e : a + 0 ≡ a = omega arith in rw e
numbers-behind a (suc n) =
    let e : suc n + 1 ≡ suc (n + 1) = omega arith in
    let f : suc a + n ≡ a + suc n = omega arith in
    rw e (ap (λ (l : List ℕ). a ∷ l) (numbers-behind (suc a) n ∙ rw f))

pub join-next : (row : ℕ → List ℕ) (i : ℕ) → join_of row (numbers_from 0 (i + 1)) ≡ join_of row (numbers_from 0 i) ++ row i
join-next row i =
    let e : 0 + i ≡ i = omega arith in
    ap (join_of row) (numbers-behind 0 i)
    ∙ (join-append row (numbers_from 0 i) ((0 + i) ∷ [])
    ∙ rw e (ap (λ (l : List ℕ). join_of row (numbers_from 0 i) ++ l) (append-nil (row i))))

-- Words of zeros, as the library fills them, are rows with the best of no claims.
pub zeros-rows : (qs : List ℕ) (a n m : ℕ) → m ≡ answer_width * n → replicate m 0 ≡ join_of (best_row qs []) (numbers_from a n)
zeros-rows qs a zero m e = let z : m ≡ 0 = omega arith in rw z refl
zeros-rows qs a (suc n) m e =
    let z : m ≡ suc (suc (m - answer_width)) = omega arith in rw z (ap (λ (l : List ℕ). 0 ∷ 0 ∷ l) (zeros-rows qs (suc a) n (m - answer_width) (omega arith)))

-- A row put at the front of the cells from its place on.
pub row-put : (out words now : List ℕ) (i : ℕ) → answer_width * (i + 1) ≤ length out → now ≡ row_put answer_width words (take (length out - answer_width * i) (drop (answer_width * i) out))
    → take (answer_width * i) out ++ (now ++ drop (length out - answer_width * i) (drop (answer_width * i) out)) ≡ row_set out i words
row-put out words now i h e =
    let cells : List ℕ = drop (answer_width * i) out in
    let many : length cells ≡ length out - answer_width * i = length-drop (answer_width * i) out in
    let step : answer_width * i + answer_width ≡ answer_width * (i + 1) = omega arith in
    let all : take (length out - answer_width * i) cells ≡ cells = take_all (length out - answer_width * i) cells (omega (arith, many)) in
    let over : drop (length out - answer_width * i) cells ≡ [] = drop_all (length out - answer_width * i) cells (omega (arith, many)) in
    let room : leb answer_width (length cells) ≡ true = le-leb answer_width (length cells) (omega (arith, many)) in
    let back : drop answer_width cells ≡ drop (answer_width * (i + 1)) out = drop-drop answer_width (answer_width * i) out ∙ ap (λ (n : ℕ). drop n out) step in
    let put : now ≡ words ++ drop (answer_width * (i + 1)) out = rw all at e ∙ rw (room, back) refl in
    ap₂ (λ (l r : List ℕ). take (answer_width * i) out ++ (l ++ r)) put over ∙ ap (λ (l : List ℕ). take (answer_width * i) out ++ l) (append-nil _)

pub record Passing (row : ℕ → List ℕ) (before : List ℕ) (i : ℕ) (out : List ℕ) : Type 0 where
  pub cells : out ≡ rows_with row i before
  pub wide : length (join_of row (numbers_from 0 i)) ≡ answer_width * i
  pub long : length out ≡ length before

pub passing-start : (row : ℕ → List ℕ) (before : List ℕ) → Passing row before 0 before
passing-start row before = record { cells = refl; wide = refl; long = refl }

pub passing-done : (row : ℕ → List ℕ) (before : List ℕ) (i n : ℕ) (out : List ℕ) → Passing row before i out → i ≤ n → n ≤ i → out ≡ rows_with row n before
passing-done row before i n out p h l = let e : i ≡ n = omega arith in rw e at p.cells

module _ (row : ℕ → List ℕ) (before : List ℕ) (i : ℕ) (out : List ℕ) (p : Passing row before i out) where
  passed : List ℕ
  passed = join_of row (numbers_from 0 i)

  -- The words of the next row are those that stood there.
  word-still : (k : ℕ) → get_or out (answer_width * i + k) 0 ≡ get_or before (answer_width * i + k) 0
  unfolding passed
  word-still k =
      ap (λ (l : List ℕ). get_or l (answer_width * i + k) 0) p.cells
      ∙ (ap (λ (n : ℕ). get_or (passed ++ drop (answer_width * i) before) (n + k) 0) (sym p.wide)
      ∙ (get_or-append-add passed (drop (answer_width * i) before) k 0 ∙ get_or-drop (answer_width * i) before k 0))

  pub first-still : (at : ℕ) → at ≡ i → get_or out (answer_width * at) 0 ≡ get_or before (answer_width * i) 0
  first-still at e = rw e (let f : answer_width * i + 0 ≡ answer_width * i = omega arith in rw f at (word-still 0))

  pub second-still : (at : ℕ) → at ≡ i → get_or out (answer_width * at + 1) 0 ≡ get_or before (answer_width * i + 1) 0
  second-still at e = rw e (word-still 1)

  -- The next row is written.
  pub passing-put : (words new : List ℕ) (at : ℕ) → at ≡ i → length words ≡ answer_width → new ≡ row_set out at words → answer_width * (i + 1) ≤ length before → words ≡ row i → Passing row before (i + 1) new
  unfolding passed
  passing-put words new at here-at l w h e =
      let rest : List ℕ = drop (answer_width * (i + 1)) before in
      let front : take (answer_width * i) out ≡ passed = ap (take (answer_width * i)) p.cells ∙ take_at passed (drop (answer_width * i) before) (answer_width * i) p.wide in
      let step : answer_width * i + answer_width ≡ answer_width * (i + 1) = omega arith in
      let here : drop (answer_width * i) out ≡ drop (answer_width * i) before = ap (drop (answer_width * i)) p.cells ∙ drop_at passed (drop (answer_width * i) before) (answer_width * i) p.wide in
      let back : drop (answer_width * (i + 1)) out ≡ rest =
      ap (λ (n : ℕ). drop n out) (sym step) ∙ sym (drop-drop answer_width (answer_width * i) out) ∙ ap (drop answer_width) here ∙ drop-drop answer_width (answer_width * i) before ∙ ap (λ (n : ℕ). drop n before) step in
      let cells : new ≡ rows_with row (i + 1) before =
      w
      ∙ ap (λ (k : ℕ). row_set out k words) here-at
      ∙ ap₂ (λ (f b : List ℕ). f ++ (words ++ b)) front back
      ∙ sym (append_assoc passed words rest)
      ∙ ap (λ (l : List ℕ). l ++ rest) (ap (λ (r : List ℕ). passed ++ r) e ∙ sym (join-next row i)) in
      let wide : length (join_of row (numbers_from 0 (i + 1))) ≡ answer_width * (i + 1) =
      omega (arith, ap length (join-next row i) ∙ length-append passed (row i), p.wide, ap length (sym e) ∙ l) in
      record {
        cells = cells;
        wide = wide;
        long = ap length cells ∙ length-append (join_of row (numbers_from 0 (i + 1))) rest ∙ omega (arith, wide, length-drop (answer_width * (i + 1)) before);
      }

-- ## The rows of the passes, as the code has worked them out

pub block-row : (qs keys owners before : List ℕ) (i : ℕ) (words : List ℕ) (looked : Option ℕ) (q : Question) (best owner : ℕ) → words ≡ updated owners looked best owner
    → looked ≡ last_asked q.tag q.date keys → q ≡ question_at qs i → best ≡ get_or before (answer_width * i) 0 → owner ≡ get_or before (answer_width * i + 1) 0
    → words ≡ block_row qs keys owners before i
block-row qs keys owners before i words looked q best owner w l e b o = w ∙ rw (l, e, b, o)

pub finished-row : (ws before : List ℕ) (i : ℕ) (words : List ℕ) (nation : Option ℕ) (owner : ℕ) → words ≡ answer_words (map (plain_at ws) nation) → nation ≡ row_owner owner
    → owner ≡ get_or before (answer_width * i + 1) 0 → words ≡ finished_row ws before i
finished-row ws before i words nation owner w n o = w ∙ rw (n, o)

pub claim-row : (ws es qs : List ℕ) (i : ℕ) (words : List ℕ) (nation : Option ℕ) (best : Option Claim) (q : Question) → words ≡ answer_words (map (plain_at ws) nation)
    → nation ≡ map (λ c. c.nation) best → best ≡ best_of q.tag q.date (claims_in ws es) → q ≡ question_at qs i → words ≡ claim_row ws es qs i
claim-row ws es qs i words nation best q w n b e = w ∙ ap answer_words (ap (map (plain_at ws)) n ∙ map-twice (λ (c : Claim). c.nation) (plain_at ws) best) ∙ rw (b, e)
