-- Between two blocks: what the claims that the iterator has left make of the rows is what all make of the rows before. And rows that every block moves on.
use mathlib.Core.Path.{◌≡◌, refl, sym, ap, ap₂, ◌∙◌}
use mathlib.Core.Bool.{true}
use mathlib.Core.List.{List, [], ◌∷◌, ◌++◌, map, append_assoc, append-nil}
use Prim.Native.Nat.{ℕ, zero, suc, ◌-◌, ◌*◌, ◌/◌, ◌<◌, ◌≤◌}
use native.Mathlib.Omega.{arith}
use lib.Dec.{leb}
use lib.ListN.{length, replicate, take, drop, length-take, length-drop, length-replicate, length-map, take-append-drop}
use lib.Seq.{take_at, length-take-le}
use Rattle.std.proofs.lemmas.List.{drop_all}
use Rattle.lists.specs.Lists.{All, all_of, join_of, numbers_from}
use Rattle.lists.proofs.ListLaws.{all_map}
use Rattle.sorting.specs.Sort.{sort_by}
use Rattle.sorting.proofs.SortLaws.{length-sort}
use Rattle.sorting.proofs.SortedKeyLaws.{sort-again}
use Rattle.rules.specs.NationRows.{nation_rows_in, well_shaped}
use Rattle.rules.specs.Questions.{questions_in, question_shaped, answer_width}
use Rattle.resolver.specs.declared.claims.Claim.{Claim}
use Rattle.resolver.specs.Claims.{claims_in}
use Rattle.resolver.specs.Layout.{claim_numbers, row_owners}
use Rattle.resolver.specs.Keys.{keys_from, SortsBlock, block_room}
use Rattle.resolver.specs.Holding.{pieces_of, blocks_of, held_block, held_through}
use Rattle.resolver.specs.Passes.{rows_with, block_row, best_row, finished_row, claim_row}
use Rattle.resolver.proofs.BlockLaws.{length-keys}
use Rattle.resolver.proofs.GoodLaws.{SoundClaim, claims-sound}
use Rattle.resolver.proofs.KeyLaws.{GoodClaim}
use Rattle.resolver.proofs.PassLaws.{zeros-rows}
use Rattle.resolver.proofs.RowsLaws.{block-rows, final-rows, best-wide, length-with}
use Rattle.resolver.specs.declared.blocks.TheConstants.{BLOCK}

-- ## A block

module _ (left rest : List Claim) (room count : ℕ) (keys₀ keys₁ owners₀ owners₁ : List ℕ) (b : SortsBlock left rest room count keys₀ keys₁ owners₀ owners₁) where
  block : List Claim
  block = take room left

  sorted : List ℕ
  unfolding block
  sorted = sort_by leb (keys_from 0 block)

  sorted-long : length sorted ≡ count
  unfolding sorted block
  sorted-long = length-sort leb (keys_from 0 block) ∙ (length-keys 0 block ∙ sym b.counted)

  part-sorted : take count keys₁ ≡ sorted
  unfolding sorted block
  part-sorted = ap (take count) b.keys ∙ take_at sorted (drop (length sorted) keys₀) count sorted-long

  pub part-in-order : sort_by leb (take count keys₁) ≡ take count keys₁
  unfolding sorted block
  part-in-order = ap (sort_by leb) part-sorted ∙ (sort-again (keys_from 0 block) ∙ sym part-sorted)

  -- Nothing was taken because nothing was left.
  pub nothing_left : 0 < room → count ≡ 0 → left ≡ []
  nothing_left h e = go left room h (sym b.counted ∙ e)
    where
      go : (l : List Claim) (r : ℕ) → 0 < r → length (take r l) ≡ 0 → l ≡ []
      go l zero p q = absurd (omega arith)
      go [] (suc r) p q = refl
      go (c ∷ l) (suc r) p q = absurd (omega arith)

  pub fewer-left : 0 < count → length rest < length left
  fewer-left h = omega (arith, b.counted, length-take room left, ap length b.behind ∙ length-drop room left)

  block-few : room ≤ claim_numbers → length (take room left) ≤ claim_numbers
  block-few h = omega (arith, length-take room left)

-- ## Blocks

-- Pieces enough are all.
pieces-enough : {A : Type 0} (size : ℕ) → 0 < size → (n m : ℕ) (xs : List A) → length xs ≤ n → length xs ≤ m → pieces_of size n xs ≡ pieces_of size m xs
unfolding pieces_of
pieces-enough size some zero zero xs h k = refl
pieces-enough size some zero (suc m) [] h k = refl
pieces-enough size some zero (suc m) (x ∷ xs) h k = absurd (omega arith)
pieces-enough size some (suc n) zero [] h k = refl
pieces-enough size some (suc n) zero (x ∷ xs) h k = absurd (omega arith)
pieces-enough size some (suc n) (suc m) [] h k = refl
pieces-enough size some (suc n) (suc m) (x ∷ xs) h k =
    let l : length (drop size (x ∷ xs)) ≡ suc (length xs) - size = length-drop size (x ∷ xs) in
    ap (λ (ys : List (List _)). take size (x ∷ xs) ∷ ys) (pieces-enough size some n m (drop size (x ∷ xs)) (omega arith) (omega arith))

-- The first piece, and the pieces of what is behind it.
pieces-next : {A : Type 0} (size : ℕ) → 0 < size → (xs : List A) → 0 < length xs → pieces_of size (length xs) xs ≡ take size xs ∷ pieces_of size (length (drop size xs)) (drop size xs)
unfolding pieces_of
pieces-next size some [] h = absurd (omega arith)
pieces-next size some (x ∷ xs) h =
    let l : length (drop size (x ∷ xs)) ≡ suc (length xs) - size = length-drop size (x ∷ xs) in
    ap (λ (ys : List (List _)). take size (x ∷ xs) ∷ ys) (pieces-enough size some (length xs) (length (drop size (x ∷ xs))) (drop size (x ∷ xs)) (omega arith) (omega arith))

-- ## The walk

module _ (held : List ℕ → List ℕ → List ℕ → List ℕ) (claims : List Claim) (before : List ℕ) where
  -- What the claims that are left make of the rows is what all make of the rows before.
  pub record Between (left : List Claim) (out keys owners scratch : List ℕ) : Type 0 where
    pub whole : held_through held (blocks_of left) out ≡ held_through held (blocks_of claims) before
    pub long : length out ≡ length before
    pub keys_long : length keys ≡ BLOCK
    pub owners_long : length owners ≡ BLOCK
    pub scratch_long : length scratch ≡ BLOCK

  pub between-first : (left : List Claim) (keys owners scratch : List ℕ) → left ≡ claims → length keys ≡ BLOCK → length owners ≡ BLOCK → length scratch ≡ BLOCK
      → Between left before keys owners scratch
  between-first left keys owners scratch e k o s =
      record {
        whole = ap (λ (l : List Claim). held_through held (blocks_of l) before) e;
        long = refl;
        keys_long = k;
        owners_long = o;
        scratch_long = s;
      }

  module _ (left : List Claim) (out keys owners scratch : List ℕ) (t : Between left out keys owners scratch) where
    pub between-last : left ≡ [] → out ≡ held_through held (blocks_of claims) before
    unfolding pieces_of held_through
    between-last e = sym (ap (λ (l : List Claim). held_through held (blocks_of l) out) e) ∙ t.whole

    -- The rows are moved on by the claims of the block.
    pub between-next : (rest : List Claim) (count : ℕ) (keys₁ owners₁ scratch₁ new : List ℕ) → SortsBlock left rest (block_room keys owners) count keys keys₁ owners owners₁
        → 0 < count → new ≡ held (take count keys₁) (take count owners₁) out
        → length new ≡ length out → length keys₁ ≡ length keys → length owners₁ ≡ length owners → length scratch₁ ≡ length scratch
        → Between rest new keys₁ owners₁ scratch₁
    unfolding block sorted held_through
    between-next rest count keys₁ owners₁ scratch₁ new b some w lo lk lw ls =
        let room : block_room keys owners ≡ BLOCK = omega (arith, t.keys_long, t.owners_long) in
        let ys : List Claim = take BLOCK left in
        let b' : SortsBlock left rest BLOCK count keys keys₁ owners owners₁ = rw room at b in
        let there : 0 < length left = omega (arith, b'.counted, length-take BLOCK left) in
        let owners-long : length (map (λ (c : Claim). c.nation) ys) ≡ count = length-map ys (λ (c : Claim). c.nation) ∙ sym b'.counted in
        let owned : take count owners₁ ≡ map (λ (c : Claim). c.nation) ys = ap (take count) b'.owners ∙ take_at (map (λ (c : Claim). c.nation) ys) _ count owners-long in
        let made : new ≡ held_block held ys out = w ∙ ap₂ (λ (ks os : List ℕ). held ks os out) (part-sorted left rest BLOCK count keys keys₁ owners owners₁ b') owned in
        record {
          whole =
              ap₂ (λ (l : List Claim) (o : List ℕ). held_through held (blocks_of l) o) b'.behind made
              ∙ (sym (ap (λ (bs : List (List Claim)). held_through held bs out) (pieces-next BLOCK (omega arith) left there)) ∙ t.whole);
          long = lo ∙ t.long;
          keys_long = lk ∙ t.keys_long;
          owners_long = lw ∙ t.owners_long;
          scratch_long = ls ∙ t.scratch_long;
        }

-- ## Rows that every block moves on

-- Rows that are told of the claims passed are told of any block behind them too, once the pass has held them against it.
abbrev pub MovedOn : (List ℕ → List ℕ → List ℕ → List ℕ) → List Claim → (List Claim → List ℕ) → Type 0
MovedOn held claims rows =
    (passed block left : List Claim) → claims ≡ passed ++ (block ++ left) → length block ≤ claim_numbers → held_block held block (rows passed) ≡ rows (passed ++ block)

-- So rows that are told of no claims before are told of all of them behind the pass.
module _ (held : List ℕ → List ℕ → List ℕ → List ℕ) (claims : List Claim) (rows : List Claim → List ℕ) (move : MovedOn held claims rows) where
  moved-from : (size : ℕ) → 0 < size → size ≤ claim_numbers → (n : ℕ) (passed left : List Claim) → claims ≡ passed ++ left → length left ≤ n → held_through held (pieces_of size n left) (rows passed) ≡ rows claims
  unfolding pieces_of held_through
  moved-from size some few zero passed [] e h = ap rows (sym (e ∙ append-nil passed))
  moved-from size some few zero passed (c ∷ cs) e h = absurd (omega arith)
  moved-from size some few (suc n) passed [] e h = ap rows (sym (e ∙ append-nil passed))
  moved-from size some few (suc n) passed (c ∷ cs) e h =
      let ys : List Claim = take size (c ∷ cs) in
      let rest : List Claim = drop size (c ∷ cs) in
      let split : claims ≡ passed ++ (ys ++ rest) = e ∙ ap (λ (l : List Claim). passed ++ l) (sym (take-append-drop size (c ∷ cs))) in
      let l : length rest ≡ suc (length cs) - size = length-drop size (c ∷ cs) in
      ap (held_through held (pieces_of size n rest)) (move passed ys rest split (omega (arith, length-take size (c ∷ cs))))
      ∙ moved-from size some few n (passed ++ ys) rest (split ∙ sym (append_assoc passed ys rest)) (omega arith)

  pub moved-all : (before : List ℕ) → before ≡ rows [] → held_through held (blocks_of claims) before ≡ rows claims
  moved-all before e = ap (held_through held (blocks_of claims)) e ∙ moved-from BLOCK (omega arith) (omega arith) (length claims) [] claims refl (omega arith)

-- ## The claims of a block

all-parts : {A : Type 0} (P : A → Type 0) (xs ys zs : List A) → All P (xs ++ (ys ++ zs)) → All P ys
all-parts P (x ∷ xs) ys zs q = all-parts P xs ys zs q.1
all-parts P [] [] zs q = tt
all-parts P [] (y ∷ ys) zs q = (q.0, all-parts P [] ys zs q.1)

pub block-good : (ws es : List ℕ) → well_shaped ws es ≡ true → (passed ys left : List Claim) → claims_in ws es ≡ passed ++ (ys ++ left) → All GoodClaim ys
block-good ws es shaped passed ys left e =
    let sound = SoundClaim (length (nation_rows_in ws)) in
    all_map (λ c s. s.good) ys (all-parts sound passed ys left (rw e at (claims-sound ws es shaped)))

-- ## The rows of questions

-- Each has the best of the claims passed.
abbrev pub best_rows : List ℕ → List ℕ → List Claim → List ℕ
best_rows qs before cs = rows_with (best_row qs cs) (length (questions_in qs)) before

pub questions-hold : (ws es qs before : List ℕ) → well_shaped ws es ≡ true → all_of question_shaped (questions_in qs) ≡ true → length before / answer_width ≡ length (questions_in qs)
    → MovedOn (λ keys owners out. rows_with (block_row qs keys owners out) (length out / answer_width) out) (claims_in ws es) (best_rows qs before)
questions-hold ws es qs before shaped good wide passed ys left e few =
    let n = length (questions_in qs) in
    let out : List ℕ = best_rows qs before passed in
    let rows : length out / answer_width ≡ n = ap (λ (k : ℕ). k / answer_width) (length-with (best_row qs passed) n before (best-wide qs passed) (omega arith)) ∙ wide in
    block-rows qs good passed ys before (block-good ws es shaped passed ys left e) few _ _ refl refl n refl out _ refl
    (ap (λ (k : ℕ). rows_with (block_row qs (sort_by leb (keys_from 0 ys)) (map (λ (c : Claim). c.nation) ys) out) k out) rows)

-- The words of all rows, and behind them what stood there.
part-rows : (row : ℕ → List ℕ) (n m : ℕ) (before part new : List ℕ) → n ≡ m → answer_width * n ≤ length before → length part ≡ answer_width * n → new ≡ rows_with row (length part / answer_width) part
    → new ++ drop (answer_width * n) before ≡ rows_with row m before
part-rows row n m before part new e room long w =
    let rows : length part / answer_width ≡ n = omega arith in
    let over : drop (answer_width * n) part ≡ [] = drop_all (answer_width * n) part (omega arith) in
    let all : new ≡ join_of row (numbers_from 0 n) = (rw rows at w) ∙ (ap (λ (t : List ℕ). join_of row (numbers_from 0 n) ++ t) over ∙ append-nil _) in
    rw (← e) (ap (λ (t : List ℕ). t ++ drop (answer_width * n) before) all)

-- Answered one by one, or cleared, held against the blocks and turned.
module _ (ws es qs : List ℕ) (n : ℕ) (before : List ℕ) (e : n ≡ length (questions_in qs)) (room : answer_width * n ≤ length before) where
  abbrev part : List ℕ
  part = take (answer_width * n) before

  pub answered-each : (new : List ℕ) → new ≡ rows_with (claim_row ws es qs) (length part / answer_width) part → new ++ drop (answer_width * n) before ≡ rows_with (claim_row ws es qs) (length (questions_in qs)) before
  answered-each new w = part-rows (claim_row ws es qs) n (length (questions_in qs)) before part new e room (length-take-le (answer_width * n) before room) w

  pub answered-rows : well_shaped ws es ≡ true → length (nation_rows_in ws) < row_owners → all_of question_shaped (questions_in qs) ≡ true
      → (first second third : List ℕ) → first ≡ replicate (length part) 0
      → second ≡ held_through (λ keys owners out. rows_with (block_row qs keys owners out) (length out / answer_width) out) (blocks_of (claims_in ws es)) first
      → length second ≡ length first → third ≡ rows_with (finished_row ws second) (length second / answer_width) second
      → third ++ drop (answer_width * n) before ≡ rows_with (claim_row ws es qs) (length (questions_in qs)) before
  answered-rows shaped few good first second third z h l f =
      let m = length (questions_in qs) in
      let long : length part ≡ answer_width * n = length-take-le (answer_width * n) before room in
      let wide : length first ≡ answer_width * n = ap length z ∙ length-replicate (length part) 0 ∙ long in
      let whole : length first / answer_width ≡ m = omega arith in
      let over : drop (answer_width * m) first ≡ [] = drop_all (answer_width * m) first (omega arith) in
      let blank : first ≡ best_rows qs first [] =
      z
      ∙ (zeros-rows qs 0 m _ (long ∙ ap (λ (k : ℕ). answer_width * k) e)
      ∙ (sym (append-nil _) ∙ ap (λ (t : List ℕ). join_of (best_row qs []) (numbers_from 0 m) ++ t) (sym over))) in
      let held : second ≡ best_rows qs first (claims_in ws es) = h ∙ moved-all _ (claims_in ws es) (best_rows qs first) (questions-hold ws es qs first shaped good whole) first blank in
      let rows : length second / answer_width ≡ m = omega arith in
      let turned : third ≡ rows_with (claim_row ws es qs) m first = final-rows ws es shaped few qs m first second third held (rw rows at f) in
      part-rows (claim_row ws es qs) n m before first third e room wide (turned ∙ ap (λ (k : ℕ). rows_with (claim_row ws es qs) k first) (sym whole))
