-- The head of bytes that are filled up with zeros, and the rows of sections that are taken one behind the other.
use mathlib.Core.Path.{◌≡◌, refl, sym, ap, ap₂, ◌∙◌}
use mathlib.Core.List.{List, ◌∷◌, ◌++◌, map}
use Prim.Native.Nat.{ℕ, zero, suc, ◌+◌, ◌-◌, ◌*◌, ◌/◌, ◌<◌, ◌≤◌, min}
use native.Mathlib.Nat.{zero-add, mul-suc, mul-div_cancel_left}
use native.Mathlib.Decide.{dec_lt}
use native.Mathlib.Omega.{arith}
use lib.ListN.{length, take, drop, replicate, get_or-eq_default, length-take, length-drop, get_or-append}
use lib.Seq.{take-take}
use Rattle.std.proofs.lemmas.List.{get_or-take, get_or-drop, get_or-append_right, drop-drop, drop-take}
use Rattle.std.specs.Simd.{first_chunks}
use Rattle.lists.proofs.TableLaws.{blank-entry}
use Rattle.format.specs.Bytes.{byte_at}
use Rattle.format.specs.Head.{head_of, head_bytes}
use Rattle.format.specs.Rows.{rows_at}
use Rattle.format.proofs.PackedLaws.{Reads, head-same, rows_cut}
use Rattle.record_check.specs.Sections.{RowsCut}

-- Behind the end every byte is 0, so zeros in the place of what is missing change nothing.
filled : (xs : List ℕ) (size n : ℕ) → n ≡ min (length xs) size → (k : ℕ) → k < size
    → byte_at (take n xs ++ drop n (replicate size 0)) k ≡ byte_at xs k
filled xs size n e k h =
    let taken : length (take n xs) ≡ n = omega (arith, length-take n xs) in
    elim (dec_lt k n) as (λ _. byte_at (take n xs ++ drop n (replicate size 0)) k ≡ byte_at xs k) [
      | yes p ↦ get_or-append (take n xs) (drop n (replicate size 0)) 0 k (omega arith) ∙ get_or-take n xs k 0 p
      | no p ↦
          get_or-append_right (take n xs) (drop n (replicate size 0)) n k 0 taken (omega arith)
          ∙ get_or-drop n (replicate size 0) (k - n) 0
          ∙ blank-entry 0 size (n + (k - n))
          ∙ sym (get_or-eq_default xs 0 (omega arith))
    ]

pub head-filled : (xs front : List ℕ) (n : ℕ) → n ≡ min (length xs) head_bytes → front ≡ take n xs
    → head_of (front ++ drop n (replicate head_bytes 0)) ≡ head_of xs
head-filled xs front n e f =
    ap (λ l. head_of (l ++ drop n (replicate head_bytes 0))) f
    ∙ head-same (take n xs ++ drop n (replicate head_bytes 0)) xs (record { byte = λ k h. rw (zero-add k) (filled xs head_bytes n e k h) })

-- Rows that are cut out of the front of some bytes are cut out of the bytes.
front-chunks : (w n : ℕ) (xs : List ℕ) → first_chunks w n (take (w * n) xs) ≡ first_chunks w n xs
front-chunks w zero xs = refl
front-chunks w (suc n) xs =
    let next : w * suc n ≡ w + w * n = omega (arith, mul-suc w n) in
    rw next
    (ap₂ ◌∷◌ (take-take w (w + w * n) xs (omega arith)) (ap (first_chunks w n) (drop-take w (w * n) xs) ∙ front-chunks w n (drop w xs)))

pub chunks-told : (w n : ℕ) (xs rows : List ℕ) → 0 < w → rows ≡ take (w * n) xs → length rows ≡ w * n
    → first_chunks w (length rows / w) rows ≡ first_chunks w n xs
chunks-told w n xs rows p e size =
    let many : length rows / w ≡ n = ap (λ (k : ℕ). k / w) size ∙ mul-div_cancel_left n p in
    ap (λ (k : ℕ). first_chunks w k rows) many ∙ ap (first_chunks w n) e ∙ front-chunks w n xs

-- What is left of the bytes behind a place.
pub record Behind (xs : List ℕ) (at : ℕ) (rest : List ℕ) : Type 0 where
  pub inside : at ≤ length xs
  pub left : rest ≡ drop at xs

-- So many rows are taken from what is left: they are a section of the rules, and what is left behind them begins where they end.
pub record Section {A : Type 0} (xs : List ℕ) (at width n : ℕ) (read : List ℕ → ℕ → A) (rows : List (List ℕ)) (rest : List ℕ) : Type 0 where
  pub told : map (λ row. read row 0) rows ≡ rows_at (read xs) width xs at n
  pub behind : Behind xs (at + width * n) rest

pub section : {A : Type 0} {xs bytes rest : List ℕ} {rows : List (List ℕ)} {at : ℕ} (b : Behind xs at bytes) (width n : ℕ) {read : List ℕ → ℕ → A} → Reads width read
    → RowsCut width n bytes rows rest → Section xs at width n read rows rest
section {xs = xs} {at = at} b width n {read = read} reads cut =
    let inside : at + width * n ≤ length xs = omega (arith, b.inside, cut.0, ap length b.left, length-drop at xs) in
    record {
      told = ap (map (λ row. read row 0)) (cut.1 ∙ ap (first_chunks width n) b.left) ∙ rows_cut read width reads xs at n inside;
      behind = record { inside = inside; left = cut.2 ∙ ap (drop (width * n)) b.left ∙ drop-drop (width * n) at xs };
    }
