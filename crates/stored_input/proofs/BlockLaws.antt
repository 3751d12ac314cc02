-- Numbers that are read by blocks.
use Rattle.std.proofs.Common.{◌≡◌, ℕ, zero, suc, ◌+◌, ◌*◌, ◌/◌, ◌<◌, ◌≤◌, List, ◌++◌, arith, length, map, take, drop, length-append, length-take-le, length-drop, take-append-drop, sym, ap, ◌∙◌}
use Rattle.std.proofs.lemmas.List.{nil_from_length}
use Rattle.std.proofs.lemmas.List.Concat.{flat_map-append}
use Rattle.std.proofs.lemmas.List.Folds.{flat_map-map}
use Rattle.std.proofs.lemmas.Slice.{take-put_mid}
use Rattle.std.specs.Prelude.{flat_map}
use Rattle.std.specs.Int.{to_le_bytes, w32}
use Rattle.std.specs.Simd.{first_chunks}
use Rattle.stored_input.specs.Reading.{number_bytes}
use Rattle.stored_input.proofs.NumberLaws.{length-number_bytes}
use borrow.Rule.Slice.PartMut.{put_mid}

-- Chunks of four that are cut out of bytes are the bytes when they are joined.
chunks-joined : (n : ℕ) (bytes : List ℕ) → length bytes ≡ 4 * n → flat_map (λ (x : List ℕ). x) (first_chunks 4 n bytes) ≡ bytes
chunks-joined zero bytes same = sym (nil_from_length bytes (omega (arith, same)))
chunks-joined (suc n) bytes same =
    ap (λ (l : List ℕ). take 4 bytes ++ l) (chunks-joined n (drop 4 bytes) (omega (arith, same, length-drop 4 bytes)))
    ∙ take-append-drop 4 bytes

-- Numbers whose bytes are the chunks of some bytes have these bytes.
pub numbers-told : (ns bytes : List ℕ) → map (to_le_bytes w32) ns ≡ first_chunks 4 (length bytes / 4) bytes → length bytes ≡ 4 * length ns
    → number_bytes ns ≡ bytes
numbers-told ns bytes told long =
    let many : length bytes / 4 ≡ length ns = omega (arith, long) in
    sym (flat_map-map (λ (x : List ℕ). x) (to_le_bytes w32) ns)
    ∙ ap (flat_map (λ (x : List ℕ). x)) (told ∙ ap (λ (k : ℕ). first_chunks 4 k bytes) many)
    ∙ chunks-joined (length ns) bytes long

module _ (at k n : ℕ) (buf block : List ℕ) (within : at ≤ length buf) where
  -- The bytes of the numbers so far and of a block behind them.
  pub block-more : n ≡ length block → number_bytes (take at buf) ++ number_bytes block ≡ number_bytes (take (at + n) (put_mid at k buf block))
  block-more long =
      sym (flat_map-append (to_le_bytes w32) (take at buf) block)
      ∙ ap number_bytes (sym (take-put_mid at k buf block (at + n) (ap (λ (j : ℕ). at + j) long) within))

-- Some numbers, and behind them fewer bytes than a block has, are fewer bytes than all numbers have.
pub fewer-bytes : (ns ms block part : List ℕ) (at : ℕ) → at + length block ≤ length ns → length ms ≡ length ns → length part < length (number_bytes block)
    → length (number_bytes (take at ns) ++ part) < length (number_bytes ms)
fewer-bytes ns ms block part at within same short =
    let both = length-append (number_bytes (take at ns)) part in
    let front = length-number_bytes (take at ns) in
    let taken = length-take-le at ns (omega arith) in
    let middle = length-number_bytes block in
    let all = length-number_bytes ms in
    omega arith
