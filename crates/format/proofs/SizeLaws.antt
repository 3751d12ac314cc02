-- Where the strings end, and that sizes which agree lay the sections inside the bytes.
use mathlib.Core.Path.{◌≡◌, refl, ap, ◌∙◌}
use mathlib.Core.List.{List}
use Prim.Native.Nat.{ℕ, zero, suc, ◌+◌, ◌≤◌}
use native.Mathlib.Omega.{arith}
use lib.ListN.{length, drop}
use Rattle.std.proofs.lemmas.List.{get_or-drop}
use borrow.Author.Tests.{eqb-true}
use mathlib.Core.Bool.{true, ◌&&◌}
use lib.Dec.{eqb}
use Rattle.lists.proofs.BoolLaws.{and_left, and_right}
use Rattle.format.specs.declared.head.Head.{Head}
use Rattle.format.specs.Head.{head_of, within_limits, strings_at}
use Rattle.format.specs.Laid.{Laid}
use Rattle.format.specs.RecordNumber.{totals_agree, length_agrees, sizes_agree}
use Rattle.format.specs.Bytes.{byte_at}
use Rattle.format.specs.Rows.{strings_end}

-- each string takes a byte at least
pub strings-end-grows : (xs : List ℕ) (at n : ℕ) → at + n ≤ strings_end xs at n
unfolding strings_end
strings-end-grows xs at zero = omega arith
strings-end-grows xs at (suc n) = omega (arith, strings-end-grows xs (at + 1 + byte_at xs at) n)

-- Behind a place the strings end as in the bytes behind it.
pub strings-end-behind : (xs : List ℕ) (at k n : ℕ) → strings_end xs (at + k) n ≡ at + strings_end (drop at xs) k n
unfolding strings_end
strings-end-behind xs at k zero = refl
strings-end-behind xs at k (suc n) =
    let byte : byte_at (drop at xs) k ≡ byte_at xs (at + k) = get_or-drop at xs k 0 in
    let next : at + k + 1 + byte_at xs (at + k) ≡ at + (k + 1 + byte_at (drop at xs) k) = rw byte (omega arith) in
    ap (λ (p : ℕ). strings_end xs p n) next ∙ strings-end-behind xs at (k + 1 + byte_at (drop at xs) k) n

-- sizes that agree lay the sections inside the bytes
pub laid : (xs : List ℕ) (k : Head) → k ≡ head_of xs → sizes_agree xs ≡ true → Laid xs k
unfolding sizes_agree length_agrees
laid xs k e h =
    let w = within_limits (head_of xs) in
    let t = totals_agree xs in
    let l = eqb (strings_end xs (strings_at (head_of xs)) (head_of xs).strings) (length xs) in
    let same = eqb-true (strings_end xs (strings_at (head_of xs)) (head_of xs).strings) (length xs) (and_right (w && t) l h) in
    record {
      head = e;
      limits = ap within_limits e ∙ and_left w t (and_left (w && t) l h);
      inside = rw e (omega (arith, same, strings-end-grows xs (strings_at (head_of xs)) (head_of xs).strings));
    }
