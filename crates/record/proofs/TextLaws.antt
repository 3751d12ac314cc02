-- Strings at an offset, against those of the bytes behind it; and the first of them.
use mathlib.Core.Path.{◌≡◌, refl, sym, ap, ◌∙◌}
use mathlib.Core.List.{List, [], ◌∷◌}
use Prim.Native.Nat.{ℕ, zero, suc, ◌+◌, ◌-◌, ◌≤◌, ◌<◌}
use native.Mathlib.Omega.{arith}
use native.Mathlib.Decide.{dec_le}
use borrow.Author.Tests.{le-leb, lt-leb}
use lib.Dec.{leb}
use lib.ListN.{length, take, drop}
use Rattle.std.proofs.lemmas.List.{get_or-drop, drop-drop, length-drop}
use Rattle.format.specs.Bytes.{byte_at}
use Rattle.format.specs.Rows.{strings_from}
use Rattle.format.proofs.CampaignLaws.{strings-counted}
use Rattle.record.specs.declared.texts.Strings.{Strings}
use Rattle.record.specs.Cursors.{strings_left}

-- Something stands whole behind a bytes, exactly where it ends inside all of them.
within : (a m l : ℕ) → 0 < m → leb m (l - a) ≡ leb (a + m) l
within a m l p =
    elim (dec_le (a + m) l) as (λ _. leb m (l - a) ≡ leb (a + m) l) [
      | yes h ↦ let inside : m ≤ l - a = omega arith in simp (le-leb _ _ h, le-leb _ _ inside)
      | no h ↦
          let past : l < a + m = omega arith in
          let short : l - a < m = omega arith in
          simp (lt-leb _ _ past, lt-leb _ _ short)
    ]

-- The strings behind so many bytes.
strings-behind : (xs : List ℕ) (a b n : ℕ) → strings_from (drop a xs) b n ≡ strings_from xs (a + b) n
unfolding strings_from
strings-behind xs a b zero = refl
strings-behind xs a b (suc n) =
    let k = byte_at xs (a + b) in
    let next : a + b + 1 ≡ a + (b + 1) = omega arith in
    let behind : a + (b + 1) + k ≡ a + (b + 1 + k) = omega arith in
    let some : 0 < b + 1 + k = omega arith in
    rw (get_or-drop a xs b 0, length-drop a xs, drop-drop (b + 1) a xs, next, behind, within a (b + 1 + k) (length xs) some, strings-behind xs a (b + 1 + k) n)

pub strings_whole : (xs : List ℕ) (at n : ℕ) → strings_from (drop at xs) 0 n ≡ strings_from xs at n
strings_whole xs at n = let same : at + 0 ≡ at = omega arith in strings-behind xs at 0 n ∙ ap (λ a. strings_from xs a n) same

-- None is left: none is counted, or there is no byte, or the next one does not stand whole.
pub strings_none : (xs : List ℕ) (left : ℕ) → left ≡ 0 → strings_from xs 0 left ≡ []
unfolding strings_from
strings_none xs left e = simp e

pub strings_empty : (xs : List ℕ) (left : ℕ) → length xs ≡ 0 → strings_from xs 0 left ≡ []
unfolding strings_from
strings_empty xs zero e = refl
strings_empty [] (suc left) e = refl
strings_empty (x ∷ xs) (suc left) e = absurd (omega arith)

pub strings_past : (xs : List ℕ) (left len : ℕ) (behind : List ℕ) → xs ≡ len ∷ behind → length behind < len → strings_from xs 0 left ≡ []
unfolding strings_from
strings_past xs zero len behind e h = refl
strings_past xs (suc left) len behind e h = let past : length (len ∷ behind) < 1 + len = omega arith in simp (e, lt-leb _ _ past)

-- Else the first is left, and those behind it.
pub strings_first : (xs : List ℕ) (left len : ℕ) (behind : List ℕ) → xs ≡ len ∷ behind → (left ≡ 0 → ⊥) → len ≤ length behind
    → strings_from xs 0 left ≡ take len behind ∷ strings_from (drop len behind) 0 (left - 1)
unfolding strings_from
strings_first xs zero len behind e p h = absurd (p refl)
strings_first xs (suc left) len behind e p h =
    let whole : 1 + len ≤ length (len ∷ behind) = omega arith in
    let at : suc len + 0 ≡ 1 + len = omega arith in
    let last : suc left - 1 ≡ left = omega arith in
    ap (λ l. strings_from l 0 (suc left)) e
    ∙ simp (le-leb _ _ whole, last)
    (ap (λ l. take len behind ∷ l) (sym (strings-behind (len ∷ behind) (suc len) 0 left ∙ ap (λ a. strings_from (len ∷ behind) a left) at)))

-- As many strings as are left can be numbered in a word.
pub strings_few : (it : Strings) → length (strings_left it) ≤ 4294967295
strings_few it = omega (arith, strings-counted it.bytes.now 0 it.left, it.few)

pub ruleset texts = (strings_none, strings_empty, strings_past, strings_first)
