-- The bytes of a tag: they lie from 45 to 122, with nothing between 45 and 48.
use mathlib.Core.Path.{◌≡◌}
use mathlib.Core.Bool.{true, ◌&&◌}
use Prim.Native.Nat.{ℕ, ◌+◌, ◌*◌, ◌/◌, ◌%◌, ◌<◌, ◌≤◌}
use native.Mathlib.Omega.{arith}
use borrow.Author.Tests.{leb-true, eqb-true}
use lib.Dec.{leb}
use Rattle.lists.proofs.BoolLaws.{cases, and_left, and_right}
use Rattle.format.specs.declared.tag.CountryTag.{CountryTag}
use Rattle.format.specs.Tags.{tag_byte, is_tag}

-- What is known of a tag's byte.
pub record Range (b : ℕ) : Type 0 where
  pub least : 45 ≤ b
  pub most : b ≤ 122
  pub low : b < 48 → b ≡ 45

pub byte-range : (b : ℕ) → tag_byte b ≡ true → Range b
unfolding tag_byte
byte-range b h =
    cases (leb 48 b && leb b 57)
    (λ d. between 48 57 d (omega arith) (omega arith))
    (λ d. cases (leb 65 b && leb b 90)
    (λ u. between 65 90 u (omega arith) (omega arith))
    (λ u. cases (leb 97 b && leb b 122)
    (λ l. between 97 122 l (omega arith) (omega arith))
    (λ l. let e : b ≡ 45 = eqb-true b 45 (simp (d, u, l) at h) in record { least = omega arith; most = omega arith; low = λ _. e })))
  where
    between : (low high : ℕ) → leb low b && leb b high ≡ true → 48 ≤ low → high ≤ 122 → Range b
    between low high t hl hh =
        let p = leb-true low b (and_left (leb low b) (leb b high) t) in
        let q = leb-true b high (and_right (leb low b) (leb b high) t) in
        record { least = omega (arith, p, hl); most = omega (arith, q, hh); low = λ h. absurd (omega (arith, p, hl)) }

pub record Bytes (w : ℕ) : Type 0 where
  pub first : Range (w / 65536)
  pub second : Range (w / 256 % 256)
  pub third : Range (w % 256)

-- A word is what its three bytes make.
pub word-parts : (w : ℕ) → w ≡ w / 65536 * 65536 + w / 256 % 256 * 256 + w % 256
word-parts w = omega arith

pub tag-bytes : (t : CountryTag) → is_tag t ≡ true → Bytes t.0
unfolding is_tag
tag-bytes t h =
    let a = tag_byte (t.0 / 65536) in
    let b = tag_byte (t.0 / 256 % 256) in
    let c = tag_byte (t.0 % 256) in
    let ab = and_left (a && b) c h in
    record {
      first = byte-range (t.0 / 65536) (and_left a b ab);
      second = byte-range (t.0 / 256 % 256) (and_right a b ab);
      third = byte-range (t.0 % 256) (and_right (a && b) c h);
    }
