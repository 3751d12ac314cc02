-- Keys of claims: sizes, and the number, date and tag that a key holds.
use mathlib.Core.Path.{◌≡◌, refl, sym, ap, ◌∙◌}
use mathlib.Core.Bool.{Bool, true, false, ◌&&◌}
use Prim.Native.Nat.{ℕ, ◌+◌, ◌*◌, ◌/◌, ◌%◌, ◌<◌}
use native.Mathlib.Nat.{mod-eq_of_lt}
use native.Mathlib.Omega.{arith}
use borrow.Author.Tests.{leb-true, leb-false, eqb-true, eqb-false, le-leb, lt-leb, lt-ltb, le-ltb}
use lib.Dec.{leb, ltb}
use Rattle.lists.proofs.BoolLaws.{cases}
use Rattle.format.specs.declared.tag.CountryTag.{CountryTag}
use Rattle.format.specs.declared.date.Eu4Date.{Eu4Date}
use Rattle.format.specs.Tags.{is_tag, same_tag}
use Rattle.format.proofs.TagLaws.{Bytes, word-parts, tag-bytes}
use Rattle.resolver.specs.declared.claims.Claim.{Claim}
use Rattle.resolver.specs.Claims.{is_asked, claim_day}
use Rattle.resolver.specs.Layout.{one_byte, two_bytes, one_letter, two_letters, claim_dates, claim_numbers, claim_span}
use Rattle.resolver.specs.Keys.{tag_bits, lowest_key, is_asked_key, key_day, key_number}

-- ## Tags are told apart by their bits

low_part : (w : ℕ) → w % one_byte < one_letter → w % one_letter ≡ w % one_byte
low_part w h = omega arith

digits-apart : (a b c x y z : ℕ) → b < one_letter → c < one_letter → y < one_letter → z < one_letter → a * two_letters + b * one_letter + c ≡ x * two_letters + y * one_letter + z → (a ≡ x) × (b ≡ y) × (c ≡ z)
digits-apart a b c x y z hb hc hy hz e = (omega arith, omega arith, omega arith)

bits-parts : (t : CountryTag) → Bytes t.0 → tag_bits t ≡ t.0 / two_bytes * two_letters + t.0 / one_byte % one_byte * one_letter + t.0 % one_byte
unfolding tag_bits
bits-parts t b =
    let w = t.0 in
    let x : w / two_bytes % one_letter ≡ w / two_bytes = mod-eq_of_lt (let f = b.first in omega arith) in
    let y : w / one_byte % one_letter ≡ w / one_byte % one_byte = low_part (w / one_byte) (let f = b.second in omega arith) in
    let z : w % one_letter ≡ w % one_byte = low_part w (let f = b.third in omega arith) in
    rw (x, y, z)

bits-apart : (s t : CountryTag) → is_tag s ≡ true → is_tag t ≡ true → tag_bits s ≡ tag_bits t → s.0 ≡ t.0
bits-apart s t hs ht e =
    let v = s.0 in
    let w = t.0 in
    let bv = tag-bytes s hs in
    let bw = tag-bytes t ht in
    let d = digits-apart (v / two_bytes) (v / one_byte % one_byte) (v % one_byte) (w / two_bytes) (w / one_byte % one_byte) (w % one_byte)
    (let f = bv.second in omega arith) (let f = bv.third in omega arith) (let f = bw.second in omega arith) (let f = bw.third in omega arith)
    (sym (bits-parts s bv) ∙ (e ∙ bits-parts t bw)) in
    word-parts v ∙ ap (λ (x : ℕ). x * two_bytes + v / one_byte % one_byte * one_byte + v % one_byte) d.0
    ∙ ap (λ (x : ℕ). w / two_bytes * two_bytes + x * one_byte + v % one_byte) d.1
    ∙ ap (λ (x : ℕ). w / two_bytes * two_bytes + w / one_byte % one_byte * one_byte + x) d.2
    ∙ sym (word-parts w)

-- ## What a key holds

-- A claim to a tag, with a date that 27 bits hold.
pub record GoodClaim (c : Claim) : Type 0 where
  pub tag : is_tag c.tag ≡ true
  pub date : c.date.0 < claim_dates

key-parts : (p d k : ℕ) → k < claim_numbers → (p * claim_span + d * claim_numbers + k) / claim_numbers ≡ p * claim_dates + d
key-parts p d k h = omega arith

key-date : (p d : ℕ) → d < claim_dates → (p * claim_dates + d) % claim_dates ≡ d
key-date p d h = omega arith

same_place : (p d e k j : ℕ) → k < claim_numbers → j < claim_numbers → k < j → leb (p * claim_span + d * claim_numbers + k) (p * claim_span + e * claim_numbers + j) ≡ leb d e
same_place p d e k j hk hj l =
    cases (leb d e)
    (λ t. let o = leb-true d e t in rw t (le-leb (p * claim_span + d * claim_numbers + k) (p * claim_span + e * claim_numbers + j) (omega arith)))
    (λ t. let o = leb-false d e t in rw t (lt-leb (p * claim_span + d * claim_numbers + k) (p * claim_span + e * claim_numbers + j) (omega arith)))

module _ (c : Claim) (g : GoodClaim c) (k : ℕ) (small : k < claim_numbers) where
  plain : lowest_key c.tag c.date + k ≡ tag_bits c.tag * claim_span + c.date.0 * claim_numbers + k
  unfolding lowest_key
  plain = rw (mod-eq_of_lt g.date)

  pub key-day : key_day (lowest_key c.tag c.date + k) ≡ c.date.0
  key-day = rw (plain, key-parts (tag_bits c.tag) c.date.0 k small) (key-date (tag_bits c.tag) c.date.0 g.date)

  pub key-number : key_number (lowest_key c.tag c.date + k) ≡ k
  key-number = rw plain (omega arith)

  pub key-same-tag : (e : Claim) → GoodClaim e → c.tag ≡ e.tag → (j : ℕ) → j < claim_numbers → k < j
      → leb (lowest_key c.tag c.date + k) (lowest_key e.tag e.date + j) ≡ leb (claim_day c) (claim_day e)
  unfolding lowest_key
  key-same-tag e h s j small' l = rw (mod-eq_of_lt g.date, mod-eq_of_lt h.date, s) (same_place (tag_bits e.tag) c.date.0 e.date.0 k j small small' l)

-- The keys within a question's two are those of the claims that it asks for.
key-within : (p t d q k : ℕ) (same : Bool) → d < claim_dates → q < claim_dates → k < claim_numbers → (same ≡ true → p ≡ t) → (same ≡ false → p ≡ t → ⊥)
    → leb (t * claim_span + 0) (p * claim_span + d * claim_numbers + k) && ltb (p * claim_span + d * claim_numbers + k) (t * claim_span + q * claim_numbers + claim_numbers) ≡ same && leb d q
key-within p t d q k true hd hq hk alike other =
    let e = alike refl in
    rw (le-leb (t * claim_span + 0) (p * claim_span + d * claim_numbers + k) (omega arith))
    (cases (leb d q)
    (λ l. let o = leb-true d q l in rw l (lt-ltb (p * claim_span + d * claim_numbers + k) (t * claim_span + q * claim_numbers + claim_numbers) (omega arith)))
    (λ l. let o = leb-false d q l in rw l (le-ltb (p * claim_span + d * claim_numbers + k) (t * claim_span + q * claim_numbers + claim_numbers) (omega arith))))
key-within p t d q k false hd hq hk alike other =
    let apart = other refl in
    cases (leb (t * claim_span + 0) (p * claim_span + d * claim_numbers + k))
    (λ l. let o = leb-true (t * claim_span + 0) (p * claim_span + d * claim_numbers + k) l in
    rw (l, le-ltb (p * claim_span + d * claim_numbers + k) (t * claim_span + q * claim_numbers + claim_numbers) (omega arith)))
    (λ l. rw l)

pub asked-key : (tag : CountryTag) (date : Eu4Date) → is_tag tag ≡ true → date.0 < claim_dates → (c : Claim) → GoodClaim c → (k : ℕ) → k < claim_numbers
    → is_asked_key tag date (lowest_key c.tag c.date + k) ≡ is_asked tag date c
unfolding lowest_key
asked-key tag date ht hd c g k small =
    rw (mod-eq_of_lt g.date, mod-eq_of_lt hd)
    (key-within (tag_bits c.tag) (tag_bits tag) c.date.0 date.0 k (same_tag c.tag tag) g.date hd small
    (λ e. ap (λ (w : ℕ). tag_bits (record { 0 = w })) (eqb-true c.tag.0 tag.0 e))
    (λ e f. eqb-false c.tag.0 tag.0 e (bits-apart c.tag tag g.tag ht f)))
