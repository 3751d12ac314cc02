-- Claims as keys. A key holds a claim's tag in 21 bits, its date in 27 and its number in the block in 16: so keys in order hold the
-- claims to a tag together, by date, and those of one date in list order.
use Rattle.std.specs.Prelude.{◌≡◌, Bool, ◌&&◌, List, [], ◌∷◌, map, ℕ, ◌+◌, ◌*◌, ◌/◌, ◌%◌, min, leb, ltb, length, take, drop}
use Rattle.std.proofs.Math.Option.{Option}
use Rattle.lists.specs.Lists.{keep, last}
use Rattle.sorting.specs.Sort.{sort_by}
use Rattle.format.specs.declared.tag.CountryTag.{CountryTag}
use Rattle.format.specs.declared.date.Eu4Date.{Eu4Date}
use Rattle.rules.specs.Lent.{written}
use Rattle.resolver.specs.declared.claims.Claim.{Claim}
use Rattle.resolver.specs.Layout.{one_byte, two_bytes, one_letter, two_letters, claim_dates, claim_numbers, claim_span}

-- A tag in 21 bits, seven for each byte.
unfoldable pub tag_bits : CountryTag → ℕ
tag_bits t = t.0 / two_bytes % one_letter * two_letters + t.0 / one_byte % one_letter * one_letter + t.0 % one_letter

-- The lowest key of a tag and a date.
unfoldable pub lowest_key : CountryTag → Eu4Date → ℕ
lowest_key t d = tag_bits t * claim_span + d.0 % claim_dates * claim_numbers

-- The keys of claims, numbered from k on.
unfoldable pub keys_from : ℕ → List Claim → List ℕ
keys_from k [] = []
keys_from k (c ∷ cs) = (lowest_key c.tag c.date + k) ∷ keys_from (k + 1) cs

-- What a block takes of the claims that a walk has left, with so much room: their keys and the numbers of their nations.
pub record Fills (left rest : List Claim) (room count : ℕ) (keys₀ keys₁ owners₀ owners₁ : List ℕ) : Type 0 where
  pub counted : count ≡ length (take room left)
  pub behind : rest ≡ drop room left
  pub keys : keys₁ ≡ written (keys_from 0 (take room left)) keys₀
  pub owners : owners₁ ≡ written (map (λ c. c.nation) (take room left)) owners₀

-- The same with the keys sorted.
pub record SortsBlock (left rest : List Claim) (room count : ℕ) (keys₀ keys₁ owners₀ owners₁ : List ℕ) : Type 0 where
  pub counted : count ≡ length (take room left)
  pub behind : rest ≡ drop room left
  pub keys : keys₁ ≡ written (sort_by leb (keys_from 0 (take room left))) keys₀
  pub owners : owners₁ ≡ written (map (λ c. c.nation) (take room left)) owners₀

-- The room of a block: both slices must hold its claims, and a number takes 16 bits.
abbrev pub block_room : List ℕ → List ℕ → ℕ
block_room keys owners = min (min (length keys) (length owners)) claim_numbers

-- The keys to a tag that are dated not after a date, of a claim with any number.
abbrev pub is_asked_key : CountryTag → Eu4Date → ℕ → Bool
is_asked_key t d k = leb (lowest_key t (record { 0 = 0 })) k && ltb k (lowest_key t d + claim_numbers)

-- The last of them.
abbrev pub last_asked : CountryTag → Eu4Date → List ℕ → Option ℕ
last_asked t d keys = last (keep (is_asked_key t d) keys)

-- A key's date and number.
abbrev pub key_day : ℕ → ℕ
key_day k = k / claim_numbers % claim_dates

abbrev pub key_number : ℕ → ℕ
key_number k = k % claim_numbers
