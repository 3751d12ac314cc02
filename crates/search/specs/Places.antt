-- Elements with a tag as keys, and which of them is the first with that tag.
use Rattle.std.specs.Prelude.{Bool, ◌&&◌, cond, List, [], ◌∷◌, ℕ, ◌+◌, ◌*◌, ◌%◌, leb, ltb}
use Rattle.std.proofs.Math.Option.{Option, none, some, map}
use Rattle.lists.specs.Lists.{first_that}
use Rattle.format.specs.declared.tag.CountryTag.{CountryTag}
use Rattle.format.specs.Tags.{same_tag}

-- How many keys a tag has, one for each number: one more of a tag adds this to a key.
abbrev pub keys_per_tag : ℕ
keys_per_tag = 65536

-- A tag and a number in one key: so keys stand in the order of tags, those of one tag by rising number.
abbrev pub tag_key : CountryTag → ℕ → ℕ
tag_key t n = t.0 * keys_per_tag + n

-- The keys of tags that are numbered from k on.
unfoldable pub tag_keys_from : ℕ → List CountryTag → List ℕ
tag_keys_from k [] = []
tag_keys_from k (t ∷ ts) = tag_key t k ∷ tag_keys_from (k + 1) ts

-- The number of the first of them that is a given tag.
unfoldable pub place_from : ℕ → CountryTag → List CountryTag → Option ℕ
place_from k t [] = none
place_from k t (x ∷ xs) = cond (same_tag x t) (some k) (place_from (k + 1) t xs)

-- A key is a tag's: from that tag's first key on, and below the next tag's.
abbrev pub is_key_of : CountryTag → ℕ → Bool
is_key_of t key = leb (tag_key t 0) key && ltb key (tag_key t 0 + keys_per_tag)

-- The number of the first of the keys that is a given tag's.
unfoldable pub place_in : List ℕ → CountryTag → Option ℕ
place_in keys t = map (λ key. key % keys_per_tag) (first_that (is_key_of t) keys)
