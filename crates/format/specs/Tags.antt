-- Rules 1: country tags, by the rule of `CountryTag::create`. A tag's word is a×65536 + b×256 + c of its three bytes.
use Rattle.std.specs.Prelude.{Bool, cond, ◌||◌, ◌&&◌, List, ℕ, ◌+◌, ◌*◌, ◌/◌, ◌%◌, eqb, leb, length, get_or}
use Rattle.std.proofs.Math.Option.{Option, none, some}
use Rattle.format.specs.declared.tag.CountryTag.{CountryTag}

-- A tag's byte is an ASCII digit, letter or `-`. (Rules 1.2)
unfoldable pub tag_byte : ℕ → Bool
tag_byte b = leb 48 b && leb b 57 || leb 65 b && leb b 90 || leb 97 b && leb b 122 || eqb b 45

-- The tag of three bytes. (Rules 1.2)
abbrev pub tag_of : ℕ → ℕ → ℕ → CountryTag
tag_of a b c = record { 0 = a * 65536 + b * 256 + c }

-- `---`, a tag like any other. `CountryTag::is_none` ties the constant `CountryTag::NONE` to it: whether a tag is that constant is
-- promised to be whether it is this tag. (Rules 11.2)
abbrev pub NONE : CountryTag
NONE = tag_of 45 45 45

-- A word is a tag's word when its three bytes are tag bytes. (Rules 1.2)
unfoldable pub is_tag : CountryTag → Bool
is_tag t = tag_byte (t.0 / 65536) && tag_byte (t.0 / 256 % 256) && tag_byte (t.0 % 256)

-- Two tags are the same tag when their words are. (Rules 1.2)
abbrev pub same_tag : CountryTag → CountryTag → Bool
same_tag a b = eqb a.0 b.0

-- A word, if it is a tag's. (Rules 1.2)
unfoldable pub tested : CountryTag → Option CountryTag
tested t = cond (is_tag t) (some t) none

-- `CountryTag::create`: exactly three bytes, each a tag byte. What it and `try_from` answer is a tag or none (`ok_of`). Whoever asked knows which
-- number that is: 4 in a record, 11 in a lent row, 12 in a question; of a player's text it is no refusal at all. (Rules 1.2)
unfoldable pub created : List ℕ → Option CountryTag
created s =
    let t = tag_of (get_or s 0 0) (get_or s 1 0) (get_or s 2 0) in
    cond (eqb (length s) 3 && is_tag t) (some t) none

-- A 32-bit word of a row, read as a tag. (Rules 1.2)
abbrev pub tag_of_word : ℕ → Option CountryTag
tag_of_word w = tested (record { 0 = w })
