-- A set of numbers, kept as bits of 64-bit words: number k is bit k % 64 of word k / 64.
use Rattle.std.specs.Prelude.{Bool, List, ℕ, ◌/◌, ◌%◌, ◌^◌, eqb, get_or, set}
use Rattle.std.specs.Int.Bits.{bit_or}

-- whether bit j of a word is 1; bit 0 is the lowest
unfoldable pub has_bit : ℕ → ℕ → Bool
has_bit w j = eqb (w / 2 ^ j % 2) 1

-- the word with bit j 1, and its other bits as they are
unfoldable pub with_bit : ℕ → ℕ → ℕ
with_bit w j = bit_or w (2 ^ j)

-- the word that holds number k; past the words it is 0
abbrev pub word_of : List ℕ → ℕ → ℕ
word_of ws k = get_or ws (k / 64) 0

-- whether number k is marked; no number past the words is
unfoldable pub is_marked : List ℕ → ℕ → Bool
is_marked ws k = has_bit (word_of ws k) (k % 64)

-- the words with number k marked; a number past the words changes nothing
unfoldable pub marking : List ℕ → ℕ → List ℕ
marking ws k = set ws (k / 64) (with_bit (word_of ws k) (k % 64))
