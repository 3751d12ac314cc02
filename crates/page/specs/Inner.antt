-- An inner step. No C function's promise cites it.
use Rattle.std.specs.Prelude.{List, [], ◌∷◌, ℕ, ◌%◌}
use Rattle.format.specs.declared.values.NationCounts.{NationCounts}

-- The lowest 32 bits of a count.
abbrev pub low_word : ℕ → ℕ
low_word count = count % 4294967296

-- The five counts as words, of each its lowest 32 bits: the counts themselves where each fits a word, as those of every record do.
abbrev pub low_counts : NationCounts → List ℕ
low_counts r =
    low_word r.nations
    ∷ low_word r.entries
    ∷ low_word r.slots
    ∷ low_word r.countries
    ∷ low_word r.changes
    ∷ []
