-- How an answer of the resolver comes back from a C function: the number of words written, and the lent slice with them in it.
use Rattle.std.specs.Prelude.{List, [], ◌∷◌, ℕ}
use Rattle.std.proofs.Math.Option.{Option}
use Rattle.rules.specs.Lent.{Answer, Outcome}
use Rattle.format.specs.declared.values.TagData.{TagData}
use Rattle.page.specs.Host.{found_cells}

-- Two words: the tag, and the tag it is stored under.
abbrev pub data_words : TagData → List ℕ
data_words d = d.current.0 ∷ d.stored.0 ∷ []

-- What is found, in two cells.
abbrev pub data_cells : Answer (Option TagData) → List ℕ → Outcome ℕ (List ℕ)
data_cells = found_cells data_words
