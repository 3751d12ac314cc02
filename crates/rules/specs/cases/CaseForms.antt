-- How the computed cases are written. Nothing here, nor in the pages of cases beside it, is a rule that a reader must believe: these are
-- questions, with the answers that a reader of the rules expects. proofs/CaseLaws shows that the rules give them.
use Rattle.std.specs.Prelude.{◌≡◌, List, [], ◌∷◌, ◌++◌, ℕ, take, drop}
use Prim.Native.String.{String}
use Rattle.lists.specs.Lists.{join_of}
use Rattle.rules.specs.Lent.{gives, refused, Outcome}
use Rattle.rules.specs.cases.Packing.{word}
use Rattle.rules.specs.Table.{sevens}

-- A case: what the rules compute, and what is expected.
pub record Case (A : Type 0) : Type 0 where
  pub computed : A
  pub expected : A

abbrev pub case : {A : Type 0} → A → A → Case A
case computed expected = record { computed = computed; expected = expected }

-- Each case of a list is as expected.
abbrev pub Hold : {A : Type 0} → List (Case A) → Type 0
Hold [] = Unit {0}
Hold (c ∷ cs) = (c.computed ≡ c.expected) × Hold cs

-- A record in version 2: refused by that number, though each of its rows can be read.
abbrev pub second_version : List ℕ → List ℕ
second_version xs = take 3 xs ++ (2 ∷ drop 4 xs)

-- ## Words

-- A change row: date, id, from, to.
abbrev pub change : ℕ → ℕ → String → String → List ℕ
change date id from to = date ∷ id ∷ word from ∷ word to ∷ []

-- A nation row: initial, latest, stored, first entry, entry count.
abbrev pub nation : String → String → String → ℕ → ℕ → List ℕ
nation initial latest stored first count = word initial ∷ word latest ∷ word stored ∷ first ∷ count ∷ []

-- Entry rows: a switch to a tag, Appeared, Annexed.
abbrev pub turned : ℕ → String → List ℕ
turned date target = date ∷ 0 ∷ word target ∷ []

abbrev pub came : ℕ → List ℕ
came date = date ∷ 1 ∷ 0 ∷ []

abbrev pub went : ℕ → List ℕ
went date = date ∷ 2 ∷ 0 ∷ []

-- Rows, one behind the other.
abbrev pub rows : List (List ℕ) → List ℕ
rows rs = join_of (λ r. r) rs

-- ## Lent memory

-- The call gave a count and wrote rows; behind them so many cells are as they were.
abbrev pub wrote : ℕ → List (List ℕ) → ℕ → Outcome ℕ (List ℕ)
wrote count rs beyond = record { answer = gives count; memory = rows rs ++ sevens beyond }

-- The call refused, and left so many cells as they were.
abbrev pub unwritten : ℕ → ℕ → Outcome ℕ (List ℕ)
unwritten number cells = record { answer = refused number; memory = sevens cells }
