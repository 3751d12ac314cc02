-- Turns by country rows, and the chain of changes at which a row loses or gains a slot. Inner: these
-- are how the nations are computed.
use Rattle.std.specs.Prelude.{◌≡◌, Bool, cond, List, [], ◌∷◌, ◌++◌, map, ℕ, suc, ◌/◌, ◌<◌, ltb, eqb, length, get_or, set}
use Rattle.std.proofs.Math.Option.{Option, none, some}
use Rattle.format.specs.declared.tag.CountryTag.{CountryTag}
use Rattle.format.specs.declared.date.Eu4Date.{Eu4Date}
use Rattle.format.specs.Dates.{not_after}
use Rattle.format.specs.Campaign.{Campaign}
use Rattle.format.specs.declared.values.Entry.{Entry}
use Rattle.rules.specs.Nations.{Turn, turns_of, turn_entries, turn_count}
use Rattle.owner_changes.specs.ChangeSteps.{per_date}
use Rattle.nation_tables.specs.declared.layout.LossGain as code
use Rattle.nation_tables.specs.Layout.{no_change, no_row}
use Rattle.nation_tables.specs.Countries.{words_of_tags}

-- The number of the first place that holds x, counted from k; `no_change` if none does.
unfoldable pub first_at : ℕ → ℕ → List ℕ → ℕ
first_at x k [] = no_change
first_at x k (y ∷ ys) = cond (eqb y x) k (first_at x (suc k) ys)

-- The order of entries.
abbrev pub by_date : Entry → Entry → Bool
by_date a b = not_after a.date b.date

-- A change's key begins with its date: behind it stand 32 bits (ChangeSteps change_key).
abbrev pub key_date : ℕ → Eu4Date
key_date key = record { 0 = key / per_date }

-- ## Two numbers for each change

-- Of a change these are the row of the old holder and that of the new one, and later the
-- links to the next loss and to the next gain; of a row its first loss and its first gain.
abbrev pub losses : List code.LossGain → List ℕ
losses turns = map (λ x. x.loss) turns

abbrev pub gains : List code.LossGain → List ℕ
gains turns = map (λ x. x.gain) turns

-- ## Turns by rows

-- The tag of a row.
abbrev pub row_tag : Campaign → ℕ → CountryTag
row_tag c r = record { 0 = get_or (words_of_tags c.countries) r 0 }

-- The row of a tag among such words; no row for a tag of no country.
abbrev pub row_among : List ℕ → CountryTag → ℕ
row_among tags t = first_at t.0 0 tags

-- The row of a holder; nobody has none.
abbrev pub holder_row : List ℕ → Option CountryTag → ℕ
holder_row tags none = no_row
holder_row tags (some t) = row_among tags t

-- A turn with rows in place of tags.
pub record RowTurn : Type 0 where
  pub date : Eu4Date
  pub old : ℕ
  pub new : ℕ

abbrev pub row_turn : List ℕ → Turn → RowTurn
row_turn tags x = record { date = x.date; old = holder_row tags x.old; new = row_among tags x.new }

-- The campaign's turns.
unfoldable pub row_turns_of : Campaign → List RowTurn
row_turns_of c = map (row_turn (words_of_tags c.countries)) (turns_of c)

-- Cells that hold turns, in order: a key with the date, the old row and the new row of each.
pub record Rowed (keys olds news : List ℕ) (xs : List RowTurn) : Type 0 where
  pub dates : map key_date keys ≡ map (λ x. x.date) xs
  pub old_rows : olds ≡ map (λ x. x.old) xs
  pub new_rows : news ≡ map (λ x. x.new) xs

-- The Annexed and Appeared of a country, and the slots that it holds in the end.
pub record Lived : Type 0 where
  pub entries : List Entry
  pub held : ℕ

-- With entries before them.
abbrev pub before : List Entry → Lived → Lived
before es l = record { entries = es ++ l.entries; held = l.held }

-- The country of row r, which stands at n slots, turn by turn.
unfoldable pub row_lived : Eu4Date → ℕ → List RowTurn → ℕ → Lived
row_lived start r [] n = record { entries = []; held = n }
row_lived start r (x ∷ xs) n =
    let loses = eqb x.old r in
    let gains = eqb x.new r in
    before (turn_entries start x.date loses gains n) (row_lived start r xs (turn_count loses gains n))

-- ## Chains

-- For each place, numbered from k on, the next one that holds the same number, `no_change` if there is none. A number that is not below m is
-- no row's, and has none.
unfoldable pub links_from : ℕ → ℕ → List ℕ → List ℕ
links_from m k [] = []
links_from m k (x ∷ xs) = cond (ltb x m) (first_at x (suc k) xs) no_change ∷ links_from m (suc k) xs

-- No row has a change yet.
pub record Fresh (heads : List ℕ) : Type 0 where
  pub none : (r : ℕ) → r < length heads → get_or heads r 0 ≡ no_change

-- Each change has become the link to the next change of its row, and each row's head is its first change.
pub record Linked (rows links heads : List ℕ) : Type 0 where
  pub cells : links ≡ links_from (length heads) 0 rows
  pub firsts : (r : ℕ) → r < length heads → get_or heads r 0 ≡ first_at r 0 rows

-- Both chains of the changes, with the first changes of each row.
pub record TurnsLinked (turns links firsts : List code.LossGain) : Type 0 where
  pub loss : Linked (losses turns) (losses links) (losses firsts)
  pub gain : Linked (gains turns) (gains links) (gains firsts)

-- A change becomes its row's first; the answer is the one that was first. A number that is no row's is let be.
pub record Pushed (heads : List ℕ) (row k r : ℕ) (after : List ℕ) : Type 0 where
  pub next : r ≡ cond (ltb row (length heads)) (get_or heads row 0) no_change
  pub cells : after ≡ set heads row k

-- So it is with the first losses, and the first gains stay; and the other way round.
pub record LossPushed (firsts : List code.LossGain) (row k r : ℕ) (after : List code.LossGain) : Type 0 where
  pub loss : Pushed (losses firsts) row k r (losses after)
  pub gain : gains after ≡ gains firsts

pub record GainPushed (firsts : List code.LossGain) (row k r : ℕ) (after : List code.LossGain) : Type 0 where
  pub gain : Pushed (gains firsts) row k r (gains after)
  pub loss : losses after ≡ losses firsts
