-- What a walk over a country's two chains tells: its lives. Inner definitions: they are how the nations are computed.
use Rattle.std.specs.Prelude.{◌≡◌, Bool, cond, List, [], ◌∷◌, ℕ, suc, ◌+◌, ◌-◌, ◌≤◌, ◌<◌, eqb, length, get_or}
use Rattle.format.specs.declared.date.Eu4Date.{Eu4Date}
use Rattle.format.specs.declared.values.EntryKind.{EntryKind}
use Rattle.format.specs.declared.values.Entry.{Entry}
use Rattle.format.specs.declared.values.EntryKind.TheVariants.{Appeared, Annexed}
use Rattle.rules.specs.Nations.{turn_entries, turn_count}
use Rattle.nation_tables.specs.Layout.{short_span, no_change}
use Rattle.nation_tables.specs.Turning.{key_date, Lived, before}

-- A walk over a country's two chains: the next change at which it loses a slot, the next at which it gains one, and the slots that it holds.
pub record Walk : Type 0 where
  pub lose : ℕ
  pub gain : ℕ
  pub held : ℕ

-- The walk at change number k: what it loses there, it loses first.
abbrev pub past_change : List ℕ → List ℕ → ℕ → Walk → Walk
past_change olds news k c =
    record {
      lose = cond (eqb c.lose k) (get_or olds k 0) c.lose;
      gain = cond (eqb c.gain k) (get_or news k 0) c.gain;
      held = turn_count (eqb c.lose k) (eqb c.gain k) c.held;
    }

-- What a walk still tells, of changes that have these keys and are numbered from k on.
unfoldable pub lived_from : Eu4Date → List ℕ → List ℕ → ℕ → List ℕ → Walk → Lived
lived_from start olds news k [] c = record { entries = []; held = c.held }
lived_from start olds news k (x ∷ xs) c =
    before (turn_entries start (key_date x) (eqb c.lose k) (eqb c.gain k) c.held)
    (lived_from start olds news (suc k) xs (past_change olds news k c))

-- Of all changes.
abbrev pub lived_left : Eu4Date → List ℕ → List ℕ → List ℕ → Walk → Lived
lived_left start keys olds news c = lived_from start olds news 0 keys c

-- The entry that a walk tells: Annexed or Appeared.
abbrev pub life_kind : Bool → EntryKind
life_kind falls = cond falls Annexed Appeared

abbrev pub life_entry : Eu4Date → Bool → Entry
life_entry date falls = record { date = date; kind = life_kind falls }

-- What a walk asks of the changes: a key and two links for each, and that links rise.
pub record Chained (keys olds news : List ℕ) : Type 0 where
  pub few : length keys ≤ no_change
  pub all_olds : length olds ≡ length keys
  pub all_news : length news ≡ length keys
  pub olds_rise : (k : ℕ) → k < length keys → k < get_or olds k 0
  pub news_rise : (k : ℕ) → k < length keys → k < get_or news k 0

-- How many links it may still follow.
abbrev pub ahead : Walk → ℕ
ahead c = (short_span - c.lose) + (short_span - c.gain)

-- The walk of a row from the first change of each of its chains.
abbrev pub first_lives : List ℕ → List ℕ → ℕ → ℕ → Walk
first_lives losses gains row held = record { lose = get_or losses row 0; gain = get_or gains row 0; held = held }
