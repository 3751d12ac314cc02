-- The listed nations in the order of the keys of initials, as they are read from cells. Inner definitions: they are how the nations are
-- computed.
use Rattle.std.specs.Prelude as code
use Rattle.std.specs.Prelude.{Some, None, Bool, false, cond, ◌&&◌, ◌||◌, List, [], ◌∷◌, ℕ, suc, ◌+◌, ◌-◌, ◌*◌, ltb, eqb, get_or, take, drop}
use Rattle.std.proofs.Math.Option.{Option, none, some}
use Rattle.lists.specs.Lists.{join_of}
use Rattle.format.specs.declared.values.Entry.{Entry}
use Rattle.rules.specs.Chronicle.{Nation}
use Rattle.nation_tables.specs.Layout.{key_rows, no_change}
use Rattle.nation_tables.specs.Keys.{word_in}
use Rattle.nation_tables.specs.Lookup.{row_in, last_within}
use Rattle.nation_tables.specs.Turning.{Lived}
use Rattle.nation_tables.specs.Holders.{no_tag}
use Rattle.nation_tables.specs.Switches.{run_start}
use Rattle.nation_tables.specs.Gathering.{Cells}
use Rattle.nations.specs.declared.tables.NationTables.{NationTables}
use Rattle.nations.specs.declared.listed_nations.ListedNation.{ListedNation}
use Rattle.nations.specs.declared.listed_nations.ListedNations.{ListedNations}
use Rattle.nations.specs.Walks.{Walk, lived_left, first_lives}
use Rattle.nations.specs.CountryEntries.{merged_entries, latest_tag, entries_left}
use Rattle.nations.specs.Reading.{cells_in}

-- ## The nation of a key

-- The walk over the lives of a row's country.
abbrev pub walk_of : Cells → ℕ → Walk
walk_of w row = first_lives w.losses w.gains row (get_or w.started row 0)

-- What it tells.
abbrev pub lived_of : Cells → ℕ → Lived
lived_of w row = lived_left w.start w.keys w.olds w.news (walk_of w row)

-- The keys of the row's switches.
abbrev pub run_of : List ℕ → ℕ → List ℕ
run_of runs row = take (run_start (suc row) runs - run_start row runs) (drop (run_start row runs) runs)

-- The row's entries.
abbrev pub row_entries : Cells → ℕ → List Entry
row_entries w row = merged_entries w.targets (run_of w.runs row) (lived_of w row).entries

-- The row that is found is this one.
abbrev pub is_row : Option ℕ → ℕ → Bool
is_row none row = false
is_row (some found) row = eqb found row

-- Of a key of an initial: it is the last one with that initial, and the walk holds a slot now or gains one later.
abbrev pub is_listed : List ℕ → ℕ → Walk → Bool
is_listed initials key walk =
    is_row (last_within (word_in key * key_rows) (word_in key * key_rows + key_rows) initials) (row_in key)
    && (ltb 0 walk.held || ltb walk.gain no_change)

-- The nation of a key.
abbrev pub nation_of_key : Cells → ℕ → Nation
nation_of_key w key =
    record {
      initial = record { 0 = word_in key };
      latest = latest_tag w.targets (run_of w.runs (row_in key)) (record { 0 = word_in key });
      stored = get_or w.tags (row_in key) no_tag;
      entries = row_entries w (row_in key);
    }

-- It, if it is listed.
unfoldable pub key_nations : Cells → ℕ → List Nation
key_nations w key = cond (is_listed w.initials key (walk_of w (row_in key))) (nation_of_key w key ∷ []) []

-- The nations of keys, in their order.
abbrev pub nations_at : Cells → List ℕ → List Nation
nations_at w keys = join_of (key_nations w) keys

-- Those of tables.
abbrev pub nations_in : NationTables → List Nation
nations_in t = nations_at (cells_in t) t.initial_keys.keys.now

-- ## From key to key

-- A listed nation.
abbrev pub listed_in : ListedNation → Nation
listed_in l = record { initial = l.initial; latest = l.latest; stored = l.stored; entries = entries_left l.entries }

-- It, if there is one.
abbrev pub nation_listed : code.Option ListedNation → List Nation
nation_listed (Some l) = listed_in l ∷ []
nation_listed None = []

-- The nations that the iterator has left.
abbrev pub listed_left : ListedNations → List Nation
listed_left it = nations_at (cells_in it.tables.now) it.keys.now
