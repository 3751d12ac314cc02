-- A country's switches by date, merged with its lives. Inner definitions: they are how the nations are computed.
use Rattle.std.specs.Prelude.{Option, Some, None, List, [], ◌∷◌, map, ℕ}
use Rattle.lists.specs.Lists.{join_of, last_or}
use Rattle.sorting.specs.Steps.{merge_by}
use Rattle.format.specs.declared.tag.CountryTag.{CountryTag}
use Rattle.format.specs.declared.values.Entry.{Entry}
use Rattle.nations.specs.declared.country_entries.Entries.{Entries}
use Rattle.rules.specs.Nations.{targets}
use Rattle.rules.specs.NationRows.{entry_row, entry_row_words}
use Rattle.nation_tables.specs.Turning.{by_date}
use Rattle.nation_tables.specs.Switches.{switch_in}
use Rattle.nations.specs.CountryLives.{lives_left}

-- The entries of a run of keys, merged with others: at a tie the switch comes first.
abbrev pub merged_entries : List ℕ → List ℕ → List Entry → List Entry
merged_entries words run lives = merge_by by_date (map (switch_in words) run) lives

-- The lives that are left, of which the first was told, if there is one.
abbrev pub lives_told : Option Entry → List Entry → List Entry
lives_told (Some life) lives = life ∷ lives
lives_told None lives = []

-- The entries that the iterator has left.
abbrev pub entries_left : Entries → List Entry
entries_left e = merged_entries e.targets.now e.run.now (lives_told e.life (lives_left e.lives))

-- The words of entries, row behind row.
abbrev pub entries_words : List Entry → List ℕ
entries_words es = join_of (λ e. entry_row_words (entry_row e)) es

-- The target of the last key of a run, or the given tag.
abbrev pub latest_tag : List ℕ → List ℕ → CountryTag → CountryTag
latest_tag words run initial = last_or initial (targets (map (switch_in words) run))
