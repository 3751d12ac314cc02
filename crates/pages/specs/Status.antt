-- A nation's status along its entries: inner steps, which no public call's promise cites.
use Rattle.std.specs.Prelude.{Bool, true, false, List, [], ◌∷◌, ℕ}
use Rattle.format.specs.declared.values.EntryKind.{EntryKind}
use Rattle.format.specs.declared.values.Entry.{Entry}
use Rattle.format.specs.declared.values.NationRow.{NationRow}
use Rattle.format.specs.declared.values.EntryKind.TheVariants.{TagSwitch, Appeared, Annexed}
use Rattle.rules.specs.Chronicle.{Nation}
use Rattle.rows.specs.RowAt.{entries_at}

-- Living or not behind an entry.
abbrev pub lives_on : Bool → EntryKind → Bool
lives_on living (TagSwitch t) = living
lives_on living Appeared = true
lives_on living Annexed = false

-- Behind all entries, from what it was before them.
abbrev pub lives_along : Bool → List Entry → Bool
lives_along living [] = living
lives_along living (e ∷ es) = lives_along (lives_on living e.kind) es

-- The nation of a row, with the entries that the row points at.
abbrev pub nation_with : List ℕ → NationRow → Nation
nation_with es r = record { initial = r.initial; latest = r.latest; stored = r.stored; entries = entries_at es r.first r.count }
