-- Rules 8: the starting country (`starting_country`), read from history rows and the nations that they point at.
use Rattle.std.specs.Prelude.{Bool, not, List, [], ◌∷◌, ℕ, zero, suc}
use Rattle.std.proofs.Math.Option.{Option, none, some}
use Rattle.std.proofs.Math.ListN.{get_elem?}
use Rattle.lists.specs.Lists.{keep, any_of}
use Rattle.format.specs.declared.tag.CountryTag.{CountryTag}
use Rattle.format.specs.declared.values.Entry.{Entry}
use Rattle.format.specs.declared.values.HistoryRow.{HistoryRow}
use Rattle.rules.specs.Chronicle.{is_appeared, Nation}

-- A nation's entries; no nation has none. (Rules 8.14)
abbrev pub nation_entries : Option Nation → List Entry
nation_entries none = []
nation_entries (some n) = n.entries

-- The entries of a history: those of its nation, by the fourth word; a bare one has none. (Rules 8.14)
abbrev pub history_entries : List Nation → ℕ → List Entry
history_entries ns zero = []
history_entries ns (suc number) = nation_entries (get_elem? ns number)

-- A history lacks Appeared. (Rules 8.14)
abbrev pub lacks_appeared : List Nation → HistoryRow → Bool
lacks_appeared ns r = not (any_of (λ e. is_appeared e.kind) (history_entries ns r.nation))

-- Given are the histories that lack Appeared, and all. A single one lacking it tells its initial; where none lacks it, a history that is
-- alone does. In any other case there is no answer. (Rules 8.14)
unfoldable pub starting_of : List HistoryRow → List HistoryRow → Option CountryTag
starting_of [] [] = none
starting_of [] (r ∷ []) = some r.initial
starting_of [] (r ∷ q ∷ rs) = none
starting_of (r ∷ []) all = some r.initial
starting_of (r ∷ q ∷ rs) all = none

-- The starting country of history rows, by a list of nations. (Rules 8.14)
unfoldable pub starting_country : List Nation → List HistoryRow → Option CountryTag
starting_country ns rs = starting_of (keep (lacks_appeared ns) rs) rs
