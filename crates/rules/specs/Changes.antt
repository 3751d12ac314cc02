-- Rules 3.
use Rattle.std.specs.Prelude.{Bool, cond, ◌&&◌, ◌||◌, List, [], ◌∷◌, ◌++◌, ℕ, leb}
use Rattle.lists.specs.Lists.{count_of, join_of}
use Rattle.sorting.specs.Sort.{sort_by}
use Rattle.format.specs.declared.tag.CountryTag.{CountryTag}
use Rattle.format.specs.declared.date.Eu4Date.{Eu4Date}
use Rattle.format.specs.declared.rows.ProvinceId.{ProvinceId}
use Rattle.format.specs.declared.rows.OwnerEvent.{OwnerEvent}
use Rattle.format.specs.Tags.{same_tag}
use Rattle.format.specs.Dates.{earlier, same_date}
use Rattle.format.specs.Campaign.{Campaign, Province}
use Rattle.format.specs.declared.values.OwnerChange.{OwnerChange}
use Rattle.format.specs.declared.values.DateRun.{DateRun}

-- Walks one slot's events as the record lists them. Where the owner becomes another one that is a change, and the next event is held
-- against the new owner. (Rules 3.2)
unfoldable pub changes_from : ProvinceId → CountryTag → List OwnerEvent → List OwnerChange
changes_from id tag [] = []
changes_from id tag (e ∷ es) =
    cond (same_tag tag e.tag) [] (record { date = e.date; id = id; from = tag; to = e.tag } ∷ [])
    ++ changes_from id e.tag es

-- The changes of a province's slot, which starts as its owner. (Rules 3.2)
abbrev pub province_changes : Province → List OwnerChange
province_changes p = changes_from p.id p.owner p.events

-- By date, then id. (Rules 3.3)
abbrev pub by_date_and_id : OwnerChange → OwnerChange → Bool
by_date_and_id a b = earlier a.date b.date || same_date a.date b.date && leb a.id.0 b.id.0

-- The changes of all provinces, sorted stably: what one province does in one day stays as its events have it. (Rules 3.3)
unfoldable pub changes_of : Campaign → List OwnerChange
changes_of c = sort_by by_date_and_id (join_of province_changes c.provinces)

-- How many changes are dated before a day, and how many on it. (Rules 3.5)
unfoldable pub events_on : List OwnerChange → Eu4Date → DateRun
events_on xs day =
    record { first = count_of (λ x. earlier x.date day) xs; count = count_of (λ x. same_date x.date day) xs }

-- A change row is four words. (Rules 3.4)
abbrev pub change_width : ℕ
change_width = 4

-- Date, id, from, to. (Rules 3.4)
abbrev pub change_words : OwnerChange → List ℕ
change_words x = x.date.0 ∷ x.id.0 ∷ x.from.0 ∷ x.to.0 ∷ []

-- The words of changes, row behind row. (Rules 3.4)
unfoldable pub change_rows : List OwnerChange → List ℕ
change_rows xs = join_of change_words xs
