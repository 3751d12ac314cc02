-- Rules 5: its four forms, on any list of nations, also with unsorted entries.
use Rattle.std.specs.Prelude.{Bool, false, ◌&&◌, List, map}
use Rattle.std.proofs.Math.Option
use Rattle.std.proofs.Math.Option.{Option, none, some}
use Rattle.lists.specs.Lists.{keep, leading, join_of, last_or, last, or_else, greatest}
use Rattle.format.specs.declared.tag.CountryTag.{CountryTag}
use Rattle.format.specs.declared.date.Eu4Date.{Eu4Date}
use Rattle.format.specs.Tags.{same_tag}
use Rattle.format.specs.Dates.{not_after}
use Rattle.format.specs.declared.values.EntryKind.{EntryKind}
use Rattle.format.specs.declared.values.TagData.{TagData}
use Rattle.format.specs.declared.values.EntryKind.TheVariants.{TagSwitch, Appeared, Annexed}
use Rattle.rules.specs.Chronicle.{Nation}
use Rattle.rules.specs.Nations.{targets}

-- ## The nation that a question finds

-- The kind is a switch to that tag. (Rules 4.18)
abbrev pub is_switch_to : CountryTag → EntryKind → Bool
is_switch_to tag (TagSwitch t) = same_tag t tag
is_switch_to tag Appeared = false
is_switch_to tag Annexed = false

-- A switch to the tag asked for: its date, and whose it is. (Rules 5.2)
pub record Hit : Type 0 where
  pub date : Eu4Date
  pub nation : Nation

-- The switches to a tag up to the date, as they are listed: nation by nation, entry by entry. (Rules 5.2)
abbrev pub own_hits : CountryTag → Eu4Date → Nation → List Hit
own_hits tag date n =
    map (λ e. record { date = e.date; nation = n })
    (keep (λ e. is_switch_to tag e.kind && not_after e.date date) n.entries)

-- Those of all nations. (Rules 5.2)
abbrev pub hits : CountryTag → Eu4Date → List Nation → List Hit
hits tag date ns = join_of (own_hits tag date) ns

-- The last nation with that initial. (Rules 5.3)
abbrev pub initial_nation : List Nation → CountryTag → Option Nation
initial_nation ns tag = last (keep (λ n. same_tag n.initial tag) ns)

-- Who has a tag on a date: of the switches to it so far the latest by date decides, and of several on that day the one listed last. If
-- there was none yet, it is the nation with that initial, the last one listed, if any. (Rules 5.2)
unfoldable pub resolved_nation : List Nation → CountryTag → Eu4Date → Option Nation
resolved_nation ns tag date =
    or_else (Option.map (λ h. h.nation) (greatest (λ h. h.date.0) (hits tag date ns))) (initial_nation ns tag)

-- ## Plain

-- Answer: latest and stored. (Rules 5.4)
abbrev pub plain_data : Nation → TagData
plain_data n = record { current = n.latest; stored = n.stored }

-- Plain resolve of (tag, date). (Rules 5.4)
unfoldable pub resolve : List Nation → CountryTag → Eu4Date → Option TagData
resolve ns tag date = Option.map plain_data (resolved_nation ns tag date)

-- Plain initial skips the switches. (Rules 5.5)
unfoldable pub initial : List Nation → CountryTag → Option TagData
initial ns tag = Option.map plain_data (initial_nation ns tag)

-- ## Set to a day

-- The targets of a nation's switches among its entries up to the first dated later than the day. (Rules 5.6)
abbrev pub walked : Eu4Date → Nation → List CountryTag
walked day n = targets (leading (λ e. not_after e.date day) n.entries)

-- A nation as of the day: it goes by its last switch on that walk, or by its initial if the walk meets none. (Rules 5.7)
abbrev pub day_data : Eu4Date → Nation → TagData
day_data day n = record { current = last_or n.initial (walked day n); stored = n.stored }

-- Resolve of (tag, date), set to a day. (Rules 5.7)
unfoldable pub resolve_on : Eu4Date → List Nation → CountryTag → Eu4Date → Option TagData
resolve_on day ns tag date = Option.map (day_data day) (resolved_nation ns tag date)

-- The same, but none without a switch. (Rules 5.8)
abbrev pub switched_data : Eu4Date → Option Nation → Option TagData
switched_data day none = none
switched_data day (some n) = Option.map (λ t. record { current = t; stored = n.stored }) (last (walked day n))

-- Initial of a tag, set to a day. (Rules 5.8)
unfoldable pub initial_on : Eu4Date → List Nation → CountryTag → Option TagData
initial_on day ns tag = switched_data day (initial_nation ns tag)
