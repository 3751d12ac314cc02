-- Rules 4.7, 8.4 and 9.7 said another way: the lives of a country by its slots alone, the two kinds of history, and the number that digits say.
-- No answer is defined by these: src/readings.rt promises that the definitions come to the same.
use Rattle.std.specs.Prelude.{Bool, cond, ◌&&◌, not, List, [], ◌∷◌, ◌++◌, ℕ, ◌+◌, ◌*◌, ◌-◌, get_or, set}
use Rattle.std.proofs.Math.Option.{Option, none, some}
use Rattle.lists.specs.Lists.{any_of, count_of}
use Rattle.format.specs.declared.tag.CountryTag.{CountryTag}
use Rattle.format.specs.declared.date.Eu4Date.{Eu4Date}
use Rattle.format.specs.Dates.{earlier}
use Rattle.format.specs.Tags.{same_tag}
use Rattle.format.specs.Campaign.{Country}
use Rattle.format.specs.declared.values.EntryKind.{EntryKind}
use Rattle.format.specs.declared.values.Entry.{Entry}
use Rattle.format.specs.declared.values.EntryKind.TheVariants.{Appeared, Annexed}
use Rattle.rules.specs.Chronicle.{Nation}
use Rattle.rules.specs.Nations.{matches, Move}
use Rattle.rules.specs.Histories.{History}

-- ## Lives, by the slots alone

-- How many slots a country holds. (Rules 4.7)
abbrev pub slots_held : CountryTag → List (Option CountryTag) → ℕ
slots_held t holders = count_of (matches t) holders

-- It holds none. (Rules 4.7)
abbrev pub holds_none : CountryTag → List (Option CountryTag) → Bool
holds_none t holders = not (any_of (matches t) holders)

-- The holders once the slot of a move is taken from its holder, and given to nobody yet. (Rules 4.7)
abbrev pub taken : List (Option CountryTag) → Move → List (Option CountryTag)
taken holders m = set holders m.slot.0 none

-- The holders behind the move. (Rules 4.6)
abbrev pub moved : List (Option CountryTag) → Move → List (Option CountryTag)
moved holders m = set holders m.slot.0 (some m.holder)

-- The holders of slots 0 to P behind some moves. (Rules 4.6)
abbrev pub after_moves : List Move → List (Option CountryTag) → List (Option CountryTag)
after_moves [] holders = holders
after_moves (m ∷ ms) holders = after_moves ms (moved holders m)

-- The move takes its slot from this country, or gives it to it. (Rules 4.6)
abbrev pub is_old : CountryTag → List (Option CountryTag) → Move → Bool
is_old t holders m = matches t (get_or holders m.slot.0 none)

abbrev pub is_new : CountryTag → Move → Bool
is_new t m = same_tag m.holder t

-- One entry if it is so, else none.
abbrev pub entry_if : Bool → Eu4Date → EntryKind → List Entry
entry_if so date kind = cond so (record { date = date; kind = kind } ∷ []) []

-- What a move tells of a country: Annexed if the slot was its own and it holds none without it; then Appeared if the slot becomes its own,
-- it held none until then, and the start is past. (Rules 4.7)
abbrev pub move_entries : Eu4Date → CountryTag → List (Option CountryTag) → Move → List Entry
move_entries start t holders m =
    entry_if (is_old t holders m && holds_none t (taken holders m)) m.date Annexed
    ++ entry_if (is_new t m && holds_none t (taken holders m) && earlier start m.date) m.date Appeared

-- Move by move. (Rules 4.7)
unfoldable pub lives_by_slots : Eu4Date → CountryTag → List (Option CountryTag) → List Move → List Entry
lives_by_slots start t holders [] = []
lives_by_slots start t holders (m ∷ ms) = move_entries start t holders m ++ lives_by_slots start t (moved holders m) ms

-- ## Histories

-- A nation is stored under the country's tag. (Rules 8.4)
abbrev pub stored_under : Country → Nation → Bool
stored_under k n = same_tag n.stored k.tag

-- The history of a country as nation i tells it. (Rules 8.4)
abbrev pub told_by : List ℕ → Country → ℕ → Nation → History
told_by names k i n =
    record { country = k; initial = n.initial; latest = n.latest; stored = n.stored; nation = some i; names = names }

-- The bare history of a country. (Rules 8.4)
abbrev pub bare : List ℕ → Country → History
bare names k = record { country = k; initial = k.tag; latest = k.tag; stored = k.tag; nation = none; names = names }

-- ## Decimal

-- The number that digits say, read from the left, behind those that said n. (Rules 9.7)
unfoldable pub said_from : ℕ → List ℕ → ℕ
said_from n [] = n
said_from n (b ∷ bs) = said_from (10 * n + (b - 48)) bs

-- The number that digits say. (Rules 9.7)
abbrev pub number_said : List ℕ → ℕ
number_said bs = said_from 0 bs
