-- Rules 4: from a campaign to its listed nations and their entries. `---` is a tag like any other
-- (Rules 1.2); a slot held by nobody has no holder at all.
use Rattle.std.specs.Prelude.{Bool, false, cond, ◌&&◌, ◌||◌, List, [], ◌∷◌, ◌++◌, map, ℕ, suc, ◌+◌, ◌-◌, leb, eqb, length, get_or, set}
use Rattle.std.proofs.Math.Option
use Rattle.std.proofs.Math.Option.{Option, none, some}
use Rattle.lists.specs.Lists.{keep, any_of, count_of, join_of, first_or, last_or, last, numbers_from}
use Rattle.sorting.specs.Sort.{sort_by}
use Rattle.format.specs.declared.tag.CountryTag.{CountryTag}
use Rattle.format.specs.declared.date.Eu4Date.{Eu4Date}
use Rattle.format.specs.declared.rows.ProvinceId.{ProvinceId}
use Rattle.format.specs.declared.rows.Switch.{Switch}
use Rattle.format.specs.Tags.{same_tag, NONE}
use Rattle.format.specs.Dates.{earlier, not_after}
use Rattle.format.specs.Campaign.{Campaign, Country}
use Rattle.format.specs.declared.values.OwnerChange.{OwnerChange}
use Rattle.format.specs.declared.values.EntryKind.{EntryKind}
use Rattle.format.specs.declared.values.Entry.{Entry}
use Rattle.format.specs.declared.values.EntryKind.TheVariants.{TagSwitch, Appeared, Annexed}
use Rattle.rules.specs.Chronicle.{Nation}
use Rattle.format.specs.Rows.{same_id}
use Rattle.rules.specs.Changes.{changes_of}

-- ## First tags and switch targets

-- The tag that a country began with: what its first switch left; if it never switched, the first of its previous tags; without those,
-- its own. (Rules 4.1)
unfoldable pub initial_from : List Switch → List CountryTag → CountryTag → CountryTag
initial_from (s ∷ ss) ps k = s.from
initial_from [] (p ∷ ps) k = p
initial_from [] [] k = k

-- A country's initial. (Rules 4.1)
abbrev pub initial_of : Country → CountryTag
initial_of k = initial_from k.switches k.previous k.tag

-- Where the last of n switches led: to the previous tag with n others before it, or to the country's own tag if it has no such. (Rules 4.2)
abbrev pub last_target : Country → CountryTag
last_target k = get_or k.previous (length k.switches) k.tag

-- Each switch led to the tag that the next one left, the last of them to the given tag. (Rules 4.2)
unfoldable pub switch_chain : CountryTag → List Switch → List Entry
switch_chain end [] = []
switch_chain end (s ∷ ss) =
    record { date = s.date; kind = TagSwitch (first_or end (map (λ x. x.from) ss)) } ∷ switch_chain end ss

-- A country's switch entries, in row order. (Rules 4.2)
abbrev pub switch_entries : Country → List Entry
switch_entries k = switch_chain (last_target k) k.switches

-- ## Which country an initial maps to

-- There is a tag, and it is this one. (Rules 4.3)
abbrev pub matches : CountryTag → Option CountryTag → Bool
matches t none = false
matches t (some h) = same_tag h t

-- Whose initial a tag is, if it is any country's: of several, the country in the last row. (Rules 4.3)
unfoldable pub maps_to : List Country → CountryTag → Option CountryTag
maps_to ks t = Option.map (λ k. k.tag) (last (keep (λ k. same_tag (initial_of k) t) ks))

-- A mapped country: its own initial maps to it. (Rules 4.3)
abbrev pub is_mapped : List Country → Country → Bool
is_mapped ks k = matches k.tag (maps_to ks (initial_of k))

-- ## Start slots

-- Slots 0 to P. (Rules 3.1)
unfoldable pub slots_of : Campaign → List ProvinceId
slots_of c = map (λ n. record { 0 = n }) (numbers_from 0 (suc (length c.provinces)))

-- A province's slot starts as its owner, any other as `---`. (Rules 3.1)
unfoldable pub start_tag : Campaign → ProvinceId → CountryTag
start_tag c slot = first_or NONE (map (λ p. p.owner) (keep (λ p. same_id p.id slot) c.provinces))

-- A slot's holder at the start: the country whose initial its tag is, if there is one. (Rules 4.4)
unfoldable pub start_holder : Campaign → ProvinceId → Option CountryTag
start_holder c slot = maps_to c.countries (start_tag c slot)

-- The start holders of slots 0 to P. (Rules 4.4)
unfoldable pub start_holders : Campaign → List (Option CountryTag)
start_holders c = map (start_holder c) (slots_of c)

-- ## Settling

-- A switch and the country that made it. (Rules 4.5)
pub record CountrySwitch : Type 0 where
  pub date : Eu4Date
  pub from : CountryTag
  pub country : CountryTag

-- A country's switches, in row order. (Rules 4.5)
abbrev pub own_switches : Country → List CountrySwitch
own_switches k = map (λ s. record { date = s.date; from = s.from; country = k.tag }) k.switches

-- All switches by date, ties in row order. (Rules 4.5)
unfoldable pub all_switches : List Country → List CountrySwitch
all_switches ks = sort_by (λ a b. not_after a.date b.date) (join_of own_switches ks)

-- Whom a change SETTLES to: the country that next leaves the new owner's tag by a switch, that day or later; if none does, that tag. (Rules 4.5)
unfoldable pub settles : List CountrySwitch → OwnerChange → CountryTag
settles ss x =
    first_or x.to
    (map (λ s. s.country) (keep (λ s. same_tag s.from x.to && not_after x.date s.date) ss))

-- A change settled: until the slot's next change this is its holder. (Rules 4.5)
pub record Move : Type 0 where
  pub date : Eu4Date
  pub slot : ProvinceId
  pub holder : CountryTag

-- The move of a change. (Rules 4.5)
abbrev pub move_of : List CountrySwitch → OwnerChange → Move
move_of ss x = record { date = x.date; slot = x.id; holder = settles ss x }

-- The campaign's changes, settled, in the order of changes. (Rules 4.5)
unfoldable pub moves_of : Campaign → List Move
moves_of c = map (move_of (all_switches c.countries)) (changes_of c)

-- ## Per change

-- What a change does to countries: the slot goes from its old holder, if it has one, to the new. (Rules 4.6)
pub record Turn : Type 0 where
  pub date : Eu4Date
  pub old : Option CountryTag
  pub new : CountryTag

-- The old holder is the slot's holder as the changes before this one left it. (Rules 4.6)
unfoldable pub turns_from : List (Option CountryTag) → List Move → List Turn
turns_from holders [] = []
turns_from holders (m ∷ ms) =
    record { date = m.date; old = get_or holders m.slot.0 none; new = m.holder }
    ∷ turns_from (set holders m.slot.0 (some m.holder)) ms

-- The campaign's turns, from the start holders on. (Rules 4.6)
unfoldable pub turns_of : Campaign → List Turn
turns_of c = turns_from (start_holders c) (moves_of c)

-- For a country that stands at n slots: Annexed when its last one goes, then Appeared when it has none and gets one, past the start day.
-- Who loses a slot stands at one or more, so that n - 1 is a true subtraction. Given are the start, the change's date, whether the
-- country is the old holder, whether it is the new one, and n. (Rules 4.7)
unfoldable pub turn_entries : Eu4Date → Eu4Date → Bool → Bool → ℕ → List Entry
turn_entries start date loses gains n =
    cond (loses && eqb (n - 1) 0) (record { date = date; kind = Annexed } ∷ []) []
    ++ cond (gains && eqb (cond loses (n - 1) n) 0 && earlier start date) (record { date = date; kind = Appeared } ∷ []) []

-- The slots that it stands at after that. (Rules 4.7)
unfoldable pub turn_count : Bool → Bool → ℕ → ℕ
turn_count loses gains n = cond gains (cond loses (n - 1) n + 1) (cond loses (n - 1) n)

-- The Annexed and Appeared of one country, change by change. (Rules 4.7)
unfoldable pub lives_from : Eu4Date → CountryTag → List Turn → ℕ → List Entry
lives_from start t [] n = []
lives_from start t (x ∷ xs) n =
    let loses = matches t x.old in
    let gains = same_tag x.new t in
    turn_entries start x.date loses gains n ++ lives_from start t xs (turn_count loses gains n)

-- The same for the whole campaign: the country begins with its start slots. (Rules 4.7)
unfoldable pub lives_of : Campaign → CountryTag → List Entry
lives_of c t = lives_from c.start t (turns_of c) (count_of (matches t) (start_holders c))

-- ## Entries, latest, and who is listed

-- All entries of a country, sorted stably by date: of one day, its switches by row, then what the changes gave. (Rules 4.8)
unfoldable pub entries_of : Campaign → Country → List Entry
entries_of c k = sort_by (λ a b. not_after a.date b.date) (switch_entries k ++ lives_of c k.tag)

-- A switch's target; the other kinds have none. (Rules 4.10)
abbrev pub kind_target : EntryKind → List CountryTag
kind_target (TagSwitch t) = t ∷ []
kind_target Appeared = []
kind_target Annexed = []

-- The targets of the switches among some entries, in order. (Rules 4.10)
abbrev pub targets : List Entry → List CountryTag
targets es = join_of (λ e. kind_target e.kind) es

-- A country as a nation. Its latest tag is where its last switch by date led; without switches, its initial. (Rules 4.10)
abbrev pub nation_of : Campaign → Country → Nation
nation_of c k =
    record {
      initial = initial_of k;
      latest = last_or (initial_of k) (targets (entries_of c k));
      stored = k.tag;
      entries = entries_of c k;
    }

-- Some slot was the country's, from the start or by a change. (Rules 4.9)
unfoldable pub held_ever : Campaign → Country → Bool
held_ever c k = any_of (matches k.tag) (start_holders c) || any_of (λ m. same_tag m.holder k.tag) (moves_of c)

-- Who is LISTED: the mapped countries that ever had a slot, by the bytes of their initials, which is the order of the words. (Rules 4.9)
unfoldable pub listed_countries : Campaign → List Country
listed_countries c =
    sort_by (λ a b. leb (initial_of a).0 (initial_of b).0)
    (keep (λ k. is_mapped c.countries k && held_ever c k) c.countries)

-- The listed nations, in order. (Rules 4.9)
unfoldable pub nations_of : Campaign → List Nation
nations_of c = map (nation_of c) (listed_countries c)

-- ## As after the last change

-- A slot's holder after some of the changes: the last of them on that slot decides; without one, the start. (Rules 4.15)
unfoldable pub last_holder : Campaign → ProvinceId → List Move → Option CountryTag
last_holder c slot ms =
    last_or (start_holder c slot) (map (λ m. some m.holder) (keep (λ m. same_id m.slot slot) ms))

-- Holder per slot. (Rules 4.15)
unfoldable pub holders_of : Campaign → List (Option CountryTag)
holders_of c = map (λ slot. last_holder c slot (moves_of c)) (slots_of c)

-- Slots held per country row. (Rules 4.15)
unfoldable pub held_of : Campaign → List ℕ
held_of c = map (λ k. count_of (matches k.tag) (holders_of c)) c.countries
