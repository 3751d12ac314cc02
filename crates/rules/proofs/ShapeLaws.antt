-- The rows that a sound campaign gives are well shaped, and the tag that a nation wears is a tag.
use mathlib.Core.Path.{◌≡◌, refl}
use mathlib.Core.Bool.{Bool, true, false, cond, ◌&&◌}
use mathlib.Core.List.{List, [], ◌∷◌, ◌++◌, map}
use mathlib.Core.Option.{Option}
use Prim.Native.Nat.{ℕ, ◌+◌, ◌-◌, ◌%◌}
use native.Mathlib.Omega.{arith}
use borrow.Author.Tests.{eq-eqb}
use lib.Dec.{leb, eqb}
use lib.ListN.{length, length-append, length-map}
use Rattle.lists.specs.Lists.{All, keep, all_of, count_of, first_or}
use Rattle.lists.proofs.ListLaws.{all_map, all_append, all_keep, all_get_d, all-last, all_of_map, all_join}
use Rattle.sorting.proofs.SortLaws.{all-sort}
use Rattle.format.specs.declared.tag.CountryTag.{CountryTag}
use Rattle.format.specs.declared.date.Eu4Date.{Eu4Date}
use Rattle.format.specs.declared.rows.Switch.{Switch}
use Rattle.format.specs.Dates.{earlier, not_after}
use Rattle.format.specs.Campaign.{Campaign, Country}
use Rattle.format.specs.Sound.{GoodTag, GoodDate, GoodSwitch, GoodCountry, GoodProvince, Sound}
use Rattle.format.specs.declared.values.EntryKind.{EntryKind}
use Rattle.format.specs.declared.values.Entry.{Entry}
use Rattle.format.specs.declared.values.EntryKind.TheVariants.{TagSwitch, Appeared, Annexed}
use Rattle.rules.specs.Chronicle.{Nation}
use Rattle.rules.specs.Nations.{initial_from, initial_of, last_target, switch_chain, switch_entries, matches, is_mapped, start_holders, turns_from, turns_of, turn_entries, lives_from, lives_of, entries_of, kind_target, targets, nation_of, held_ever, listed_countries, nations_of, Move, moves_of}
use Rattle.rules.specs.Holding.{wears}
use Rattle.rules.specs.NationRows.{nation_rows_from, kind_word, target_word, entry_row, nation_words, entry_words, tags_shaped, kind_shaped, entry_shaped, without_gap, well_shaped, nation_width, entry_width}
use Rattle.rules.proofs.CampaignLaws.{all-changes, all-moves}
use Rattle.rules.proofs.RowLaws.{all_entries, length-nation_words, length-entry_words, nation-rows, entry-rows}

-- ## Entries

-- The kind's target, if it has one, is a tag.
abbrev GoodKind : EntryKind → Type 0
GoodKind (TagSwitch t) = GoodTag t
GoodKind Appeared = Unit {0}
GoodKind Annexed = Unit {0}

pub record GoodEntry (e : Entry) : Type 0 where
  pub date : GoodDate e.date
  pub kind : GoodKind e.kind

pub initial-tag : (ss : List Switch) (ps : List CountryTag) (k : CountryTag) → All GoodSwitch ss → All GoodTag ps → GoodTag k → GoodTag (initial_from ss ps k)
unfolding initial_from
initial-tag [] [] k a b h = h
initial-tag [] (p ∷ ps) k a b h = b.0
initial-tag (s ∷ ss) ps k a b h = a.0.from

from-tag : (end : CountryTag) (ss : List Switch) → GoodTag end → All GoodSwitch ss → GoodTag (first_or end (map (λ x. x.from) ss))
from-tag end [] h q = h
from-tag end (s ∷ ss) h q = q.0.from

chain-good : (end : CountryTag) (ss : List Switch) → GoodTag end → All GoodSwitch ss → All GoodEntry (switch_chain end ss)
unfolding switch_chain
chain-good end [] h q = tt
chain-good end (s ∷ ss) h q = (record { date = q.0.date; kind = from-tag end ss h q.1 }, chain-good end ss h q.1)

turn-good : (start d : Eu4Date) (loses gains : Bool) (n : ℕ) → GoodDate d → All GoodEntry (turn_entries start d loses gains n)
unfolding turn_entries
turn-good start d loses gains n h = go (loses && eqb (n - 1) 0) (gains && eqb (cond loses (n - 1) n) 0 && earlier start d)
  where
    go : (a b : Bool) → All GoodEntry (cond a (record { date = d; kind = Annexed } ∷ []) [] ++ cond b (record { date = d; kind = Appeared } ∷ []) [])
    go true true = (record { date = h; kind = tt }, (record { date = h; kind = tt }, tt))
    go true false = (record { date = h; kind = tt }, tt)
    go false true = (record { date = h; kind = tt }, tt)
    go false false = tt

lives-good : (start : Eu4Date) (t : CountryTag) (ms : List Move) (holders : List (Option CountryTag)) (n : ℕ) → All (λ m. GoodDate m.date) ms
    → All GoodEntry (lives_from start t (turns_from holders ms) n)
unfolding lives_from turns_from
lives-good start t [] holders n q = tt
lives-good start t (m ∷ ms) holders n q =
    all_append GoodEntry (turn_entries start m.date _ _ n) _ (turn-good start m.date _ _ n q.0) (lives-good start t ms _ _ q.1)

pub moves-good : (c : Campaign) → Sound c → All (λ m. GoodDate m.date) (moves_of c)
moves-good c g =
    all-moves c (GoodProvince (length c.provinces)) (λ x. GoodDate x.date) (λ m. GoodDate m.date)
    (λ p q. all-changes (λ x. GoodDate x.date) p.id p.owner p.events (all_map (λ e h from. h.date) p.events q.events))
    (λ x h. h) g.provinces

entries-good : (c : Campaign) (k : Country) → Sound c → GoodCountry k → All GoodEntry (entries_of c k)
unfolding entries_of lives_of turns_of
entries-good c k g h =
    all-sort (λ a b. not_after a.date b.date) GoodEntry (switch_entries k ++ lives_of c k.tag)
    (all_append GoodEntry (switch_entries k) (lives_of c k.tag)
    (chain-good (last_target k) k.switches (all_get_d GoodTag k.previous (length k.switches) k.tag h.previous h.tag) h.switches)
    (lives-good c.start k.tag (moves_of c) (start_holders c) (count_of (matches k.tag) (start_holders c)) (moves-good c g)))

-- ## Nations

targets-good : (es : List Entry) → All GoodEntry es → All GoodTag (targets es)
targets-good es q = all_join GoodTag (λ e. kind_target e.kind) (λ e h. go e.kind h.kind) es q
  where
    go : (k : EntryKind) → GoodKind k → All GoodTag (kind_target k)
    go (TagSwitch t) h = (h, tt)
    go Appeared h = tt
    go Annexed h = tt

pub record GoodNation (n : Nation) : Type 0 where
  pub initial : GoodTag n.initial
  pub latest : GoodTag n.latest
  pub stored : GoodTag n.stored
  pub entries : All GoodEntry n.entries

pub wears-tag : (n : Nation) (day : Eu4Date) → GoodNation n → GoodTag (wears n day)
unfolding wears
wears-tag n day g =
    let es : List Entry = keep (λ e. not_after e.date day) n.entries in
    all-last GoodTag (targets es) n.initial (targets-good es (all_keep GoodEntry (λ e. not_after e.date day) n.entries g.entries)) g.initial

nation-good : (c : Campaign) → Sound c → (k : Country) → GoodCountry k → GoodNation (nation_of c k)
nation-good c g k h =
    let i : GoodTag (initial_of k) = initial-tag k.switches k.previous k.tag h.switches h.previous h.tag in
    let es : All GoodEntry (entries_of c k) = entries-good c k g h in
    record {
      initial = i;
      latest = all-last GoodTag (targets (entries_of c k)) (initial_of k) (targets-good (entries_of c k) es) i;
      stored = h.tag;
      entries = es;
    }

pub nations-good : (c : Campaign) → Sound c → All GoodNation (nations_of c)
unfolding nations_of listed_countries
nations-good c g =
    let listed : Country → Bool = λ k. is_mapped c.countries k && held_ever c k in
    all_of_map GoodNation (nation_of c) (nation-good c g) (listed_countries c)
    (all-sort (λ a b. leb (initial_of a).0 (initial_of b).0) GoodCountry (keep listed c.countries)
    (all_keep GoodCountry listed c.countries g.countries))

-- ## Words

rows-tags : (first : ℕ) (ns : List Nation) → All GoodNation ns → all_of tags_shaped (nation_rows_from first ns) ≡ true
unfolding nation_rows_from
rows-tags first [] q = refl
rows-tags first (n ∷ ns) q =
    simp (q.0.initial, q.0.latest, q.0.stored) (rows-tags (first + length n.entries) ns q.1)

rows-follow : (first end : ℕ) (ns : List Nation) → first + length (all_entries ns) ≡ end → without_gap first (nation_rows_from first ns) end ≡ true
unfolding nation_rows_from without_gap
rows-follow first end [] h = eq-eqb first end (omega arith)
rows-follow first end (n ∷ ns) h =
    simp (eq-eqb first first refl)
    (rows-follow (first + length n.entries) end ns (omega (arith, length-append n.entries (all_entries ns))))

entry-shaped : (e : Entry) → GoodEntry e → entry_shaped (entry_row e) ≡ true
unfolding kind_shaped
entry-shaped e g = simp g.date (go e.kind g.kind)
  where
    go : (k : EntryKind) → GoodKind k → kind_shaped (kind_word k) (target_word k) ≡ true
    go (TagSwitch t) h = h
    go Appeared h = refl
    go Annexed h = refl

entries-shaped : (es : List Entry) → All GoodEntry es → all_of entry_shaped (map entry_row es) ≡ true
entries-shaped [] q = refl
entries-shaped (e ∷ es) q = simp (entry-shaped e q.0) (entries-shaped es q.1)

pub well-shaped : (ns : List Nation) → All GoodNation ns → well_shaped (nation_words ns) (entry_words ns) ≡ true
unfolding well_shaped
well-shaped ns q =
    let a : length (nation_words ns) % nation_width ≡ 0 = omega (arith, length-nation_words ns) in
    let b : length (entry_words ns) % entry_width ≡ 0 = omega (arith, length-entry_words ns) in
    let es : All GoodEntry (all_entries ns) = all_join GoodEntry (λ n. n.entries) (λ n g. g.entries) ns q in
    simp
    (a, b, nation-rows, entry-rows, rows-tags 0 ns q, entries-shaped (all_entries ns) es, length-map)
    (rows-follow 0 (length (all_entries ns)) ns (omega arith))
