-- How many nations and entries an accepted record can have.
use mathlib.Core.Path.{◌≡◌, refl, sym, ap, ◌∙◌}
use mathlib.Core.Bool.{Bool, ◌&&◌}
use mathlib.Core.List.{List, [], ◌∷◌, ◌++◌, map}
use mathlib.Core.Option.{Option, some}
use Prim.Native.Nat.{ℕ, suc, ◌+◌, ◌*◌, ◌≤◌}
use native.Mathlib.Omega.{arith}
use lib.Dec.{leb}
use lib.ListN.{length, set, length-append, length-map}
use Rattle.lists.specs.Lists.{All, keep, count_of, join_of}
use Rattle.lists.proofs.ElementLaws.{keep-short}
use Rattle.lists.proofs.ListLaws.{all_map, all_keep, join-short}
use Rattle.sorting.proofs.SortLaws.{length-sort, all-sort}
use Rattle.format.specs.declared.tag.CountryTag.{CountryTag}
use Rattle.format.specs.declared.date.Eu4Date.{Eu4Date}
use Rattle.format.specs.Tags.{same_tag}
use Rattle.format.specs.Campaign.{Campaign, Country, campaign_of}
use Rattle.format.specs.RecordNumber.{refusal}
use Rattle.rules.specs.Changes.{changes_of}
use Rattle.rules.specs.Nations.{matches, initial_of, last_target, switch_entries, start_holders, all_switches, move_of, Move, moves_of, Turn, turns_from, turns_of, turn_entries, turn_count, lives_from, lives_of, entries_of, nation_of, is_mapped, held_ever, listed_countries, nations_of}
use Rattle.nation_tables.specs.Layout.{most_countries, most_switches}
use Rattle.nation_tables.specs.Countries.{switch_key, switch_keys_from}
use Rattle.nation_tables.specs.Turning.{by_date}
use Rattle.rules.specs.NationRows.{target_word}
use Rattle.nation_tables.proofs.tables.SwitchLaws.{length-chain}
use Rattle.owner_changes.proofs.ChangeLaws.{changes-few}
use Rattle.nation_tables.proofs.tables.KeyedLaws.{countries-few, switches-few}
use Rattle.nations.proofs.WalkLaws.{turn-short}

-- ## One country

-- A country has at most two lives for each turn.
lives-short : (start : Eu4Date) (t : CountryTag) (xs : List Turn) (n : ℕ) → length (lives_from start t xs n) ≤ 2 * length xs
unfolding lives_from
lives-short start t [] n = omega arith
lives-short start t (x ∷ xs) n =
    let loses : Bool = matches t x.old in
    let gains : Bool = same_tag x.new t in
    omega (
      arith,
      length-append (turn_entries start x.date loses gains n) (lives_from start t xs (turn_count loses gains n)),
      turn-short start x.date loses gains n,
      lives-short start t xs (turn_count loses gains n),
    )

length-turns : (holders : List (Option CountryTag)) (ms : List Move) → length (turns_from holders ms) ≡ length ms
unfolding turns_from
length-turns holders [] = refl
length-turns holders (m ∷ ms) = ap suc (length-turns (set holders m.slot.0 (some m.holder)) ms)

-- A country has its switches, and at most two entries for each change.
all-entries-short : (c : Campaign) (k : Country) → length (entries_of c k) ≤ length k.switches + 2 * length (changes_of c)
unfolding entries_of lives_of turns_of moves_of
all-entries-short c k =
    let n : ℕ = count_of (matches k.tag) (start_holders c) in
    omega (
      arith,
      length-sort by_date (switch_entries k ++ lives_of c k.tag),
      length-append (switch_entries k) (lives_of c k.tag),
      sym (length-map (switch_entries k) (λ e. target_word e.kind)) ∙ length-chain (last_target k) k.switches,
      lives-short c.start k.tag (turns_of c) n,
      length-turns (start_holders c) (moves_of c),
      length-map (changes_of c) (move_of (all_switches c.countries)),
    )

-- ## All of them

-- A country has at most so many entries: one for each of 20,000 switches, and two for each of 60,000 changes. And all 2,000 have so many.
abbrev most_own_entries : ℕ
most_own_entries = 140000

abbrev pub most_entries : ℕ
most_entries = 280000000

own-few : (row : ℕ) (ks : List Country) (bound : ℕ) → length (switch_keys_from row ks) ≤ bound → All (λ k. length k.switches ≤ bound) ks
unfolding switch_keys_from
own-few row [] bound h = tt
own-few row (k ∷ ks) bound h =
    let l = length-append (map (switch_key row) k.switches) (switch_keys_from (suc row) ks) in
    let m = length-map k.switches (switch_key row) in
    (omega arith, own-few (suc row) ks bound (omega arith))

module _ (xs : List ℕ) (z : refusal xs ≡ 0) where
  abbrev c : Campaign
  c = campaign_of xs

  listed-few : length (listed_countries c) ≤ most_countries
  unfolding listed_countries
  listed-few =
      let kept = keep (λ k. is_mapped c.countries k && held_ever c k) c.countries in
      omega (
        arith,
        length-sort (λ (a b : Country). leb (initial_of a).0 (initial_of b).0) kept,
        keep-short (λ k. is_mapped c.countries k && held_ever c k) c.countries,
        countries-few xs z,
      )

  -- At most as many nations as countries.
  pub nations-few : length (nations_of c) ≤ most_countries
  unfolding nations_of
  nations-few = omega (arith, length-map (listed_countries c) (nation_of c), listed-few)

  abbrev FewEntries : Country → Type 0
  FewEntries k = length (nation_of c k).entries ≤ most_own_entries

  listed-short : All FewEntries (listed_countries c)
  unfolding listed_countries
  listed-short =
      let listed : Country → Bool = λ k. is_mapped c.countries k && held_ever c k in
      let all : All FewEntries c.countries =
      all_map {Q = FewEntries} (λ k h. omega (arith, all-entries-short c k, changes-few xs z)) c.countries (own-few 0 c.countries most_switches (switches-few xs z)) in
      all-sort (λ (a b : Country). leb (initial_of a).0 (initial_of b).0) FewEntries (keep listed c.countries) (all_keep FewEntries listed c.countries all)

  pub entries-few : length (join_of (λ n. n.entries) (nations_of c)) ≤ most_entries
  unfolding nations_of
  entries-few =
      let same : join_of (λ n. n.entries) (map (nation_of c) (listed_countries c)) ≡ join_of (λ k. (nation_of c k).entries) (listed_countries c) =
      join-map (λ n. n.entries) (nation_of c) (listed_countries c) in
      let b = join-short (λ k. (nation_of c k).entries) most_own_entries (listed_countries c) listed-short in
      let l = listed-few in
      omega (arith, ap length same)
    where
      join-map : {A B C : Type 0} (f : B → List C) (g : A → B) (ys : List A) → join_of f (map g ys) ≡ join_of (λ y. f (g y)) ys
      join-map f g [] = refl
      join-map f g (y ∷ ys) = ap (λ l. f (g y) ++ l) (join-map f g ys)
