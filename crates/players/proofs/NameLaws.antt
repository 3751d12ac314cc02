-- The names of a tag's players: their keys stand together among the sorted ones, by rising name.
use mathlib.Core.Path.{◌≡◌, ap, ◌∙◌}
use mathlib.Core.Bool.{Bool, true, ◌&&◌}
use mathlib.Core.List.{List, [], ◌∷◌, map}
use mathlib.Core.Option.{Option, none, some}
use Prim.Native.Nat.{ℕ, suc, ◌+◌, ◌*◌, ◌%◌, ◌≤◌, ◌<◌}
use native.Mathlib.Omega.{arith}
use borrow.Author.Tests.{le-leb, lt-ltb, le-ltb, eqb-true, eqb-false, leb-true}
use lib.Dec.{leb, ltb, eqb}
use lib.ListN.{length, take, drop}
use Rattle.lists.specs.Lists.{All, keep, join_of}
use Rattle.lists.proofs.BoolLaws.{cases}
use Rattle.lists.proofs.BoundLaws.{part-within}
use Rattle.lists.proofs.EachLaws.{all-each, order-append}
use Rattle.lists.proofs.ElementLaws.{keep-map, keep_same, map_same, order-keep}
use Rattle.lists.proofs.ListLaws.{InOrder, all_map, all_both, all_append, all_keep, map-then}
use Rattle.sorting.specs.Sort.{sort_by}
use Rattle.sorting.proofs.SortLaws.{Ordered, all-kept, sort-ordered, keep-sort, leb-total, leb-trans, keys-in-order}
use Rattle.format.specs.declared.tag.CountryTag.{CountryTag}
use Rattle.format.specs.Tags.{same_tag, created}
use Rattle.format.specs.Campaign.{Campaign}
use Rattle.format.specs.declared.values.Player.{Player}
use Rattle.rules.specs.Players.{Pair, pairs_from, is_anonymous, tagged_player, player_of, players_of}
use Rattle.rules.specs.Histories.{names_of}
use Rattle.players.specs.TagTables.{player_key}
use Rattle.players.specs.ArrangedDrafts.{name_in}
use Rattle.players.specs.CountryDrafts.{keys_before, run_length}
use Rattle.search.specs.Places.{keys_per_tag}

-- ## Names rise

abbrev Rising : ℕ → ℕ → List Player → Type 0
Rising n end ps = All (λ p. (n ≤ p.name) × (p.name < end)) ps × InOrder (λ (p : Player). p.name) ps

player-rising : (multiplayer : Bool) (p : Pair) → Rising p.number (p.number + 1) (player_of multiplayer p)
unfolding player_of
player-rising multiplayer p = cases (is_anonymous multiplayer p) (λ h. simp h (tt, tt)) (λ h. simp h (go (created p.text)))
  where
    go : (t : Option CountryTag) → Rising p.number (p.number + 1) (tagged_player p.number t)
    go none = (tt, tt)
    go (some t) = (((omega arith, omega arith), tt), (tt, tt))

pairs-rising : (multiplayer : Bool) (n : ℕ) (ss : List (List ℕ)) → Rising n (n + length ss) (join_of (player_of multiplayer) (pairs_from n ss))
unfolding pairs_from
pairs-rising multiplayer n [] = (tt, tt)
pairs-rising multiplayer n (a ∷ []) = (tt, tt)
pairs-rising multiplayer n (a ∷ b ∷ ss) =
    let p : Pair = record { number = n; name = a; text = b } in
    let one = player-rising multiplayer p in
    let rest = pairs-rising multiplayer (n + 2) ss in
    let left : List Player = player_of multiplayer p in
    let right : List Player = join_of (player_of multiplayer) (pairs_from (n + 2) ss) in (
      all_append (λ q. (n ≤ q.name) × (q.name < n + suc (suc (length ss)))) left right
          (all_map (λ q h. (h.0, omega (arith, h.1))) left one.0)
          (all_map (λ q h. (omega (arith, h.0), omega (arith, h.1))) right rest.0),
      order-append (λ q. q.name) n left right (all_map (λ q h. omega (arith, h.1)) left one.0) (all_map (λ q h. omega (arith, h.0)) right rest.0) one.1 rest.1,
    )

pub players-rising : (c : Campaign) → length c.strings ≤ 1000 → Rising 0 keys_per_tag (players_of c)
unfolding players_of
players-rising c few =
    let r = pairs-rising c.multiplayer 0 c.strings in
    (all_map (λ q h. (omega arith, omega (arith, h.1))) (players_of c) r.0, r.1)

-- ## The keys of one tag

own_key : (a b m : ℕ) → m < keys_per_tag → (leb (b * keys_per_tag) (a * keys_per_tag + m) && ltb (a * keys_per_tag + m) (b * keys_per_tag + keys_per_tag)) ≡ eqb a b
own_key a b m h =
    cases (eqb a b)
    (λ e. let q = eqb-true a b e in simp (e, le-leb (b * keys_per_tag) (a * keys_per_tag + m) (omega arith), lt-ltb (a * keys_per_tag + m) (b * keys_per_tag + keys_per_tag) (omega arith)))
    (λ e. cases (leb (b * keys_per_tag) (a * keys_per_tag + m))
    (λ l. let up = leb-true (b * keys_per_tag) (a * keys_per_tag + m) l in
    let apart = eqb-false a b e in
    let past : b * keys_per_tag + keys_per_tag ≤ a * keys_per_tag + m = omega arith in
    simp (e, l, le-ltb (a * keys_per_tag + m) (b * keys_per_tag + keys_per_tag) past))
    (λ l. simp (e, l)))

module _ (ps : List Player) (tag : CountryTag) (rising : Rising 0 keys_per_tag ps) where
  abbrev own : List Player
  own = keep (λ p. same_tag p.tag tag) ps

  abbrev is_own : ℕ → Bool
  is_own k = leb (tag.0 * keys_per_tag) k && ltb k (tag.0 * keys_per_tag + keys_per_tag)

  keys-own : keep is_own (map player_key ps) ≡ map player_key own
  keys-own =
      keep-map is_own player_key ps
      ∙ ap (map player_key) (keep_same (λ p. is_own (player_key p)) (λ p. same_tag p.tag tag) ps (all-each (λ p. own_key p.tag.0 tag.0 (p.name % keys_per_tag) (omega arith)) ps))

  ordered : (qs : List Player) → All (λ q. (same_tag q.tag tag ≡ true) × (q.name < keys_per_tag)) qs → InOrder (λ (q : Player). q.name) qs → Ordered leb (map player_key qs)
  ordered [] a o = tt
  ordered (q ∷ qs) a o =
      (go qs a.1 o.0, ordered qs a.1 o.1)
    where
      go : (rs : List Player) → All (λ r. (same_tag r.tag tag ≡ true) × (r.name < keys_per_tag)) rs → All (λ r. q.name ≤ r.name) rs → All (λ k. leb (player_key q) k ≡ true) (map player_key rs)
      go [] b l = tt
      go (r ∷ rs) b l =
          let x = eqb-true q.tag.0 tag.0 a.0.0 in
          let y = eqb-true r.tag.0 tag.0 b.0.0 in
          let m : q.name % keys_per_tag ≡ q.name = omega (arith, a.0.1) in
          let n : r.name % keys_per_tag ≡ r.name = omega (arith, b.0.1) in
          (le-leb (player_key q) (player_key r) (rw (m, n, x, y) (omega (arith, l.0))), go rs b.1 l.1)

  pub names-told : map name_in (take (run_length (sort_by leb (map player_key ps)) tag) (drop (keys_before (sort_by leb (map player_key ps)) tag) (sort_by leb (map player_key ps)))) ≡ names_of ps tag
  unfolding names_of
  names-told =
      let keys : List ℕ = sort_by leb (map player_key ps) in
      let small = all_map (λ q h. h.1) ps rising.0 in
      let each = all_both (λ q. same_tag q.tag tag ≡ true) (λ q. q.name < keys_per_tag) own (all-kept (λ p. same_tag p.tag tag) ps) (all_keep (λ q. q.name < keys_per_tag) (λ p. same_tag p.tag tag) ps small) in
      let sorted : sort_by leb (map player_key own) ≡ map player_key own = sort-ordered leb (map player_key own) (ordered own each (order-keep (λ q. q.name) (λ p. same_tag p.tag tag) ps rising.1)) in
      ap (map name_in)
      (part-within (tag.0 * keys_per_tag) (tag.0 * keys_per_tag + keys_per_tag) (omega arith) keys (keys-in-order (map player_key ps))
      ∙ keep-sort leb leb-total leb-trans is_own (map player_key ps)
      ∙ ap (sort_by leb) keys-own
      ∙ sorted)
      ∙ map-then player_key name_in own
      ∙ map_same (λ q. name_in (player_key q)) (λ q. q.name) own (all_map (λ q h. omega (arith, h.1)) own each)
