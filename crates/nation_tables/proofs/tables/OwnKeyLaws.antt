-- The walk that writes the keys of all switches and of all countries, country by country.
use mathlib.Core.Path.{◌≡◌, refl, sym, ap, ap₂, subst, ◌∙◌}
use mathlib.Core.List.{List, [], ◌∷◌, ◌++◌, map, append_assoc}
use Prim.Native.Nat.{ℕ, suc, ◌+◌, ◌≤◌, ◌<◌}
use native.Mathlib.Numerals.{add-one}
use native.Mathlib.Omega.{arith}
use lib.ListN.{length, set, length-append, length-map}
use Rattle.lists.specs.Lists.{All}
use Rattle.lists.proofs.ListLaws.{map-append}
use Rattle.lists.proofs.EachLaws.{all-parts}
use Rattle.lists.proofs.FillLaws.{Filling, filling-more, filling-put, filling-room}
use Rattle.format.specs.Campaign.{Country}
use Rattle.nation_tables.specs.Layout.{key_rows, key_tags, last_date}
use Rattle.nation_tables.specs.Keys.{settling_key}
use Rattle.nation_tables.specs.Countries.{switch_keys_from, settling_keys_from, own_switch, with_own, Keyed, Filled, FilledFrom}
use Rattle.nation_tables.specs.Switches.{PlacedSwitch, placed, own_placed, all_placed, from_key, FromFits}
use Rattle.nation_tables.proofs.tables.PlacedLaws.{Keying, keying-start, keying-done, own-append, length-own, from-keys, from-fits}

-- As many keys as switches and countries.
pub settling-count : (row : ℕ) (ks : List Country) → length (settling_keys_from row ks) ≡ length (switch_keys_from row ks) + length ks
unfolding switch_keys_from
settling-count row [] = refl
settling-count row (k ∷ ks) =
    let a = length-append (map (λ x. settling_key x.from.0 x.date.0 row) (k.switches ++ (own_switch k ∷ []))) (settling_keys_from (suc row) ks) in
    let b = length-map (k.switches ++ (own_switch k ∷ [])) (λ x. settling_key x.from.0 x.date.0 row) in
    let c = length-append k.switches (own_switch k ∷ []) in
    let d = length-append (map (λ x. settling_key x.from.0 x.date.0 row) k.switches) (switch_keys_from (suc row) ks) in
    let e = length-map k.switches (λ x. settling_key x.from.0 x.date.0 row) in
    let rest = settling-count (suc row) ks in
    omega arith

-- The countries that are left, from a row on, still have to give their keys, from k on.
pub record SettlingWalk (all left : List Country) (before : List ℕ) (row k : ℕ) (now : List ℕ) : Type 0 where
  pub walk : Keying from_key FromFits (map with_own all) (map with_own left) before row k now

module _ (all : List Country) (before : List ℕ) (keyed : Keyed (map with_own all)) (room : length (settling_keys_from 0 all) ≤ length before) where
  pub settling-start : SettlingWalk all all before 0 0 before
  settling-start =
      let same = ap length (from-keys 0 0 (map with_own all)) ∙ length-map (all_placed 0 0 (map with_own all)) from_key in
      record { walk = keying-start from_key FromFits (map with_own all) before keyed.few (omega (arith, same)) (from-fits (map with_own all) keyed) }

module _ (all left : List Country) (before : List ℕ) (row k : ℕ) (now : List ℕ) (q : SettlingWalk all left before row k now) where
  module _ (x : Country) (rest : List Country) (e : left ≡ x ∷ rest) where
    abbrev own : List PlacedSwitch
    own = own_placed row k x.switches

    abbrev last : PlacedSwitch
    last = placed row (k + length x.switches) (own_switch x)

    abbrev others : List PlacedSwitch
    others = all_placed (suc row) (suc (k + length x.switches)) (map with_own rest)

    -- What is left are the next country's switches, its own key and those of the others.
    placed-split : all_placed row k (map with_own left) ≡ own ++ (last ∷ others)
    unfolding all_placed
    placed-split =
        let next : k + length (x.switches ++ (own_switch x ∷ [])) ≡ suc (k + length x.switches) =
        let l = length-append x.switches (own_switch x ∷ []) in omega arith in
        ap (λ (l : List Country). all_placed row k (map with_own l)) e
        ∙ ap₂ ◌++◌ (own-append row k x.switches (own_switch x)) (ap (λ (n : ℕ). all_placed (suc row) n (map with_own rest)) next)
        ∙ append_assoc own (last ∷ []) others

    abbrev keyed : List PlacedSwitch → List ℕ
    keyed l = map from_key l

    keys-split : keyed (all_placed row k (map with_own left)) ≡ keyed own ++ (from_key last ∷ keyed others)
    keys-split = ap keyed placed-split ∙ map-append from_key own (last ∷ others)

    own-size : length (keyed own) ≡ length x.switches
    own-size = length-map own from_key ∙ length-own row k x.switches

    fitting : All FromFits own × All FromFits (last ∷ others)
    fitting = all-parts FromFits own (last ∷ others) (rw placed-split at q.walk.room)

    pub settling-here : (row < key_rows) × (k + length x.switches ≤ length now) × All FromFits own
    settling-here =
        let r = q.walk.rows in
        let f = q.walk.cells.fits in
        let n = q.walk.cells.long in
        let l = length-append (keyed own) (from_key last ∷ keyed others) in
        let c = length-map left with_own in
        (omega (arith, ap length e), omega (arith, ap length keys-split, l, own-size), fitting.0)

    pub settling-tag : x.tag.0 < key_tags
    settling-tag = fitting.1.0

    -- Behind the next country's keys stands its own, then come those of the others.
    module _ (next : ℕ) (after : List ℕ) (w : FilledFrom (keyed own) k next now after) where
      behind : Filling (keyed (all_placed 0 0 (map with_own all))) (from_key last ∷ keyed others) before next after
      behind =
          subst (λ (n : ℕ). Filling (keyed (all_placed 0 0 (map with_own all))) (from_key last ∷ keyed others) before n after) (sym w.behind)
          (filling-more _ _ _ _ _ q.walk.cells (keyed own) (from_key last ∷ keyed others) after keys-split w.filled)

      pub settling-room : next < length after
      settling-room = filling-room _ _ _ _ _ behind _ _ refl

      pub settling-more : (v : ℕ) → v ≡ settling_key x.tag.0 last_date row
          → SettlingWalk all rest before (row + 1) (next + 1) (set after next v)
      settling-more v s =
          let place : next + 1 ≡ suc (k + length x.switches) = omega (arith, w.behind, own-size) in
          let same : others ≡ all_placed (row + 1) (next + 1) (map with_own rest) = rw (place, add-one row) in
          record {
            walk = record {
              cells =
                  subst (λ (l : List PlacedSwitch). Filling (keyed (all_placed 0 0 (map with_own all))) (keyed l) before (next + 1) (set after next v)) same
                  (filling-put _ _ _ _ _ behind _ _ refl v s);
              rows = let r = q.walk.rows in omega (arith, ap length e, length-map left with_own, length-map rest with_own);
              room = subst (λ (l : List PlacedSwitch). All FromFits l) same fitting.1.1;
            };
          }

  pub settling-done : left ≡ [] → Filled (settling_keys_from 0 all) k before now
  settling-done e =
      rw (from-keys 0 0 (map with_own all)) (keying-done from_key FromFits (map with_own all) (map with_own left) before row k now q.walk (ap (map with_own) e))
