-- How many rows there are: a row that owns others is one row of its section: what it owns does not change how many there are. All of them together own no
-- more than the section has that they share.
use mathlib.Core.Path.{◌≡◌, refl, ap}
use mathlib.Core.List.{List, [], ◌∷◌, ◌++◌}
use Prim.Native.Nat.{ℕ, zero, suc, ◌+◌, ◌<◌, ◌≤◌}
use native.Mathlib.Omega.{arith}
use native.Mathlib.Decide.{dec_le}
use borrow.Author.Tests.{le-leb, lt-leb}
use lib.ListN.{length, take, drop, length-append, length-take, length-drop}
use Rattle.lists.specs.Lists.{join_of}
use Rattle.format.specs.declared.tag.CountryTag.{CountryTag}
use Rattle.format.specs.declared.rows.Switch.{Switch}
use Rattle.format.specs.declared.rows.OwnerEvent.{OwnerEvent}
use Rattle.format.specs.declared.rows.WarEvent.{WarEvent}
use Rattle.format.specs.declared.rows.Point.{Point}
use Rattle.format.specs.Bytes.{byte_at}
use Rattle.format.specs.Rows.{PackedCountry, PackedProvince, PackedLedger, strings_from}
use Rattle.format.specs.Campaign.{group_countries, group_provinces, group_wars, group_ledgers}

-- ## How many strings are left

module _ (xs : List ℕ) where
  pub strings-counted : (at n : ℕ) → length (strings_from xs at n) ≤ n
  unfolding strings_from
  strings-counted at zero = omega arith
  strings-counted at (suc n) =
      elim (dec_le (at + 1 + byte_at xs at) (length xs)) as (λ _. length (strings_from xs at (suc n)) ≤ suc n) [
        | yes h ↦ simp (le-leb _ _ h) (omega (arith, strings-counted (at + 1 + byte_at xs at) n))
        | no h ↦ let past : length xs < at + 1 + byte_at xs at = omega arith in simp (lt-leb _ _ past) (omega arith)
      ]

-- ## Rows with what they own

pub countries-length : (rs : List PackedCountry) (ps : List CountryTag) (ss : List Switch) → length (group_countries rs ps ss) ≡ length rs
unfolding group_countries
countries-length [] ps ss = refl
countries-length (r ∷ rs) ps ss = ap suc (countries-length rs (drop r.previous ps) (drop r.switches ss))

pub provinces-length : (rs : List PackedProvince) (es : List OwnerEvent) → length (group_provinces rs es) ≡ length rs
unfolding group_provinces
provinces-length [] es = refl
provinces-length (r ∷ rs) es = ap suc (provinces-length rs (drop r.events es))

pub wars-length : (ns : List ℕ) (es : List WarEvent) → length (group_wars ns es) ≡ length ns
unfolding group_wars
wars-length [] es = refl
wars-length (n ∷ ns) es = ap suc (wars-length ns (drop n es))

pub ledgers-length : (rs : List PackedLedger) (ps : List Point) → length (group_ledgers rs ps) ≡ length rs
unfolding group_ledgers
ledgers-length [] ps = refl
ledgers-length (r ∷ rs) ps = ap suc (ledgers-length rs (drop r.points ps))

-- ## What they own together

-- One takes n of them, and the others share those behind.
shared : {A : Type 0} (n : ℕ) (all rest : List A) → length rest ≤ length (drop n all) → length (take n all ++ rest) ≤ length all
shared n all rest h = omega (arith, length-append (take n all) rest, length-take n all, length-drop n all)

pub previous-owned : (rs : List PackedCountry) (ps : List CountryTag) (ss : List Switch) → length (join_of (λ k. k.previous) (group_countries rs ps ss)) ≤ length ps
unfolding group_countries
previous-owned [] ps ss = omega arith
previous-owned (r ∷ rs) ps ss = shared r.previous ps _ (previous-owned rs (drop r.previous ps) (drop r.switches ss))

pub switches-owned : (rs : List PackedCountry) (ps : List CountryTag) (ss : List Switch) → length (join_of (λ k. k.switches) (group_countries rs ps ss)) ≤ length ss
unfolding group_countries
switches-owned [] ps ss = omega arith
switches-owned (r ∷ rs) ps ss = shared r.switches ss _ (switches-owned rs (drop r.previous ps) (drop r.switches ss))

pub events-owned : (rs : List PackedProvince) (es : List OwnerEvent) → length (join_of (λ p. p.events) (group_provinces rs es)) ≤ length es
unfolding group_provinces
events-owned [] es = omega arith
events-owned (r ∷ rs) es = shared r.events es _ (events-owned rs (drop r.events es))

pub war-events-owned : (ns : List ℕ) (es : List WarEvent) → length (join_of (λ es. es) (group_wars ns es)) ≤ length es
unfolding group_wars
war-events-owned [] es = omega arith
war-events-owned (n ∷ ns) es = shared n es _ (war-events-owned ns (drop n es))

pub points-owned : (rs : List PackedLedger) (ps : List Point) → length (join_of (λ l. l.points) (group_ledgers rs ps)) ≤ length ps
unfolding group_ledgers
points-owned [] ps = omega arith
points-owned (r ∷ rs) ps = shared r.points ps _ (points-owned rs (drop r.points ps))
