-- Rules 8: the histories of the countries that were played (`player_histories`).
use Rattle.std.specs.Prelude.{Bool, false, cond, ◌&&◌, not, List, [], ◌∷◌, ◌++◌, map, ℕ, ◌+◌, ltb, eqb, ℤ, pos, negsuc, length}
use Rattle.std.proofs.Math.Option.{Option, none, some}
use Rattle.lists.specs.Lists.{keep, join_of, last, but_last}
use Rattle.format.specs.declared.tag.CountryTag.{CountryTag}
use Rattle.format.specs.Tags.{same_tag}
use Rattle.format.specs.Campaign.{Campaign, Country}
use Rattle.rules.specs.Chronicle.{Nation}
use Rattle.format.specs.declared.values.Player.{Player}
use Rattle.rules.specs.Players.{players_of}

-- ## One history per played country

-- A HISTORY: the country, the three tags and the number of its nation, if a nation is stored under it, and the string numbers of its
-- players' names. (Rules 8.4)
pub record History : Type 0 where
  pub country : Country
  pub initial : CountryTag
  pub latest : CountryTag
  pub stored : CountryTag
  pub nation : Option ℕ
  pub names : List ℕ

-- Told by the first nation that is stored under the country; without one it is bare, and the country's tag stands for all three. The
-- first of these nations has the given number. (Rules 8.4)
unfoldable pub history_of : List ℕ → Country → ℕ → List Nation → History
history_of names k number [] =
    record { country = k; initial = k.tag; latest = k.tag; stored = k.tag; nation = none; names = names }
history_of names k number (n ∷ ns) =
    cond (same_tag n.stored k.tag)
    (record { country = k; initial = n.initial; latest = n.latest; stored = n.stored; nation = some number; names = names })
    (history_of names k (number + 1) ns)

-- The names of the players of a tag, by string order. (Rules 8.5)
unfoldable pub names_of : List Player → CountryTag → List ℕ
names_of ps tag = map (λ p. p.name) (keep (λ p. same_tag p.tag tag) ps)

-- One history per was_player country, in the order of the country rows. (Rules 8.4)
unfoldable pub played_histories : Campaign → List Nation → List History
played_histories c ns =
    map (λ k. history_of (names_of (players_of c) k.tag) k 0 ns) (keep (λ k. k.was_player) c.countries)

-- ## Their order, and who takes a leftover's initial

-- A history has players; one without is a LEFTOVER. (Rules 8.5)
abbrev pub has_players : History → Bool
has_players h = ltb 0 (length h.names)

-- A signed number above 0. (Rules 8.7)
abbrev pub is_above_zero : ℤ → Bool
is_above_zero (pos n) = ltb 0 n
is_above_zero (negsuc n) = false

-- Played on by its only player after it was released: a human's country that has switched, goes by the tag it is stored under and has a
-- city. (The Rust: released and played as.) (Rules 8.7)
unfoldable pub is_released : History → Bool
is_released h =
    h.country.human
    && eqb (length h.names) 1
    && same_tag h.stored h.latest
    && h.country.has_switched_nation
    && is_above_zero h.country.cities

-- A history with another's initial: that tag alone is taken. (Rules 8.7)
abbrev pub takes_initial : History → History → History
takes_initial h other =
    record {
      country = h.country;
      initial = other.initial;
      latest = h.latest;
      stored = h.stored;
      nation = h.nation;
      names = h.names;
    }

-- The last leftover, if there is any, hands its initial over and is dropped. (Rules 8.7)
abbrev pub takes_leftover : History → List History → Option History → List History
takes_leftover h leftovers none = h ∷ leftovers
takes_leftover h leftovers (some end) = takes_initial h end ∷ but_last leftovers

-- Leftovers stand behind the others. In ironman the only history that has players, if it was released, gets a leftover's initial. (Rules 8.6)
unfoldable pub arranged : Bool → List History → List History → List History
arranged ironman [] leftovers = leftovers
arranged ironman (h ∷ []) leftovers =
    cond (ironman && is_released h) (takes_leftover h leftovers (last leftovers)) (h ∷ leftovers)
arranged ironman (h ∷ g ∷ hs) leftovers = h ∷ g ∷ hs ++ leftovers

-- The histories of a campaign, by a list of nations. (Rules 8.6)
unfoldable pub histories_of : Campaign → List Nation → List History
histories_of c ns =
    let hs = played_histories c ns in
    arranged c.ironman (keep has_players hs) (keep (λ h. not (has_players h)) hs)

-- The names that history rows point into: those of each history in turn, by rising string number. (Rules 8.9)
unfoldable pub names_in : List History → List ℕ
names_in hs = join_of (λ h. h.names) hs
