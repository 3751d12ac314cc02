-- The ledger names as sorted keys, with the place of the points of each.
use Rattle.std.specs.Prelude.{◌≡◌, List, map, ℕ, ◌-◌, ◌≤◌, leb, length, take, drop}
use Rattle.std.proofs.Math.Option
use Rattle.std.proofs.Math.Option.{Option}
use Rattle.lists.specs.Lists.{first_that, join_of}
use Rattle.sorting.specs.Sort.{sort_by}
use Rattle.format.specs.declared.tag.CountryTag.{CountryTag}
use Rattle.format.specs.declared.rows.Point.{Point}
use Rattle.format.specs.Tags.{same_tag}
use Rattle.format.specs.Campaign.{Ledger}
use Rattle.record.specs.declared.ledger.Ledgers.{Ledgers}
use Rattle.record.specs.Cursors.{ledgers_left}
use Rattle.search.specs.Places.{tag_keys_from}
use Rattle.std.specs.declared.ops.Range.{Range}

-- The keys of the names, numbered from 0 in record order.
abbrev pub name_keys : List Ledger → List ℕ
name_keys ls = tag_keys_from 0 (map (λ l. l.tag) ls)

-- The points of all names, one name's behind the other's.
abbrev pub all_points : List Ledger → List Point
all_points ls = join_of (λ l. l.points) ls

-- The points that stand in a place.
abbrev pub points_in_range : List Point → Range ℕ → List Point
points_in_range all p = take (p.end - p.start) (drop p.start all)

-- The points of the first name that is a tag, if there is one.
abbrev pub points_under : CountryTag → List Ledger → Option (List Point)
points_under tag ls = Option.map (λ l. l.points) (first_that (λ l. same_tag l.tag tag) ls)

-- What a search by tag needs: the sorted keys of all names, and the place of the points of each.
pub record IsIndex (c : Ledgers) (keys : List ℕ) (places : List (Range ℕ)) : Type 0 where
  pub few : length (ledgers_left c) ≤ 2000
  pub sorted : keys ≡ sort_by leb (name_keys (ledgers_left c))
  pub placed : map (points_in_range (all_points (ledgers_left c))) places ≡ map (λ l. l.points) (ledgers_left c)
