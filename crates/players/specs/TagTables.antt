-- What the tables hold, from cells to cells: inner steps.
use Rattle.std.specs.Prelude.{List, map, ℕ, ◌%◌}
use Rattle.format.specs.declared.tag.CountryTag.{CountryTag}
use Rattle.record.specs.declared.cursors.Countries.{Countries}
use Rattle.record.specs.Cursors.{countries_left}
use Rattle.format.specs.declared.values.Player.{Player}
use Rattle.search.specs.Places.{keys_per_tag, tag_key}

-- ## Countries

-- The tags of the countries that an iterator has left.
abbrev pub country_tags_left : Countries → List CountryTag
country_tags_left c = map (λ k. k.tag) (countries_left c)

-- ## Players

-- The key of a player: the tag, and the string number of the name, of which 16 bits are kept.
abbrev pub player_key : Player → ℕ
player_key p = tag_key p.tag (p.name % keys_per_tag)
