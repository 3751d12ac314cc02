-- Whom a change settles to, by rows. Inner: these are how the nations are computed.
use Rattle.std.specs.Prelude.{◌≡◌, List, ℕ, ◌+◌, ◌<◌, length}
use Rattle.std.proofs.Math.Option.{Option, none, some}
use Rattle.format.specs.declared.tag.CountryTag.{CountryTag}
use Rattle.format.specs.declared.date.Eu4Date.{Eu4Date}
use Rattle.format.specs.Campaign.{Country}
use Rattle.format.specs.declared.values.OwnerChange.{OwnerChange}
use Rattle.rules.specs.Nations.{all_switches, settles}
use Rattle.nation_tables.specs.Layout.{no_row, row_number}
use Rattle.nation_tables.specs.Lookup.{first_within}
use Rattle.nation_tables.specs.Countries.{tag_at_row, settling_key, switch_keys}

-- The tag that is there, else the given one.
abbrev pub or_tag : CountryTag → Option CountryTag → CountryTag
or_tag t none = t
or_tag t (some h) = h

-- The row in the first of the keys of switches from a tag that is not dated before a date, if there is one: keys from that tag and date on,
-- below those of the next tag.
abbrev pub settling_row : List ℕ → CountryTag → Eu4Date → Option ℕ
settling_row keys to date = first_within (settling_key to.0 date.0 0) (settling_key (to.0 + 1) 0 0) keys

-- By the switches of countries, as it stands in a cell.
abbrev pub settled_row : List Country → CountryTag → Eu4Date → ℕ
settled_row ks to date = row_number (settling_row (switch_keys ks) to date)

-- The change settles to the country in the row, or where there is none to its `to`; a row that is there is a country's.
pub record Settled (ks : List Country) (x : OwnerChange) (row : ℕ) : Type 0 where
  pub holder : settles (all_switches ks) x ≡ or_tag x.to (tag_at_row ks row)
  pub inside : (row ≡ no_row → ⊥) → row < length ks
