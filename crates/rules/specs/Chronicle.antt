-- Rules 3 and 4: what a chronicle is made of.
use Rattle.std.specs.Prelude.{Bool, true, false, List}
use Rattle.format.specs.declared.tag.CountryTag.{CountryTag}
use Rattle.format.specs.declared.values.EntryKind.{EntryKind}
use Rattle.format.specs.declared.values.Entry.{Entry}
use Rattle.format.specs.declared.values.EntryKind.TheVariants.{TagSwitch, Appeared, Annexed}

-- It is Appeared. (Rules 12.5)
abbrev pub is_appeared : EntryKind → Bool
is_appeared (TagSwitch t) = false
is_appeared Appeared = true
is_appeared Annexed = false

-- It is Annexed. (Rules 12.5)
abbrev pub is_annexed : EntryKind → Bool
is_annexed (TagSwitch t) = false
is_annexed Appeared = false
is_annexed Annexed = true

-- A nation: initial, latest, stored, and its entries in order. Read from lent rows, latest is the word that stands there. (Rules 4.10)
pub record Nation : Type 0 where
  pub initial : CountryTag
  pub latest : CountryTag
  pub stored : CountryTag
  pub entries : List Entry
