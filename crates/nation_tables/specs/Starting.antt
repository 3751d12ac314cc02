-- The holders of the slots at the start, by rows. Inner: these are how the nations are computed.
use Rattle.std.specs.Prelude.{◌≡◌, true, false, List, [], ◌∷◌, map, ℕ, suc, ◌≤◌, ltb, length, set}
use Rattle.lists.specs.Lists.{keep, all_of, first_or, numbers_from, twice}
use Rattle.format.specs.declared.tag.CountryTag.{CountryTag}
use Rattle.format.specs.declared.rows.ProvinceId.{ProvinceId}
use Rattle.format.specs.Tags.{NONE}
use Rattle.format.specs.Campaign.{Campaign, Province}
use Rattle.format.specs.Rows.{same_id}
use Rattle.rules.specs.Nations.{start_holders}
use Rattle.nation_tables.specs.Layout.{key_rows}
use Rattle.nation_tables.specs.Countries.{tag_at_row, initial_words, row_keys, initial_number}

-- The owner of the province with an id, `---` if there is none.
abbrev pub owner_in : List Province → ProvinceId → CountryTag
owner_in ps slot = first_or NONE (map (λ p. p.owner) (keep (λ p. same_id p.id slot) ps))

-- So many slots, each with the row that its owner maps to by the keys of the initials.
abbrev pub slot_rows : List ℕ → List Province → ℕ → List ℕ
slot_rows keys ps slots = map (λ n. initial_number keys (owner_in ps (record { 0 = n }))) (numbers_from 0 slots)

-- Each province's owner put into its slot, as a number, in row order.
unfoldable pub put_owners : (CountryTag → ℕ) → List Province → List ℕ → List ℕ
put_owners f [] rows = rows
put_owners f (p ∷ ps) rows = put_owners f ps (set rows p.id.0 (f p.owner))

-- Provinces of an accepted record: their ids are slots, and none stands twice.
pub record Slotted (slots : ℕ) (ps : List Province) : Type 0 where
  pub ids : all_of (λ p. ltb p.id.0 slots) ps ≡ true
  pub once : twice (map (λ p. p.id.0) ps) ≡ false

-- The slots' rows; with the keys of a campaign's initials these are its start holders.
pub record Started (keys : List ℕ) (ps : List Province) (slots : ℕ) (rows : List ℕ) : Type 0 where
  pub cells : rows ≡ slot_rows keys ps slots
  pub holders : (c : Campaign) → c.provinces ≡ ps → slots ≡ suc (length ps) → length c.countries ≤ key_rows
      → keys ≡ row_keys (initial_words c.countries) → map (tag_at_row c.countries) (slot_rows keys ps slots) ≡ start_holders c
