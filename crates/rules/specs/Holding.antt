-- Rules 4: holding and wearing on a day. Read from the changes and the entries, never from kept counts.
use Rattle.std.specs.Prelude.{Bool}
use Rattle.std.proofs.Math.Option.{Option}
use Rattle.lists.specs.Lists.{keep, any_of, last_or}
use Rattle.format.specs.declared.tag.CountryTag.{CountryTag}
use Rattle.format.specs.declared.date.Eu4Date.{Eu4Date}
use Rattle.format.specs.declared.rows.ProvinceId.{ProvinceId}
use Rattle.format.specs.Dates.{not_after}
use Rattle.format.specs.Campaign.{Campaign}
use Rattle.rules.specs.Chronicle.{Nation}
use Rattle.rules.specs.Nations.{slots_of, moves_of, last_holder, matches, targets}

-- A slot's holder at the end of day D: whom the last of its changes till then settled to, or the start holder before any. (Rules 4.16)
unfoldable pub holder_on : Campaign → Eu4Date → ProvinceId → Option CountryTag
holder_on c day slot = last_holder c slot (keep (λ m. not_after m.date day) (moves_of c))

-- A tag holds that slot on D. (Rules 4.16)
abbrev pub holds_slot_on : Campaign → Eu4Date → CountryTag → ProvinceId → Bool
holds_slot_on c day t slot = matches t (holder_on c day slot)

-- A tag holds on D at least one of the slots 0 to P. Of a nation the stored tag is asked. (Rules 4.16)
unfoldable pub holds_on : Campaign → Eu4Date → CountryTag → Bool
holds_on c day t = any_of (holds_slot_on c day t) (slots_of c)

-- What a nation WEARS on D: where its last switch till then led; before any, its initial. (Rules 4.17)
unfoldable pub wears : Nation → Eu4Date → CountryTag
wears n day = last_or n.initial (targets (keep (λ e. not_after e.date day) n.entries))
