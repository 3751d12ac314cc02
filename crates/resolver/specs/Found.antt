-- What is answered of the nation whose claim was found.
use Rattle.std.specs.Prelude.{List, ◌∷◌, map, ℕ}
use Rattle.std.proofs.Math.Option.{Option, none, some}
use Rattle.lists.specs.Lists.{last, leading}
use Rattle.format.specs.declared.tag.CountryTag.{CountryTag}
use Rattle.format.specs.declared.date.Eu4Date.{Eu4Date}
use Rattle.format.specs.Dates.{not_after}
use Rattle.format.specs.RecordNumber.{first_of}
use Rattle.rules.specs.Nations.{targets}
use Rattle.format.specs.declared.values.TagData.{TagData}
use Rattle.rules.specs.Resolver.{day_data, switched_data}
use Rattle.rules.specs.CallNumbers.{chronicle_number, asked_tag_number, asked_date_number}
use Rattle.rows.specs.declared.chronicle.Chronicle.{Chronicle}
use Rattle.rows.specs.RowAt.{entries_at, nation_numbered}
use Rattle.resolver.specs.declared.claims.Claim.{Claim}

-- The number that refuses a question about a tag and dates: 11 for a chronicle that is not well shaped, 12 for a bad tag or date.
abbrev pub asked_number : List ℕ → List ℕ → CountryTag → List Eu4Date → ℕ
asked_number ws es tag dates = first_of (chronicle_number ws es ∷ asked_tag_number tag.0 ∷ map (λ d. asked_date_number d.0) dates)

-- The last switch's target among so many entries from a number on, up to the first dated later than the day.
abbrev pub worn_in : List ℕ → Eu4Date → ℕ → ℕ → Option CountryTag
worn_in es day first count = last (targets (leading (λ e. not_after e.date day) (entries_at es first count)))

-- Set to a day, resolve.
abbrev pub day_of : List ℕ → List ℕ → Eu4Date → Claim → TagData
day_of ws es day c = day_data day (nation_numbered ws es c.nation)

-- Set to a day, initial.
abbrev pub switched_of : List ℕ → List ℕ → Eu4Date → Option Claim → Option TagData
switched_of ws es day none = none
switched_of ws es day (some c) = switched_data day (some (nation_numbered ws es c.nation))

-- The same two, asked of a chronicle.
abbrev pub day_asked : Chronicle → Eu4Date → Claim → TagData
day_asked chronicle = day_of chronicle.nations.now chronicle.entries.now

abbrev pub switched_asked : Chronicle → Eu4Date → Option Claim → Option TagData
switched_asked chronicle = switched_of chronicle.nations.now chronicle.entries.now
