-- Claims, by which the code finds a nation: a nation goes by its initial from date 0 on, and by the target of each of its switches from
-- that switch's date on. Of the claims to a tag dated not after a question the latest answers it, and of equals the last: no date of a
-- switch is 0, so that an initial answers only where no switch does.
use Rattle.std.specs.Prelude.{Bool, ◌&&◌, List, [], ◌∷◌, ◌++◌, ℕ, ◌+◌}
use Rattle.std.proofs.Math.Option.{Option}
use Rattle.lists.specs.Lists.{keep, join_of, last, greatest}
use Rattle.format.specs.declared.tag.CountryTag.{CountryTag}
use Rattle.format.specs.declared.date.Eu4Date.{Eu4Date}
use Rattle.format.specs.Tags.{same_tag}
use Rattle.format.specs.Dates.{not_after}
use Rattle.format.specs.declared.values.EntryKind.{EntryKind}
use Rattle.format.specs.declared.values.Entry.{Entry}
use Rattle.format.specs.declared.values.NationRow.{NationRow}
use Rattle.format.specs.declared.values.TagData.{TagData}
use Rattle.format.specs.declared.values.EntryKind.TheVariants.{TagSwitch, Appeared, Annexed}
use Rattle.rules.specs.NationRows.{nation_rows_in}
use Rattle.rows.specs.declared.chronicle.Chronicle.{Chronicle}
use Rattle.rows.specs.RowAt.{nation_row_at, nations_left, entries_at, counted_left}
use Rattle.resolver.specs.declared.claims.Claim.{Claim}
use Rattle.resolver.specs.declared.claims.Claims.{Claims}

-- ## The claims of a chronicle

-- That of a nation, by its number, to a switch's target.
abbrev pub kind_claims : ℕ → Eu4Date → EntryKind → List Claim
kind_claims i date (TagSwitch t) = record { tag = t; date = date; nation = i } ∷ []
kind_claims i date Appeared = []
kind_claims i date Annexed = []

-- Those to the targets of its entries.
abbrev pub switch_claims : ℕ → List Entry → List Claim
switch_claims i es = join_of (λ e. kind_claims i e.date e.kind) es

-- That of a nation to its initial, by its number and its row.
abbrev pub initial_claim : ℕ → NationRow → Claim
initial_claim i row = record { tag = row.initial; date = record { 0 = 0 }; nation = i }

-- Those of nations to their initials: their rows, numbered from i on.
abbrev pub initials_from : ℕ → List NationRow → List Claim
initials_from i [] = []
initials_from i (row ∷ rows) = initial_claim i row ∷ initials_from (i + 1) rows

-- Those that nation words make.
abbrev pub initial_claims : List ℕ → List Claim
initial_claims ws = initials_from 0 (nation_rows_in ws)

-- Those of a nation, its initial first.
abbrev pub nation_claims : List ℕ → ℕ → NationRow → List Claim
nation_claims es i row = initial_claim i row ∷ switch_claims i (entries_at es row.first row.count)

-- Those of nations: their rows, numbered from i on.
abbrev pub claims_from : List ℕ → ℕ → List NationRow → List Claim
claims_from es i [] = []
claims_from es i (row ∷ rows) = nation_claims es i row ++ claims_from es (i + 1) rows

-- Those that nation words and entry words, any words at all, make.
unfoldable pub claims_in : List ℕ → List ℕ → List Claim
claims_in ws es = claims_from es 0 (nation_rows_in ws)

-- Those of a chronicle.
abbrev pub claims_of : Chronicle → List Claim
claims_of c = claims_in c.nations.now c.entries.now

-- Those that a walk has left: of its owner those to the targets of the entries that are left, then those of the nations behind it, numbered from i on.
unfoldable pub left_of : List ℕ → ℕ → List Entry → ℕ → List NationRow → List Claim
left_of es owner own i rows = switch_claims owner own ++ claims_from es i rows

-- Those that an iterator has left.
abbrev pub claims_left : Claims → List Claim
claims_left c = left_of c.entries.now c.owner (counted_left c.own) c.coming (nations_left c.nations)

-- ## The claim that answers a question

-- A claim to the tag, dated not after the date.
abbrev pub is_asked : CountryTag → Eu4Date → Claim → Bool
is_asked tag date c = same_tag c.tag tag && not_after c.date date

-- A claim's date, as a number.
abbrev pub claim_day : Claim → ℕ
claim_day c = c.date.0

-- The latest of them, and of equals the last.
abbrev pub best_of : CountryTag → Eu4Date → List Claim → Option Claim
best_of tag date cs = greatest claim_day (keep (is_asked tag date) cs)

-- The last of them to the tag.
abbrev pub last_to : CountryTag → List Claim → Option Claim
last_to tag cs = last (keep (λ c. same_tag c.tag tag) cs)

-- What a nation answers by its number where no day is set: its latest tag, and the tag it is stored under.
abbrev pub plain_at : List ℕ → ℕ → TagData
plain_at ws i = record { current = (nation_row_at ws i).latest; stored = (nation_row_at ws i).stored }

-- What a claim answers: its nation.
abbrev pub plain_of : List ℕ → Claim → TagData
plain_of ws c = plain_at ws c.nation
