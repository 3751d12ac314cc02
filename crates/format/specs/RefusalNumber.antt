-- Rules 2.1: the numbers, for an answer that says by an enum why it is refused.
use Rattle.std.specs.Prelude as code
use Rattle.std.specs.Prelude.{List, ℕ, Ok, Err, ◌++◌, codes}
use Rattle.std.specs.Fmt.{decimal}
use Rattle.format.specs.declared.refused.Refusal.{Refusal}
use Rattle.format.specs.declared.refused.Refusal.TheVariants.{NotARecord, UnknownVersion, SizesDisagree, BadTag, BadDate, UndefinedFlag, Repeated, DatesReversed, LedgerYear, NoRoom, NotWellShaped, BadQuestion, NoSuchNation}

-- 1 to 9 are of records: no head, another version, sizes that do not agree, a bad tag, a bad date, a flag bit or a kind without meaning, what
-- stands twice, an end before the start, a year of five digits. 10 to 13 are of calls: no room, lent rows that are not well shaped, a bad
-- question, a number of no nation. (Rules 2.1)
abbrev pub refusal_number : Refusal → ℕ
refusal_number NotARecord = 1
refusal_number UnknownVersion = 2
refusal_number SizesDisagree = 3
refusal_number BadTag = 4
refusal_number BadDate = 5
refusal_number UndefinedFlag = 6
refusal_number Repeated = 7
refusal_number DatesReversed = 8
refusal_number LedgerYear = 9
refusal_number NoRoom = 10
refusal_number NotWellShaped = 11
refusal_number BadQuestion = 12
refusal_number NoSuchNation = 13

-- How a program prints it.
abbrev pub refused_text : Refusal → List ℕ
refused_text refusal = codes "refused " ++ decimal (refusal_number refusal)

-- The number of a test: 0 if it passes. (Rules 2.2)
abbrev pub number_of : {A : Type 0} → code.Result A Refusal → ℕ
number_of (Ok x) = 0
number_of (Err refusal) = refusal_number refusal
