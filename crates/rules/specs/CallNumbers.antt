-- Rules 2: the numbers that the chronicle's calls add to the record's own. (10 stands
-- in Lent; the page's own 10 and 12 stand with the page.)
use Rattle.std.specs.Prelude.{cond, List, ℕ, leb, length}
use Rattle.std.proofs.Math.Option.{Option, none, some}
use Rattle.format.specs.declared.tag.CountryTag.{CountryTag}
use Rattle.format.specs.declared.date.Eu4Date.{Eu4Date}
use Rattle.format.specs.Tags.{is_tag}
use Rattle.format.specs.Dates.{good_date}
use Rattle.rules.specs.Chronicle.{Nation}
use Rattle.rules.specs.NationRows.{well_shaped}
use Rattle.rules.specs.HistoryRows.{histories_shaped}

-- 11: chronicle rows, nation words and entry words, not well shaped. (Rules 2.13)
abbrev pub chronicle_number : List ℕ → List ℕ → ℕ
chronicle_number ws es = cond (well_shaped ws es) 0 11

-- 11: history rows not well shaped, with the nations that they point at. (Rules 2.13)
abbrev pub histories_number : List Nation → List ℕ → ℕ
histories_number ns hs = cond (histories_shaped ns hs) 0 11

-- 11: more nations than the words of history rows can number. Such a row points at a nation by one word, its number plus 1.
-- (Rules 8.12.)
abbrev pub numbered_number : List Nation → ℕ
numbered_number ns = cond (leb (length ns) 4294967295) 0 11

-- A question's tag or date, given as a word. (Rules 2.14)
abbrev pub asked_tag : ℕ → CountryTag
asked_tag w = record { 0 = w }

abbrev pub asked_date : ℕ → Eu4Date
asked_date w = record { 0 = w }

-- 12: a bad tag. (Rules 2.14)
abbrev pub asked_tag_number : ℕ → ℕ
asked_tag_number w = cond (is_tag (asked_tag w)) 0 12

-- 12: a bad date. (Rules 2.14)
abbrev pub asked_date_number : ℕ → ℕ
asked_date_number w = cond (good_date (asked_date w)) 0 12

-- 13: the number asked for is no nation's. They are counted from 0. (Rules 2.15)
abbrev pub asked_nation_number : Option Nation → ℕ
asked_nation_number none = 13
asked_nation_number (some n) = 0
