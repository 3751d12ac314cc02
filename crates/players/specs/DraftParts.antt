-- What a draft is put together from: inner steps.
use Rattle.std.specs.Prelude as code
use Rattle.std.specs.Prelude.{None, Some, Bool, cond, ◌&&◌, List, ℕ, ◌%◌, leb, eqb, ℤ, length}
use Rattle.lists.specs.Options.{option_of}
use Rattle.format.specs.declared.tag.CountryTag.{CountryTag}
use Rattle.format.specs.Tags.{same_tag}
use Rattle.format.specs.declared.values.NationRow.{NationRow}
use Rattle.rules.specs.NationRows.{nation_rows_in, well_shaped}
use Rattle.rules.specs.Histories.{is_above_zero}
use Rattle.rules.specs.HistoryRows.{nation_word}
use Rattle.rows.specs.RowAt.{nation_row_at}
use Rattle.players.specs.declared.drafts.Draft.{Draft}

-- 11: a chronicle that is not well shaped, or has more nations than a word can number from 1 on.
abbrev pub taken_number : List ℕ → List ℕ → ℕ
taken_number ws es = cond (well_shaped ws es && leb (length (nation_rows_in ws)) 4294967295) 0 11

-- The nation of a number, or a bare one.
abbrev pub told_by : List ℕ → CountryTag → code.Option ℕ → NationRow
told_by ws tag None = record { initial = tag; latest = tag; stored = tag; first = 0; count = 0 }
told_by ws tag (Some i) = nation_row_at ws i

-- The test of a released country, from what the code has at hand.
abbrev pub released_by : Bool → Bool → ℤ → NationRow → ℕ → Bool
released_by human switched cities n count =
    human && eqb count 1 && same_tag n.stored n.latest && switched && is_above_zero cities

abbrev pub draft_by : Bool → Bool → ℤ → code.Option ℕ → NationRow → ℕ → ℕ → Draft
draft_by human switched cities number n first count =
    record {
      initial = n.initial;
      latest = n.latest;
      stored = n.stored;
      nation = nation_word (option_of number) % 4294967296;
      human = human;
      released = released_by human switched cities n count;
      first = first;
      count = count;
    }
