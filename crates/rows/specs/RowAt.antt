-- The rows of lent words: those that an iterator has left, and each by its number, from 0. Past the last one stands the row of no words, all zeros.
use Rattle.std.specs.Prelude.{cond, List, [], ◌++◌, map, ℕ, ◌-◌, leb, length, get_or, drop}
use Rattle.lists.specs.Lists.{numbers_from}
use Rattle.format.specs.declared.tag.CountryTag.{CountryTag}
use Rattle.format.specs.declared.values.Entry.{Entry}
use Rattle.format.specs.declared.values.OwnerChange.{OwnerChange}
use Rattle.format.specs.declared.values.NationRow.{NationRow}
use Rattle.rules.specs.Chronicle.{Nation}
use Rattle.rows.specs.declared.entries.NationEntries.{NationEntries}
use Rattle.rows.specs.declared.lent_rows.LentRows.{LentRows}
use Rattle.rules.specs.NationRows.{nation_width, nation_row_of, EntryRow, entry_row_of, entry_of, nation_rows_in, entry_rows_in}

-- What the rows tell that an iterator over lent words has left, by what the words of one tell.
abbrev pub told_left : {R : Type 0} {width : ℕ} → (List ℕ → R) → LentRows R width → List R
told_left told rows = map told rows.rows.now

-- Nation row number i.
unfoldable pub nation_row_at : List ℕ → ℕ → NationRow
nation_row_at ws i = get_or (nation_rows_in ws) i (nation_row_of [])

-- The nation rows that an iterator has left.
abbrev pub nations_left : LentRows NationRow nation_width → List NationRow
nations_left rows = told_left nation_row_of rows

-- Entry row number i.
unfoldable pub entry_row_at : List ℕ → ℕ → EntryRow
entry_row_at es i = get_or (entry_rows_in es) i (entry_row_of [])

-- Entry number i.
abbrev pub entry_at : List ℕ → ℕ → Entry
entry_at es i = entry_of (entry_row_at es i)

-- The entry that the words of a row tell.
abbrev pub entry_told : List ℕ → Entry
entry_told ws = entry_of (entry_row_of ws)

-- So many entries from a number on.
abbrev pub entries_at : List ℕ → ℕ → ℕ → List Entry
entries_at es first count = map (entry_at es) (numbers_from first count)

-- Those that an iterator over the entries which a nation's row counts has left.
abbrev pub counted_left : NationEntries → List Entry
counted_left it = entries_at it.words.now it.next (it.end - it.next)

-- Nation number i, with the entries that its row points at.
abbrev pub nation_numbered : List ℕ → List ℕ → ℕ → Nation
nation_numbered ws es i =
    record {
      initial = (nation_row_at ws i).initial;
      latest = (nation_row_at ws i).latest;
      stored = (nation_row_at ws i).stored;
      entries = entries_at es (nation_row_at ws i).first (nation_row_at ws i).count;
    }

-- The tags that so many nations from a number on are stored under.
abbrev pub stored_tags : List ℕ → ℕ → ℕ → List CountryTag
stored_tags ws a n = map (λ i. (nation_row_at ws i).stored) (numbers_from a n)

-- Of all nations.
abbrev pub tags_stored : List ℕ → List CountryTag
tags_stored ws = stored_tags ws 0 (length (nation_rows_in ws))

-- The owner change that the words of a row tell.
abbrev pub change_told : List ℕ → OwnerChange
change_told ws =
    record {
      date = record { 0 = get_or ws 0 0 };
      id = record { 0 = get_or ws 1 0 };
      from = record { 0 = get_or ws 2 0 };
      to = record { 0 = get_or ws 3 0 };
    }

-- Cells with a row of a width in front; fewer than the row has stay as they are.
abbrev pub row_put : ℕ → List ℕ → List ℕ → List ℕ
row_put width row cells = cond (leb width (length cells)) (row ++ drop width cells) cells
