use mathlib.Core.Path.{◌≡◌, ap}
use Prim.Native.Nat.{◌+◌, ◌*◌, ◌≤◌}
use native.Mathlib.Omega.{arith}
use lib.ListN.{length, length-take, length-drop}
use Rattle.lists.proofs.FillLaws.{filling-written}
use Rattle.lists.proofs.WriteLaws.{behind, writing-none, writing_more}
use Rattle.rules.specs.NationRows.{entry_width, entry_row, entry_row_words}
use Rattle.nations.specs.CountryEntries.{entries_left, entries_words}
use Rattle.nations.proofs.MergeEntryLaws.{length-entries-words}
use Rattle.nations.proofs.written_nations.write_entries.Goals.{In-Some}
use Rattle.nations.proofs.written_nations.write_entries.Goals as goal

-- The row of the next entry finds room.
room : (c : In-Some) → entry_width * c.loop-entry.k + entry_width ≤ length c.loop-entry.out
room c =
    omega (
      arith,
      c.loop-entry.invariant.cells.fits,
      c.loop-entry.invariant.cells.long,
      length-entries-words (entries_left c.loop-entry.entry-iterator),
      ap length c.in-Some.ensures.steps,
    )

pub loop-entry-init : goal.loop-entry-init
loop-entry-init c =
    rw c.into_iter-entry-iterator.ensures.into_iter_gives
    (record {
      counted = omega arith;
      cells = writing-none _ _ (omega (arith, length-entries-words (entries_left c.args.entries), c.requires));
    })

pub write_row-requires : goal.write_row-requires
write_row-requires c = simp (length-take, length-drop) (omega (arith, room (goal.at.write_row-requires c).In-Some))

pub loop-entry-preserved : goal.loop-entry-preserved
loop-entry-preserved c =
    let row = entry_row_words (entry_row c.in-Some.entry) in
    let put = rw c.to_row.ensures at c.write_row.ensures in
    let wrote = behind c.loop-entry.out row c.write_row.new.out (entry_width * c.loop-entry.k) (room (goal.at.loop-entry-preserved c).In-Some) put in
    let row_more : entry_width * (c.loop-entry.k + 1) ≡ entry_width * c.loop-entry.k + entry_width = omega arith in
    record {
      counted = omega (arith, c.loop-entry.invariant.counted, ap length c.in-Some.ensures.steps);
      cells = rw row_more (writing_more _ _ _ _ row c.loop-entry.out _ _ (ap entries_words c.in-Some.ensures.steps) c.loop-entry.invariant.cells wrote);
    }

pub returns : goal.returns
returns c =
    record {
      counted = omega (arith, c.loop-entry.invariant.counted, ap length c.in-None.ensures.steps.0);
      cells = filling-written _ _ _ _ _ c.loop-entry.invariant.cells (ap entries_words c.in-None.ensures.steps.0);
    }
