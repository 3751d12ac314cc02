-- The rows of the entries passed stand at the front, and the cells behind them are as they were.
use mathlib.Core.Path.{◌≡◌}
use Prim.Native.Nat.{◌+◌, ◌*◌}
use lib.ListN.{length}
use Rattle.lists.proofs.WriteLaws.{Writing}
use Rattle.rules.specs.NationRows.{entry_width}
use Rattle.nations.specs.CountryEntries.{entries_left, entries_words}
use Rattle.nations.proofs.written_nations.write_entries.Given as goal

abbrev pub invariant-loop-entry : goal.invariant-loop-entry
invariant-loop-entry l =
    record {
      counted : l.k + length (entries_left l.entry-iterator) ≡ length (entries_left l.fn.entries);
      cells : Writing (entries_words (entries_left l.fn.entries)) (entries_words (entries_left l.entry-iterator)) l.fn.out (entry_width * l.k) l.out;
    }
