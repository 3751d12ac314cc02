-- The invariant: the nations passed and those that are left are all, and so it is with their entries.
use mathlib.Core.Path.{◌≡◌}
use Prim.Native.Nat.{◌+◌}
use lib.ListN.{length}
use Rattle.rules.proofs.RowLaws.{all_entries}
use Rattle.nations.specs.Reading.{cells_in}
use Rattle.nations.specs.ListedNations.{nations_at, listed_left}
use Rattle.nations.proofs.tables.NationTables.count_nations.Given as goal

abbrev pub invariant-loop-nation : goal.invariant-loop-nation
invariant-loop-nation l =
    let all = nations_at (cells_in l.self) l.self.initial_keys.keys.now in
    let left = listed_left l.nation-iterator in
    record {
      nations : l.nations + length left ≡ length all;
      entries : l.entries + length (all_entries left) ≡ length (all_entries all);
    }
