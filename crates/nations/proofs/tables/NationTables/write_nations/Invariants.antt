-- The invariant: the rows of the nations passed are written, and behind them there is room for those that are left, and so it is with their entries.
use Rattle.std.specs.Iterator.Adapters.{enumerate_source, enumerate_count}
use Rattle.nations.specs.Reading.{cells_in}
use Rattle.nations.specs.ListedNations.{nations_at, listed_left}
use Rattle.nations.proofs.WrittenNationLaws.{Placing}
use Rattle.nations.proofs.tables.NationTables.write_nations.Given as goal

abbrev pub invariant-loop-n : goal.invariant-loop-n
invariant-loop-n l =
    Placing (nations_at (cells_in l.self) l.self.initial_keys.keys.now) (listed_left (enumerate_source l.n-iterator)) (enumerate_count l.n-iterator) l.first
    l.initial.nations l.nations l.initial.entries l.entries
