-- The invariant: the keys of the countries passed stand in front, and those of the countries left, from `row` on, find room behind them, and
-- their switches and tags room in their keys.
use Rattle.record.specs.Cursors.{countries_left}
use Rattle.nation_tables.proofs.tables.OwnKeyLaws.{SettlingWalk}
use Rattle.nation_tables.proofs.switches.all_settling_keys.Given as goal

abbrev pub invariant-loop-row : goal.invariant-loop-row
invariant-loop-row l =
    SettlingWalk (countries_left l.fn.all.countries) (countries_left l.row-iterator.iter) l.initial.cells l.row-iterator.count l.k l.cells
