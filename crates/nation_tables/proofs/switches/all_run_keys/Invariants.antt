-- The invariant: the keys of the countries passed stand in front, and those of the countries left, from `row` on, find room behind them, and
-- their switches room in their keys.
use Rattle.record.specs.Cursors.{countries_left}
use Rattle.nation_tables.specs.Switches.{place_key, NumberFits}
use Rattle.nation_tables.proofs.tables.PlacedLaws.{Keying}
use Rattle.nation_tables.proofs.switches.all_run_keys.Given as goal

abbrev pub invariant-loop-row : goal.invariant-loop-row
invariant-loop-row l = Keying place_key NumberFits (countries_left l.fn.all.countries) (countries_left l.row-iterator.iter) l.initial.cells l.row-iterator.count l.k l.cells
