-- The invariant: the words of the countries passed stand in front, and those of the countries left find room behind them.
use Rattle.lists.proofs.FillLaws.{Filling}
use Rattle.record.specs.Cursors.{countries_left}
use Rattle.nation_tables.specs.Switches.{target_words}
use Rattle.nation_tables.proofs.switches.fill_targets.Given as goal

abbrev pub invariant-loop-country : goal.invariant-loop-country
invariant-loop-country l = Filling (target_words (countries_left l.fn.countries)) (target_words (countries_left l.country-iterator)) l.initial.targets l.k l.targets
