-- The invariant: tags and words of the countries passed stand in front of both slices, and those of the countries left find room behind them.
use Rattle.lists.proofs.FillLaws.{Filling}
use Rattle.record.specs.Cursors.{countries_left}
use Rattle.nation_tables.specs.Countries.{country_tags, initial_words}
use Rattle.nation_tables.proofs.countries.fill_tags_and_initials.Given as goal

abbrev pub invariant-loop-row : goal.invariant-loop-row
invariant-loop-row l =
    let left = countries_left l.row-iterator.iter in
    let row = l.row-iterator.count in
    Filling (country_tags (countries_left l.fn.countries)) (country_tags left) l.initial.tags row l.tags
    × Filling (initial_words (countries_left l.fn.countries)) (initial_words left) l.initial.initials row l.initials
