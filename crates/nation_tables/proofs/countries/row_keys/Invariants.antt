-- The invariant: the keys of the words passed stand in front, and those of the words left find room behind them. Then they are sorted in their place.
use lib.ListN.{drop}
use Rattle.lists.proofs.FillLaws.{Filling}
use Rattle.nation_tables.specs.Countries.{word_keys}
use Rattle.nation_tables.proofs.countries.row_keys.Given as goal

abbrev pub invariant-loop-i : goal.invariant-loop-i
invariant-loop-i l =
    Filling (word_keys 0 l.words) (word_keys l.i (drop l.i l.words)) l.initial.keys l.i l.keys
