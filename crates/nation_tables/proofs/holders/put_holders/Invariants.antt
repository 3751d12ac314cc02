-- The invariant: the words of the slots passed stand in front, and those left find room behind them.
use mathlib.Core.List.{map}
use lib.ListN.{drop}
use Rattle.lists.proofs.FillLaws.{Filling}
use Rattle.nation_tables.specs.Holders.{cell_word}
use Rattle.nation_tables.proofs.holders.put_holders.Given as goal

abbrev pub invariant-loop-i : goal.invariant-loop-i
invariant-loop-i l = Filling (map cell_word l.slots) (map cell_word (drop l.i l.slots)) l.initial.out l.i l.out
