-- The invariant: the names of the keys passed stand at the front.
use mathlib.Core.List.{map}
use lib.ListN.{drop}
use Rattle.lists.proofs.FillLaws.{Filling}
use Rattle.players.specs.ArrangedDrafts.{name_in}
use Rattle.players.proofs.draft_names.copy_names.Given as goal

abbrev pub invariant-loop-i : goal.invariant-loop-i
invariant-loop-i l = Filling (map name_in l.keys) (map name_in (drop l.i l.keys)) l.initial.out l.i l.out
