-- The invariant: the keys passed are among the keys, and the table keeps its length. What it holds is not said.
use mathlib.Core.Path.{◌≡◌}
use lib.ListN.{length}
use Rattle.nation_tables.proofs.settling.note_ends.Given as goal

abbrev pub invariant-loop-i : goal.invariant-loop-i
invariant-loop-i l = (length l.starts ≡ length l.initial.starts)
