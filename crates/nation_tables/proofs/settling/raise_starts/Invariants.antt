-- The invariant: the table keeps its length. What it holds is not said.
use mathlib.Core.Path.{◌≡◌}
use lib.ListN.{length}
use Rattle.nation_tables.proofs.settling.raise_starts.Given as goal

abbrev pub invariant-loop-start : goal.invariant-loop-start
invariant-loop-start l = length l.starts ≡ length l.initial.starts
