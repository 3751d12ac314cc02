-- The cases of the turns so far are tallied, one a turn.
use Rattle.std.proofs.Common.{◌≡◌, ◌≤◌}
use Rattle.std.specs.Prelude.{List}
use Rattle.stored_input.specs.Tallying.{TalliedCase, Tallied}
use Rattle.stored_input.proofs.replay.tally_list.Given as goal

abbrev pub invariant-loop : goal.invariant-loop
invariant-loop g l =
    (l.all.cases ≡ l.counter) × (l.counter ≤ 100000)
    × (cases : List TalliedCase) × Tallied g.C.ReplayNext.comes_to (g.R.Read.remaining l.initial.list) (g.R.Read.remaining l.list) cases l.all
