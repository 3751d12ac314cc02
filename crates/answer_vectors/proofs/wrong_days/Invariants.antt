-- Each turn asks for one day, of which at most all are wrong, and reads it behind those before.
use Rattle.std.proofs.Common.{◌≤◌}
use Rattle.std.specs.Prelude.{ℕ, List}
use Rattle.std.specs.Io.KnownBytes.{Consumes}
use Rattle.answer_vectors.proofs.wrong_days.Given as goal

abbrev pub invariant-loop : goal.invariant-loop
invariant-loop g l =
    (l.wrong ≤ l.counter) × (l.counter ≤ l.days)
    × (bytes : List ℕ) × Consumes (g.R.Read.remaining l.initial.list) (g.R.Read.remaining l.list) bytes
