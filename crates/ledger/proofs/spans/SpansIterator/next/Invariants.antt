-- The invariant: what was left is what is left of what is running, with the entries that are left. These measure the loop.
use Rattle.std.proofs.Common.{◌≡◌, length}
use Rattle.rules.specs.Ledger.{spans_from}
use Rattle.rows.specs.RowAt.{counted_left}
use Rattle.ledger.specs.SpanSteps.{running_in, spans_left}
use Rattle.ledger.proofs.spans.SpansIterator.next.Given as goal

abbrev pub invariant-loop-entry : goal.invariant-loop-entry
invariant-loop-entry l = spans_left l.initial.self ≡ spans_from l.self.current (running_in l.running) (counted_left l.self.entries)

abbrev pub decreases-loop-entry : goal.decreases-loop-entry
decreases-loop-entry l = length (counted_left l.self.entries)
