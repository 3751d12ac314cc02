use mathlib.Core.Path.{refl, sym, ◌∙◌}
use Rattle.std.specs.Prelude.{Some, None}
use Rattle.lists.proofs.ProgressLaws.{progress}
use Rattle.ledger.specs.SpanSteps.{spans_left}
use Rattle.ledger.proofs.SpanLaws.{span-closed, span-runs, last-step}
use Rattle.ledger.proofs.spans.SpansIterator.next.Goals as goal

pub returns-then-closes_one-clause-steps : goal.returns-then-closes_one-clause-steps
returns-then-closes_one-clause-steps c =
    c.loop-entry.invariant
    ∙ span-closed _ _ _ c.in-Some.entry _ c.in-Some.ensures.steps _ c.behind-running.ensures (sym c.closes_one.ensures ∙ c.if-closes_one.true) _ c.closed-span.ensures

pub returns-then-closes_one-clause-goes : goal.returns-then-closes_one-clause-goes
returns-then-closes_one-clause-goes c = progress (λ x. x) spans_left {r = Some _} (returns-then-closes_one-clause-steps c)

pub loop-entry-preserved : goal.loop-entry-preserved
loop-entry-preserved c =
    c.loop-entry.invariant
    ∙ span-runs _ _ _ c.in-Some.entry _ c.in-Some.ensures.steps _ c.behind-running.ensures (sym c.closes_one.ensures ∙ c.if-closes_one.false)

pub returns-clause-steps : goal.returns-clause-steps
returns-clause-steps c =
    last-step c.args.self.now (record c.loop-entry.self { running = None; entries = c.next.new.self }) _ _ _ _ _ c.loop-entry.invariant c.in_default.ensures.steps.0 c.closed.ensures c.then_some.ensures refl

pub returns-clause-goes : goal.returns-clause-goes
returns-clause-goes c = progress (λ x. x) spans_left (returns-clause-steps c)
