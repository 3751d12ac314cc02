use Rattle.std.proofs.Common.{ap, ◌∙◌}
use Rattle.lists.specs.Lists.{join_of}
use Rattle.record.specs.Cursors.{ledgers_left}
use Rattle.rules.specs.Ledger.{span_points}
use Rattle.ledger.specs.SpanSteps.{spans_left}
use Rattle.ledger.proofs.FillsLaws.{fills-start, fills-more}
use Rattle.ledger.proofs.LedgerLaws.{rows-filled}
use Rattle.ledger.proofs.index.LedgerIndex.write.Goals as goal

pub loop-span-init : goal.loop-span-init
loop-span-init c =
    fills-start _ _ _
    (ap (λ w. join_of (span_points (ledgers_left c.args.self.now.opened.ledgers)) (spans_left w)) c.into_iter-span-iterator.ensures.into_iter_gives
    ∙ ap (join_of (span_points (ledgers_left c.args.self.now.opened.ledgers))) c.new-span-items.ensures)

pub loop-span-preserved : goal.loop-span-preserved
loop-span-preserved c =
    fills-more _ _ _ _ _ c.loop-span.invariant _ _ _ _ (ap (join_of (span_points (ledgers_left c.args.self.now.opened.ledgers))) c.in-Some.ensures.steps) c.write_points-n.ensures

pub returns : goal.returns
returns c = rows-filled c.loop-span.invariant (ap (join_of (span_points (ledgers_left c.args.self.now.opened.ledgers))) c.in-None.ensures.steps.0)
