use Rattle.std.proofs.Common.{ap, ◌∙◌}
use Rattle.lists.specs.Lists.{join_of}
use Rattle.rows.specs.RowAt.{nations_left}
use Rattle.rows.proofs.RowAtLaws.{nation_rows_told}
use Rattle.ledger.specs.RowLedgers.{row_ledger}
use Rattle.ledger.proofs.LedgerLaws.{points-start, count-more, count-end}
use Rattle.ledger.proofs.index.LedgerIndex.count_all.Goals as goal

pub loop-nation-init : goal.loop-nation-init
loop-nation-init c =
    points-start _ _ _
    (ap (λ w. join_of (row_ledger c.args.self.now.opened c.args.chronicle.entries.now) (nations_left w)) c.into_iter-nation-iterator.ensures.into_iter_gives
    ∙ ap (λ rows. join_of (row_ledger c.args.self.now.opened c.args.chronicle.entries.now) rows) c.new-nation-items.ensures
    ∙ ap (join_of (row_ledger c.args.self.now.opened c.args.chronicle.entries.now)) (nation_rows_told c.args.chronicle.nations.now))

pub loop-nation-preserved : goal.loop-nation-preserved
loop-nation-preserved c =
    count-more c.loop-nation.invariant _ _ _ (ap (λ rows. join_of (row_ledger c.args.self.now.opened c.args.chronicle.entries.now) rows) c.in-Some.ensures.steps) c.count-n.ensures

pub returns : goal.returns
returns c = count-end c.loop-nation.invariant (ap (λ rows. join_of (row_ledger c.args.self.now.opened c.args.chronicle.entries.now) rows) c.in-None.ensures.steps.0)
