use Rattle.std.proofs.Common.{sym, subst, ◌∙◌}
use Rattle.rows.proofs.RowAtLaws.{nation_rows_told}
use Rattle.std.proofs.lemmas.List.{set-get_or}
use Rattle.ledger.specs.RowLedgers.{WritesLedgers}
use Rattle.ledger.proofs.NationLaws.{ledgers-start, ledgers-more, ledgers-done, ledgers-full}
use Rattle.ledger.proofs.index.LedgerIndex.write_all.Goals as goal

pub loop-count-init : goal.loop-count-init
loop-count-init c =
    ledgers-start _ _ _ _ _ _ (c.new-left.ensures ∙ nation_rows_told c.args.chronicle.nations.now) c.requires.rows_in_bounds c.requires.counts_in_bounds

pub returns-in_default : goal.returns-in_default
returns-in_default c =
    subst (WritesLedgers _ _ _ _ _ _) (sym (set-get_or c.loop-count.counts c.loop-count.count-index 0))
    (ledgers-done _ _ _ _ _ c.loop-count.invariant (c.in_default.ensures.steps.0))

pub loop-count-preserved : goal.loop-count-preserved
loop-count-preserved c = ledgers-more _ _ _ _ _ c.loop-count.invariant c.in-Some.ensures.steps c.write-n.result _ c.write-n.ensures

pub returns : goal.returns
returns c = ledgers-done _ _ _ _ _ c.loop-count.invariant (ledgers-full _ _ _ _ _ c.loop-count.invariant c.loop-count-test.false)
