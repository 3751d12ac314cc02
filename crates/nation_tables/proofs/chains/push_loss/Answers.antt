-- A number that is no row's is past the end; else the loss of the row is pushed.
use Rattle.nation_tables.proofs.slots.ChainLaws.{loss-outside, loss-inside}
use Rattle.nation_tables.proofs.chains.push_loss.Goals as goal

pub returns-then-firsts-row : goal.returns-then-firsts-row
returns-then-firsts-row c = rw (← c.from-row.ensures) (loss-outside c.args.firsts.now c.from-row.result _ c.if-firsts-row.true)

pub returns : goal.returns
returns c = rw (← c.from-row.ensures) (loss-inside c.args.firsts.now c.from-row.result c.args.k c.if-firsts-row.false _ _ c.replace.ensures.value c.replace.ensures.after)
