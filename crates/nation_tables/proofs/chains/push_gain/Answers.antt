-- A number that is no row's is past the end; else the gain of the row is pushed.
use Rattle.nation_tables.proofs.slots.ChainLaws.{gain-outside, gain-inside}
use Rattle.nation_tables.proofs.chains.push_gain.Goals as goal

pub returns-then-firsts-row : goal.returns-then-firsts-row
returns-then-firsts-row c = rw (← c.from-row.ensures) (gain-outside c.args.firsts.now c.from-row.result _ c.if-firsts-row.true)

pub returns : goal.returns
returns c = rw (← c.from-row.ensures) (gain-inside c.args.firsts.now c.from-row.result c.args.k c.if-firsts-row.false _ _ c.replace.ensures.value c.replace.ensures.after)
