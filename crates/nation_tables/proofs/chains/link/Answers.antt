use mathlib.Core.Path.{◌≡◌}
use native.Mathlib.Omega.{arith}
use borrow.Author.Rules.{rules}
use Rattle.nation_tables.proofs.slots.ChainLaws.{both-none, both-step, both-done}
use Rattle.nation_tables.proofs.chains.link.Goals as goal

pub loop-k-init : goal.loop-k-init
loop-k-init c = both-none _ _ c.requires.turns_len_bound c.requires.fresh.0 c.requires.fresh.1

pub bounds-turns-k : goal.bounds-turns-k
bounds-turns-k c = omega (arith, c.loop-k.invariant.inside, c.loop-k.invariant.long)

pub loop-k-preserved : goal.loop-k-preserved
loop-k-preserved c = both-step _ _ _ _ _ c.loop-k.invariant (search rules) _ _ _ _ c.push_loss.ensures c.push_gain.ensures

pub shape_of-turns : goal.shape_of-turns
shape_of-turns c = c.loop-k.invariant.long

pub shape_of-firsts : goal.shape_of-firsts
shape_of-firsts c = c.loop-k.invariant.rows

pub returns : goal.returns
returns c = let e : c.loop-k.k ≡ 0 = omega arith in both-done _ _ _ _ _ c.loop-k.invariant e
