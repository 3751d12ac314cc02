use mathlib.Core.Path.{◌≡◌, ap}
use borrow.Author.Rules.{rules}
use lib.ListN.{length}
use Rattle.rows.proofs.LentShapeLaws.{follow_pass, follow_stop, follow_end}
use Rattle.rows.proofs.shape.nations_shaped.Goals as goal

pub returns-then-not-follows : goal.returns-then-not-follows
returns-then-not-follows c =
    follow_stop _ _ _ _ _ c.read-nation.ensures (search rules) c.loop-row.invariant _ c.tags_shaped.ensures c.if-not-follows.true-raw

pub loop-row-preserved : goal.loop-row-preserved
loop-row-preserved c =
    follow_pass _ _ _ _ _ c.read-nation.ensures (search rules) c.loop-row.invariant _ c.tags_shaped.ensures c.if-not-follows.false-raw

pub returns : goal.returns
returns c =
    let e : c.loop-row.row-index ≡ length c.args.nations.now = search rules in
    follow_end _ _ _ (rw e at c.loop-row.invariant)
