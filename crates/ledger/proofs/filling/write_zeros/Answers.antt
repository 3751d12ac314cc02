use mathlib.Core.Path.{◌≡◌, ap, ◌∙◌}
use Prim.Native.Nat.{◌-◌, ◌/◌, min}
use native.Mathlib.Omega.{arith}
use lib.ListN.{length}
use Rattle.ledger.proofs.FilledLaws.{zeros-start}
use Rattle.ledger.proofs.FillsLaws.{fills-start, zeros-next, zeros-fill}
use Rattle.ledger.proofs.filling.write_zeros.Goals.{After-min-n}
use Rattle.ledger.proofs.filling.write_zeros.Goals as goal
use Rattle.rules.specs.Ledger.{ledger_width}

-- As many zeros as there are years and as find room.
size : (c : After-min-n) → c.min-n.result ≡ min (c.args.until - c.args.running) (length c.args.out.now / ledger_width)
size c = c.min-n.ensures ∙ ap (λ m. min m (length c.args.out.now / ledger_width)) c.saturating_sub-years.ensures

pub loop-i-init : goal.loop-i-init
loop-i-init c = fills-start _ _ _ (zeros-start _ _ _)

pub loop-i-preserved : goal.loop-i-preserved
loop-i-preserved c =
    zeros-next _ _ _ _ _ _ c.loop-i.invariant _ (size (goal.at.loop-i-preserved c).After-min-n) c.loop-i-test.true _ _ c.write_point.ensures

pub returns : goal.returns
returns c =
    zeros-fill _ _ _ _ _ _ _ c.loop-i.invariant (size (goal.at.returns c).After-min-n) (omega (arith, c.loop-i.auto.i-end, c.loop-i-test.false))
