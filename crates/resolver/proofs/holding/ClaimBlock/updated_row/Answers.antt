-- What was looked up is the last key that answers, for the keys are in order.
use Rattle.std.proofs.Common.{ap, ◌∙◌}
use Rattle.std.proofs.Math.Option.{Option}
use Prim.Native.Nat.{ℕ}
use Rattle.resolver.specs.Passes.{updated}
use Rattle.resolver.proofs.holding.ClaimBlock.updated_row.Goals as goal

pub returns : goal.returns
returns c =
    c.later_row.ensures
    ∙ ap (λ (looked : Option ℕ). updated c.args.self.now.owners.now looked c.args.best c.args.owner) c.look_up_near-looked.ensures
