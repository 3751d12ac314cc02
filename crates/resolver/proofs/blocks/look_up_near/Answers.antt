-- What the count up to the highest key that may answer leads to.
use mathlib.Core.Path.{ap, ◌∙◌}
use native.Mathlib.Omega.{arith}
use borrow.Author.Rules.{rules}
use lib.ListN.{get_or}
use Rattle.lists.specs.Options.{option_of}
use Rattle.resolver.proofs.LookLaws.{looked-none, looked}
use Rattle.resolver.proofs.blocks.look_up_near.Goals as goal

pub returns-in_err-key : goal.returns-in_err-key
returns-in_err-key c =
    ap option_of c.from_residual.ensures ∙ looked-none c.args.tag c.args.date _ c.args.sorted.sorted _ _ c.lowest_key.ensures.0 c.count_near-i.ensures.value (search rules)

pub returns : goal.returns
returns c =
    let keys = c.args.sorted.keys.now in
    looked c.args.tag c.args.date keys c.args.sorted.sorted _ _ c.lowest_key.ensures.0 c.count_near-i.ensures.value (get_or keys c.in_ok-key.field-0 0) _ (λ z. omega (arith, c.in_ok-key.ensures.0))
    (ap (λ i. get_or keys i 0) c.in_ok-key.ensures.1) (rw c.lowest_key-2.ensures.0 at c.then_some.ensures)
