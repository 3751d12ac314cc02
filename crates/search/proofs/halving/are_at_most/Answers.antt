-- The last key shows it.
use Rattle.std.proofs.Common.{rules, ◌≡◌, ◌-◌, leb, length, Some}
use denote.Ref.{Bor}
use Prim.Native.Nat.{ℕ}
use Rattle.search.proofs.HalvingLaws.{shown-at, shown-least}
use Rattle.search.proofs.halving.are_at_most.Goals as goal

pub returns : goal.returns
returns c =
    let told : (k : Bor ℕ) → c.last.result ≡ Some k → c.is_none_or.result ≡ leb k.now c.args.x = search rules in
    let keys = c.args.keys.now in
    λ t s. shown-least keys c.args.x (shown-at keys (length keys - 1) (λ k. leb k c.args.x) _ _ c.last.ensures.value told t) s
