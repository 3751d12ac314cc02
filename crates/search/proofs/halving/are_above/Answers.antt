-- The first key shows it.
use Rattle.std.proofs.Common.{rules, ◌≡◌, ◌/◌, ltb, Some}
use denote.Ref.{Bor}
use Prim.Native.Nat.{ℕ}
use Rattle.search.proofs.HalvingLaws.{shown-at, shown-most}
use Rattle.search.proofs.halving.are_above.Goals as goal

pub returns : goal.returns
returns c =
    let told : (k : Bor ℕ) → c.first.result ≡ Some k → c.is_none_or.result ≡ ltb (c.args.x / 2) (k.now / 2) = search rules in
    let keys = c.args.keys.now in
    λ t s. shown-most keys c.args.x (shown-at keys 0 (λ k. ltb (c.args.x / 2) (k / 2)) _ _ c.first.ensures.value told t) s
