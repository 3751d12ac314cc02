-- At most 1,000 players are counted.
use native.Mathlib.Omega.{arith}
use Rattle.page.proofs.PlayingLaws.{players-counted}
use Rattle.page.proofs.HostLaws.{outcome-returned}
use Rattle.page.proofs.playing.players.Goals as goal

pub returns : goal.returns
returns c = outcome-returned _ _ c.returned.type_inv c.returned.ensures _ _ c.players.ensures (λ n e. omega (arith, players-counted _ _ n e))
