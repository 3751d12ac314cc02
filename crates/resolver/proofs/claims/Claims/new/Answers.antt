use Rattle.resolver.proofs.ClaimLaws.{claims_all}
use Rattle.resolver.proofs.claims.Claims.new.Goals as goal

pub returns : goal.returns
returns c = claims_all c.args.chronicle.nations.now _ _ _ _ c.none.ensures c.new.ensures
