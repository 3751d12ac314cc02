-- Of the claims that are asked about the one with the greatest date, and of equals the last.
use Rattle.std.proofs.Common.{rules, tests}
use Rattle.resolver.specs.Claims.{claims_in, is_asked}
use Rattle.resolver.proofs.ClaimLaws.{best-reduced, claims-asked}
use Rattle.resolver.proofs.best.best_claim.Goals as goal

pub returns : goal.returns
returns c =
    let f = c.filter.ensures in
    best-reduced _ _ (λ x y z q k. search (rules, tests)) _ c.reduce.result
    (claims-asked _ (is_asked c.args.tag c.args.date) (claims_in c.args.chronicle.nations.now c.args.chronicle.entries.now) c.new.ensures f.source f.closure (λ x b q k. search (rules, tests)))
    c.reduce.ensures.ran
