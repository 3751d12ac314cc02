-- A count is one word's, and the drafts are few.
use native.Mathlib.Omega.{arith}
use Rattle.std.proofs.Common.{rules, tests, ◌∙◌}
use Rattle.std.proofs.lemmas.Iterator.{YieldsList-from_map, YieldsList-from_slice}
use Rattle.std.proofs.lemmas.Iterator.Adapters.{fits_from_length, at_most_from_yields_List}
use Rattle.std.proofs.lemmas.Iterator.Consumers.{YieldsList-at, sum_by_from_yields_List}
use Rattle.players.specs.declared.drafts.Draft.{Draft}
use Rattle.players.proofs.DraftLaws.{sum_same}
use Rattle.players.proofs.draft_names.count_names.Goals as goal

pub sum-requires-clause-fits : goal.sum-requires-clause-fits
sum-requires-clause-fits c =
    fits_from_length _ _ 2000 _ (at_most_from_yields_List (YieldsList-at c.map.ensures.source (YieldsList-from_slice c.args.drafts.now c.iter.ensures.rest)) c.requires)
    c.map.ensures.closure (omega arith) (λ x r q k. search (rules, tests))

pub returns : goal.returns
returns c =
    sum_by_from_yields_List (λ (d : Draft). d.count) c.args.drafts.now c.map.result _ c.sum.ensures.ran
    (YieldsList-from_map _ (λ (d : Draft). d.count) (YieldsList-at c.map.ensures.source (YieldsList-from_slice c.args.drafts.now c.iter.ensures.rest))
    c.map.ensures.closure (λ x r q k. search (rules, tests)))
    ∙ sum_same _ _
