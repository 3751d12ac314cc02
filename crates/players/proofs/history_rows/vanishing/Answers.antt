-- Three tests, and then the initial of the last leftover.
use mathlib.Core.Path.{◌≡◌, sym, ◌∙◌}
use mathlib.Core.List.{map-id}
use Rattle.std.proofs.Common.{rules, tests}
use Rattle.std.proofs.lemmas.Iterator.{YieldsList-from_map}
use Rattle.std.proofs.lemmas.Iterator.Consumers.{YieldsList-at}
use Rattle.std.proofs.lemmas.Iterator.Search.{any_from_yields_List}
use Rattle.std.specs.List.{list_any}
use Rattle.lists.specs.Lists.{keep}
use Rattle.players.specs.declared.drafts.Draft.{Draft}
use Rattle.players.specs.Drafts.{is_played, is_leftover}
use Rattle.players.proofs.DraftLaws.{drafts-kept, drained}
use Rattle.players.proofs.ArrangeLaws.{vanishes-none, vanishes-last}
use Rattle.players.proofs.history_rows.vanishing.Goals.{After-any-released}
use Rattle.players.proofs.history_rows.vanishing.Goals as goal

-- Whether any history with players is a released country's.
released : (c : After-any-released) → c.any-released.result ≡ list_any (λ (d : Draft). d.released) (keep is_played c.args.drafts.now)
released c =
    any_from_yields_List (λ (d : Draft). d.released) c.any-released.new.self _ c.any-released.result c.any-released.ensures.ran
    (drafts-kept _ is_played c.args.drafts.now c.iter.ensures.rest c.filter.ensures.source c.filter.ensures.closure (λ x b q k. search (rules, tests)))
    (λ x b q k. search (rules, tests))

pub returns-then-ironman-played : goal.returns-then-ironman-played
returns-then-ironman-played c =
    let f = c.filter-leftovers.ensures in
    let ran = c.last.ensures.ran in
    vanishes-last _ _ _ _ c.requires (released (goal.at.returns-then-ironman-played c).After-any-released) c.if-ironman-played.true ran.0
    (sym (map-id ran.0) ∙ drained ran.0 ran.1
    (YieldsList-from_map _ (λ (d : Draft). d.initial)
    (YieldsList-at c.map.ensures.source (drafts-kept _ is_leftover c.args.drafts.now c.iter-then-ironman-played.ensures.rest f.source f.closure (λ x b q k. search (rules, tests))))
    c.map.ensures.closure (λ x r q k. search (rules, tests))))
    _ ran.2

pub returns : goal.returns
returns c = vanishes-none _ _ _ _ c.requires (released (goal.at.returns c).After-any-released) c.if-ironman-played.false
