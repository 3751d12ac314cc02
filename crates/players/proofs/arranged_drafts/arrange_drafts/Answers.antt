-- By the room that there is.
use native.Mathlib.Omega.{arith}
use Rattle.std.proofs.Common.{rules, tests}
use Rattle.std.proofs.lemmas.Iterator.Consumers.{count_from_yields_List}
use Rattle.players.specs.LentSlices.{history_cells}
use Rattle.players.specs.Drafts.{is_played, is_leftover}
use Rattle.players.proofs.DraftLaws.{drafts-kept}
use Rattle.players.proofs.ArrangeLaws.{total-few, Counted, counted, histories-ready, arranged-short, arranged-rows}
use Rattle.players.proofs.arranged_drafts.arrange_drafts.Goals.{After-count_names-total}
use Rattle.players.proofs.arranged_drafts.arrange_drafts.Goals as goal

pub vanishing-vanished-requires : goal.vanishing-vanished-requires
vanishing-vanished-requires c =
    count_from_yields_List _ _ c.count-played.ensures.ran (drafts-kept _ is_played c.args.drafts.now c.iter.ensures.rest c.filter.ensures.source c.filter.ensures.closure (λ x b q k. search (rules, tests)))

-- What was counted.
told : (c : After-count_names-total) → Counted c.args.ironman c.args.drafts.now c.vanishing-vanished.result c.count-played.result c.saturating_sub-kept.result c.count_names-total.result
told c =
    counted _ _ _ _ _ _ _ _ c.vanishing-vanished.ensures
    (count_from_yields_List _ _ c.count-played.ensures.ran (drafts-kept _ is_played c.args.drafts.now c.iter.ensures.rest c.filter.ensures.source c.filter.ensures.closure (λ x b q k. search (rules, tests))))
    (count_from_yields_List _ _ c.count-leftovers.ensures.ran (drafts-kept _ is_leftover c.args.drafts.now c.iter-2.ensures.rest c.filter-2.ensures.source c.filter-2.ensures.closure (λ x b q k. search (rules, tests))))
    (search rules) c.saturating_sub-kept.ensures c.count_names-total.ensures

pub returns-then-histories-n : goal.returns-then-histories-n
returns-then-histories-n c =
    arranged-short _ _ _ c.requires (history_cells c.args.histories.now c.args.names.now) _ _ _ _ (told (goal.at.returns-then-histories-n c).After-count_names-total) c.if-histories-n.true

pub overflow_cast-total : goal.overflow_cast-total
overflow_cast-total c = omega (arith, total-few c.args.keys.now c.args.drafts.now c.requires, c.count_names-total.ensures)

pub write_histories-requires : goal.write_histories-requires
write_histories-requires c =
    histories-ready _ _ _ c.requires (history_cells c.args.histories.now c.args.names.now) _ _ _ _ (told (goal.at.write_histories-requires c).After-count_names-total) c.if-histories-n.false

pub returns : goal.returns
returns c =
    arranged-rows _ _ _ c.requires (history_cells c.args.histories.now c.args.names.now) _ _ _ _ (told (goal.at.returns c).After-count_names-total) c.if-histories-n.false
    _ _ c.write_histories.ensures c.write_names.ensures
