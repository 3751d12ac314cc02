-- Two counts are the ends of the run.
use Rattle.players.proofs.PlayerKeyLaws.{run_told}
use Rattle.players.proofs.country_drafts.player_run.Goals as goal

pub returns : goal.returns
returns c = run_told _ _ _ _ _ c.tag_key-low.ensures c.count_below.ensures.value c.count_below-2.ensures.value c.count_below-2.ensures.inside
