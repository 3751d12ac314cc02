-- Players and countries of an accepted record are few, so the tables have room.
use mathlib.Core.Path.{◌∙◌}
use lib.ListN.{length-replicate}
use Rattle.players.specs.PlayerSteps.{players_left}
use Rattle.players.proofs.PlayerLaws.{PlayersTold, players-told}
use Rattle.players.proofs.HistoryOutcomeLaws.{few-keys, ready-told, outcome-told}
use Rattle.players.proofs.histories.drafted_histories.Goals.{After-new-players}
use Rattle.players.proofs.histories.drafted_histories.Goals as goal

told : (g : _) (c : After-new-players g) → PlayersTold c.args.opened.bytes.now (players_left c.new-players.result)
told g c = players-told c.args.opened _ c.new-players.ensures

pub sort_players-players-requires : goal.sort_players-players-requires
sort_players-players-requires g c = (told g (goal.at.sort_players-players-requires g c).After-new-players).few

pub draft_countries-n-requires : goal.draft_countries-n-requires
draft_countries-n-requires g c =
    record {
      few = c.requires.enough;
      possible = c.requires.possible;
      short = few-keys _ _ (told g (goal.at.draft_countries-n-requires g c).After-new-players).few c.sort_players-players.ensures;
      room = length-replicate g.row.COUNTRIES c.blank-drafts.result;
    }

pub arrange_drafts-requires : goal.arrange_drafts-requires
arrange_drafts-requires g c =
    ready-told c.args.opened c.args.chronicle.nations.now _ (told g (goal.at.arrange_drafts-requires g c).After-new-players) _ _ c.sort_players-players.ensures c.draft_countries-n.ensures.drafts

pub returns : goal.returns
returns g c =
    c.arrange_drafts.ensures
    ∙ outcome-told c.args.opened c.args.chronicle.nations.now _ (told g (goal.at.returns g c).After-new-players) _ _ c.sort_players-players.ensures c.draft_countries-n.ensures.drafts
    c.args.chronicle.entries.now c.requires.shaped c.requires.numbered _
