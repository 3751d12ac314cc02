-- The invariant: the keys of the players passed stand at the front.
use mathlib.Core.List.{map}
use Rattle.lists.proofs.FillLaws.{Filling}
use Rattle.players.specs.PlayerSteps.{players_left}
use Rattle.players.specs.TagTables.{player_key}
use Rattle.players.proofs.tag_tables.fill_players.Given as goal

abbrev pub invariant-loop-player : goal.invariant-loop-player
invariant-loop-player l =
    Filling (map player_key (players_left l.fn.players)) (map player_key (players_left l.player-iterator)) l.fn.keys l.n l.keys
