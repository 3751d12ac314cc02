-- How the code walks the players of a campaign: inner steps.
use Rattle.std.specs.Prelude as code
use Rattle.std.specs.Prelude.{List, [], ◌∷◌, Some, None}
use Rattle.lists.specs.Lists.{join_of}
use Rattle.rules.specs.Players.{player_of}
use Rattle.format.specs.declared.values.Player.{Player}
use Rattle.players.specs.declared.walk.PlayersOf.{PlayersOf}
use Rattle.players.specs.PairSteps.{pairs_left}

-- What came of a pair: at most one player.
abbrev pub players_made : code.Option Player → List Player
players_made (Some p) = p ∷ []
players_made None = []

-- The players that an iterator has left.
abbrev pub players_left : PlayersOf → List Player
players_left it = join_of (player_of it.multiplayer) (pairs_left it.pairs)
