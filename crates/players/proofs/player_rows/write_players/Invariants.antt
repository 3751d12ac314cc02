-- The rows of the players passed stand at the front, and the cells behind them are as they were.
use Prim.Native.Nat.{◌*◌}
use Rattle.std.specs.Iterator.Adapters.{enumerate_source, enumerate_count}
use Rattle.lists.proofs.WriteLaws.{Writing}
use Rattle.rules.specs.Players.{player_rows, player_width}
use Rattle.players.specs.PlayerSteps.{players_left}
use Rattle.players.proofs.player_rows.write_players.Given as goal

abbrev pub invariant-loop-i : goal.invariant-loop-i
invariant-loop-i l =
    Writing (player_rows (players_left l.fn.players)) (player_rows (players_left (enumerate_source l.i-iterator))) l.fn.out (player_width * enumerate_count l.i-iterator) l.out
