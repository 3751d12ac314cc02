-- The keys in front are sorted.
use mathlib.Core.Path.{sym, ◌∙◌}
use lib.ListN.{length-map}
use Rattle.players.specs.PlayerSteps.{players_left}
use Rattle.players.specs.TagTables.{player_key}
use Rattle.players.proofs.DraftingLaws.{keys-again}
use Rattle.players.proofs.tag_tables.sort_players.Goals as goal

pub invariant_of-result : goal.invariant_of-result
invariant_of-result c =
    record { sorted = keys-again _ _ _ _ _ _ c.fill_players-n.ensures.1 (c.fill_players-n.ensures.0 ∙ sym (length-map (players_left c.args.players) player_key)) c.sort_keys.ensures.keys }
