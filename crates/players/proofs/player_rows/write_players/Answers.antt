use Rattle.std.proofs.Common.{ap, ◌∙◌, arith}
use Rattle.lists.proofs.FillLaws.{filling-written}
use Rattle.lists.proofs.WriteLaws.{writing-none}
use Rattle.rules.specs.Players.{player_rows}
use Rattle.players.specs.PlayerSteps.{players_left}
use Rattle.players.proofs.PlayerLaws.{length-player_rows, row-written, rows_none}
use Rattle.players.proofs.player_rows.write_players.Goals as goal

pub loop-i-init : goal.loop-i-init
loop-i-init c =
    rw (c.into_iter-i-iterator.ensures.into_iter_gives, c.enumerate-i-items.ensures.source, c.enumerate-i-items.ensures.count)
    (writing-none _ _ (omega (arith, length-player_rows (players_left c.args.players), c.requires)))

pub loop-i-preserved : goal.loop-i-preserved
loop-i-preserved c =
    let steps = c.in-Some.ensures.steps in
    row-written _ _ _ _ _ c.loop-i.out _ _ _ _ _ c.loop-i.invariant steps.0 steps.1 steps.2 c.to_row.ensures c.put.ensures.cells

pub returns : goal.returns
returns c = filling-written _ _ _ _ _ c.loop-i.invariant (ap player_rows c.in-None.ensures.steps.0.0 ∙ rows_none)
