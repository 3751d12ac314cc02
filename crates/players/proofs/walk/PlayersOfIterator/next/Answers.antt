-- The first pair that gives a player, and those behind it.
use Rattle.std.proofs.Common.{rules, tests}
use Rattle.lists.proofs.ProgressLaws.{progress}
use Rattle.players.specs.PlayerSteps.{players_left}
use Rattle.players.proofs.WalkLaws.{player-found}
use Rattle.players.proofs.walk.PlayersOfIterator.next.Goals as goal

pub returns-clause-steps : goal.returns-clause-steps
returns-clause-steps c =
    let d = c.find_map.ensures.ran in
    player-found _ c.args.self.now.multiplayer _ (λ x r q k. search (rules, tests)) d.0 d.1 d.2 c.args.self.now.pairs d.3.0 c.find_map.new.self c.find_map.result _ d.3.1 d.3.2 d.4 d.5
    c.find_map.ensures.runs

pub returns-clause-goes : goal.returns-clause-goes
returns-clause-goes c = progress (λ x. x) players_left (returns-clause-steps c)
