-- Too short a slice, or the rows of all players.
use Rattle.std.proofs.Common.{◌≡◌, length, refl, inl, arith}
use Rattle.std.proofs.lemmas.Iterator.Consumers.{YieldsList-from_first, count_from_yields_List}
use Rattle.players.specs.PlayerSteps.{players_left}
use Rattle.players.proofs.PlayerLaws.{PlayersTold, players-told, players_short, players_rows}
use Rattle.players.proofs.player_rows.players_of.Goals.{After-new-players, After-count-n}
use Rattle.players.proofs.player_rows.players_of.Goals as goal

told : (c : After-new-players) → PlayersTold c.args.opened.bytes.now (players_left c.new-players.result)
told c = players-told c.args.opened _ c.new-players.ensures

pub count-n-requires-clause-fits : goal.count-n-requires-clause-fits
count-n-requires-clause-fits c = inl (omega (arith, (told (goal.at.count-n-requires-clause-fits c).After-new-players).few))

counted : (c : After-count-n) → c.count-n.result ≡ length (players_left c.new-players.result)
counted c = count_from_yields_List _ _ c.count-n.ensures.ran (YieldsList-from_first (λ x. x) players_left _ refl)

pub overflow_mul-n : goal.overflow_mul-n
overflow_mul-n c =
    omega (arith, counted (goal.at.overflow_mul-n c).After-count-n, (told (goal.at.overflow_mul-n c).After-new-players).few)

pub returns-then-out-n : goal.returns-then-out-n
returns-then-out-n c =
    let at = goal.at.returns-then-out-n c in
    players_short _ _ _ _ (told at.After-new-players) (counted at.After-count-n) c.if-out-n.true

pub returns : goal.returns
returns c =
    let at = goal.at.returns c in
    players_rows _ _ _ _ (told at.After-new-players) (counted at.After-count-n) _ c.if-out-n.false c.write_players.ensures
