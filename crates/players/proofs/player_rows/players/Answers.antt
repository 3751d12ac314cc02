-- A refused record, or the outcome of the record that was opened.
use Rattle.std.proofs.Common.{ap, ◌∙◌, List, ℕ}
use Rattle.std.proofs.lemmas.Result.{err_from_is_err_and}
use Rattle.rules.specs.PlayerOutcomes.{call_players}
use Rattle.players.proofs.PlayerLaws.{players_refused}
use Rattle.players.proofs.player_rows.players.Goals as goal

pub returns-in_err-opened : goal.returns-in_err-opened
returns-in_err-opened c =
    let p = err_from_is_err_and c.from_residual.result c.from_residual.ensures.1 in
    rw (p.1, p.2) (players_refused _ _ _ c.in_err-opened.ensures.number)

pub returns : goal.returns
returns c = c.players_of.ensures ∙ ap (λ (xs : List ℕ). call_players xs c.args.out.now) c.in_ok-opened.ensures.bytes
