-- A refused record, or the outcome of the record that was opened.
use Rattle.std.proofs.Common.{ap, ◌∙◌, List, ℕ}
use Rattle.std.proofs.lemmas.Result.{err_from_is_err_and}
use Rattle.rules.specs.PlayerOutcomes.{call_player_histories}
use Rattle.players.specs.LentSlices.{history_cells}
use Rattle.players.proofs.HistoryOutcomeLaws.{call-refused}
use Rattle.players.proofs.histories.player_histories.Goals as goal

pub returns-in_err-opened : goal.returns-in_err-opened
returns-in_err-opened c =
    let p = err_from_is_err_and c.from_residual.result c.from_residual.ensures.1 in
    rw (p.1, p.2) (call-refused _ _ _ _ _ c.in_err-opened.ensures.number)

pub returns : goal.returns
returns c =
    c.player_histories_of.ensures
    ∙ ap (λ (xs : List ℕ). call_player_histories xs c.args.nations.now c.args.entries.now (history_cells c.args.histories.now c.args.names.now)) c.in_ok-opened.ensures.bytes
