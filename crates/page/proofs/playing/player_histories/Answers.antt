-- A slice that has room for seven words of each history has more words than histories.
use native.Mathlib.Omega.{arith}
use mathlib.Core.Path.{◌≡◌}
use borrow.Author.Rules.{rules}
use Rattle.rules.specs.Lent.{outcome_of}
use Rattle.page.specs.Playing.{call_player_histories_given}
use Rattle.players.specs.LentSlices.{history_cells}
use Rattle.page.proofs.HostLaws.{outcome-returned}
use Rattle.page.proofs.PlayingLaws.{first-given}
use Rattle.page.proofs.playing.player_histories.Goals as goal

pub returns : goal.returns
unfolding call_player_histories_given
returns c =
    let called = c.player_histories-answer in
    let before = history_cells c.args.histories.now c.args.names.now in
    let told : outcome_of (λ n. n) c.map.result (history_cells called.new.histories called.new.names) ≡ call_player_histories_given c.args.s.now c.args.nations.now c.args.entries.now before = search rules in
    outcome-returned _ _ c.returned.type_inv c.returned.ensures _ _ told (λ n e. omega (arith, first-given _ _ _ _ n e))
