-- The two tests of shape in turn, then what the rows tell.
use mathlib.Core.Path.{◌≡◌, sym, ap, ◌∙◌}
use mathlib.Core.List.{List}
use Prim.Native.Nat.{ℕ}
use denote.Ref.{Bor}
use mathlib.Core.Bool.{true}
use borrow.Author.Tests.{not-true, not-false}
use Rattle.std.proofs.lemmas.Result.{err_from_is_err_and}
use Rattle.rules.specs.NationRows.{nations_in, well_shaped}
use Rattle.rules.specs.HistoryRows.{histories_shaped}
use Rattle.rows.proofs.NumberedLaws.{opened_shaped}
use Rattle.players.proofs.LackLaws.{nations-many, chronicle-refused, histories-refused, starting-gives}
use Rattle.players.proofs.starting.starting_country.Goals.{After-is_history_shaped}
use Rattle.players.proofs.starting.starting_country.Goals as goal

-- The chronicle is well shaped, and the histories were tested beside its nations.
shaped : (c : After-is_history_shaped) → well_shaped c.args.nations.now c.args.entries.now ≡ true
shaped c = opened_shaped _ _ c.in_ok-chronicle.ensures.number

tested : (c : After-is_history_shaped) → c.is_history_shaped.result ≡ histories_shaped (nations_in c.args.nations.now c.args.entries.now) c.args.histories.now
tested c = c.is_history_shaped.ensures _ (c.nation_count.ensures ∙ sym (nations-many _ _ (shaped c)))

pub returns-in_err-chronicle : goal.returns-in_err-chronicle
returns-in_err-chronicle c =
    let p = err_from_is_err_and c.from_residual.result c.from_residual.ensures.1 in
    rw (p.1, p.2) (chronicle-refused _ _ _ _ c.in_err-chronicle.ensures.number)

pub returns-then-not-is_history_shaped : goal.returns-then-not-is_history_shaped
returns-then-not-is_history_shaped c =
    let at = (goal.at.returns-then-not-is_history_shaped c).After-is_history_shaped in
    histories-refused _ _ _ (shaped at) (sym (tested at) ∙ not-true _ c.if-not-is_history_shaped.true-raw)

pub returns : goal.returns
returns c =
    let at = (goal.at.returns c).After-is_history_shaped in
    starting-gives _ _ _ (shaped at) (sym (tested at) ∙ not-false _ c.if-not-is_history_shaped.false-raw) _ _
    (ap (λ (b : Bor (List ℕ)). b.now) c.in_ok-chronicle.ensures.chronicle.0) (ap (λ (b : Bor (List ℕ)). b.now) c.in_ok-chronicle.ensures.chronicle.1) _ c.starting_in.ensures
