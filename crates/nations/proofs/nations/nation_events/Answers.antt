-- The outcome by its case: a refused record, or that of the record that was opened.
use mathlib.Core.Path.{ap, ◌∙◌}
use mathlib.Core.List.{List}
use Prim.Native.Nat.{ℕ}
use Rattle.std.proofs.lemmas.Result.{err_from_is_err_and}
use Rattle.record.proofs.ToldLaws.{opened-bytes, refused-told}
use Rattle.rules.specs.Outcomes.{call_nation_events}
use Rattle.nations.specs.LentCells.{nation_cells}
use Rattle.nations.proofs.answer.NationOutcomeLaws.{nations-refused}
use Rattle.nations.proofs.nations.nation_events.Goals as goal

pub returns : goal.returns
returns c =
    c.nation_events_of.ensures
    ∙ ap (λ (xs : List ℕ). call_nation_events xs (nation_cells c.args.nations.now c.args.entries.now c.args.holders.now c.args.held.now c.args.changes.now))
    (opened-bytes c.open.ensures c.in_ok-opened.was)

pub returns-in_err-opened : goal.returns-in_err-opened
returns-in_err-opened c =
    let p = err_from_is_err_and c.from_residual.result c.from_residual.ensures.1 in
    let told = refused-told c.open.ensures c.in_err-opened.was in
    rw (p.1, p.2) (nations-refused _ _ _ told.0 told.1)
