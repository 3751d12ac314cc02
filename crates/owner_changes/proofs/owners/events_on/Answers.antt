-- The outcome by its case: a refused record, or that of the record that was opened.
use mathlib.Core.Path.{ap, ◌∙◌}
use mathlib.Core.List.{List}
use Prim.Native.Nat.{ℕ}
use Rattle.std.proofs.lemmas.Result.{err_from_is_err_and}
use Rattle.record.proofs.ToldLaws.{opened-bytes, refused-told}
use Rattle.rules.specs.Outcomes.{call_events_on}
use Rattle.owner_changes.proofs.OutcomeLaws.{events-refused}
use Rattle.owner_changes.proofs.owners.events_on.Goals as goal

pub returns : goal.returns
returns c = c.events_on_of.ensures ∙ ap (λ (xs : List ℕ). call_events_on xs c.args.date.0) (opened-bytes c.open.ensures c.in_ok-opened.was)

pub returns-in_err-opened : goal.returns-in_err-opened
returns-in_err-opened c =
    let p = err_from_is_err_and c.from_residual.result c.from_residual.ensures.1 in
    rw (p.1, p.2) (events-refused _ _ _ (refused-told c.open.ensures c.in_err-opened.was))
