-- The outcome by its case: a refused record, or that of the record that was opened.
use mathlib.Core.Path.{ap, ◌∙◌}
use mathlib.Core.List.{List}
use Prim.Native.Nat.{ℕ}
use Rattle.std.proofs.lemmas.Result.{err_from_is_err_and}
use Rattle.record.proofs.ToldLaws.{opened-bytes, refused-told}
use Rattle.rules.specs.Outcomes.{call_province_owners}
use Rattle.owner_changes.proofs.OutcomeLaws.{owners-refused}
use Rattle.owner_changes.proofs.owners.province_owners.Goals as goal

pub returns : goal.returns
returns c = c.province_owners_of.ensures ∙ ap (λ (xs : List ℕ). call_province_owners xs c.args.out.now) (opened-bytes c.open.ensures c.in_ok-opened.was)

pub returns-in_err-opened : goal.returns-in_err-opened
returns-in_err-opened c =
    let p = err_from_is_err_and c.from_residual.result c.from_residual.ensures.1 in
    rw (p.1, p.2) (owners-refused _ _ _ (refused-told c.open.ensures c.in_err-opened.was))
