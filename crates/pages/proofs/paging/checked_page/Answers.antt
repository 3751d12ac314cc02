-- Each check by its number, in their order; what passes them all is a page begun.
use Rattle.std.proofs.Common.{◌≡◌, ◌∙◌, sym, ap, arith}
use Rattle.std.proofs.lemmas.Result.{err_from_is_err_and}
use Rattle.format.specs.declared.refused.Refusal.TheVariants.{NoRoom, BadQuestion}
use Rattle.rules.specs.PageOutcomes.{bytes_number, selection_number}
use Rattle.record.proofs.ToldLaws.{opened-bytes, refused-told}
use Rattle.pages.proofs.BeginLaws.{bytes-many, bytes-few}
use Rattle.pages.proofs.PagingLaws.{paged-refused, number-many, number-bad, number-no-tags}
use Rattle.pages.proofs.paging.checked_page.Goals as goal

pub returns-then-s-selection : goal.returns-then-s-selection
returns-then-s-selection c = paged-refused _ _ _ NoRoom (number-many _ _ (bytes-many _ _ c.if-s-selection.true))

pub returns-in_err-opened : goal.returns-in_err-opened
returns-in_err-opened c =
    let told = refused-told c.open.ensures c.in_err-opened.was in
    let p = err_from_is_err_and c.from_residual.result c.from_residual.ensures.1 in
    rw (p.1, p.2) (paged-refused _ _ _ _ (number-bad _ _ (bytes-few _ _ c.if-s-selection.false) _ told.1))

pub returns-in_err-tags : goal.returns-in_err-tags
returns-in_err-tags c =
    let p = err_from_is_err_and c.from_residual-in_err-tags.result c.from_residual-in_err-tags.ensures.1 in
    let same : c.in_err-tags.field-0.0 ≡ BadQuestion = grind arith in
    let bytes = opened-bytes c.open.ensures c.in_ok-opened.was in
    let accepted = rw bytes at c.in_ok-opened.opened.accepted in
    rw (p.1, p.2, same)
    (paged-refused _ _ _ BadQuestion
    (number-no-tags _ _ (bytes-few _ _ c.if-s-selection.false) accepted (ap selection_number (rw c.in_err-tags.ensures.ok_part at c.read_selection.ensures))))

pub recorded_page-requires-clause-few : goal.recorded_page-requires-clause-few
recorded_page-requires-clause-few c =
    let bytes = opened-bytes c.open.ensures c.in_ok-opened.was in
    ap (λ xs. bytes_number xs c.args.selection.now) bytes ∙ bytes-few _ _ c.if-s-selection.false
