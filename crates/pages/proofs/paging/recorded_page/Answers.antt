-- Past the limits there is no page, within them it is the text of the listed nations.
use Rattle.std.proofs.Common.{◌≡◌, ◌∙◌, sym, ap, List, ℕ}
use Rattle.format.specs.declared.refused.Refusal.TheVariants.{NoRoom}
use Rattle.rules.specs.PageOutcomes.{selection_number}
use Rattle.pages.specs.Texts.{call_lines}
use Rattle.pages.proofs.PagingLaws.{PageBegun, paged-refused, number-left, paged-text}
use Rattle.pages.proofs.TextLaws.{rows_few, text-listed}
use Rattle.pages.proofs.paging.recorded_page.Goals as goal

pub returns-in_default : goal.returns-in_default
returns-in_default c =
    let begun : PageBegun c.args.opened.bytes.now c.args.selection.now = record { few = c.requires.few; accepted = c.args.opened.accepted; tags = ap selection_number c.requires.read } in
    let over = rw c.in_default.is at c.list_nations.ensures in
    paged-refused _ _ _ NoRoom (sym (number-left _ _ begun ∙ over))

pub returns : goal.returns
returns c =
    let begun : PageBegun c.args.opened.bytes.now c.args.selection.now = record { few = c.requires.few; accepted = c.args.opened.accepted; tags = ap selection_number c.requires.read } in
    let listed = rw c.in-Some.is at c.list_nations.ensures in
    paged-text _ _ begun _ listed.1.limits _ _
    (c.write_text.ensures ∙ ap (λ t. call_lines t c.args.out.now) (text-listed _ _ begun.accepted listed.1 c.requires.read))
