-- The lines and what is behind them are those of the bytes.
use Rattle.std.proofs.Common.{ap, ◌∙◌, eqb}
use Rattle.pages.proofs.SelectionLaws.{is-read}
use Rattle.pages.proofs.selection.read_selection.Goals as goal

pub returns : goal.returns
returns c =
    rw c.then_some.ensures
    (is-read c.args.selection.now _ _ _ (c.is_empty.ensures ∙ ap (λ n. eqb n 0) c.as_chunks.ensures.back_len) c.as_chunks.ensures.front c.are_tag_lines.ensures)
