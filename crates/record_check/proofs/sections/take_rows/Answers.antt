-- As many rows as are asked for: the bytes that were cut off hold just so many.
use mathlib.Core.Path.{◌∙◌}
use Rattle.record_check.proofs.ReadLaws.{chunks-told}
use Rattle.record_check.proofs.sections.take_rows.Goals as goal

pub returns : goal.returns
returns g c =
    let cut = c.in_ok-rows.ensures.cases in
    (cut.0, c.as_chunks.ensures.front ∙ chunks-told g.row.WIDTH c.args.n c.args.bytes.now c.in_ok-rows.rows.now c.requires.0 cut.1 cut.3, cut.2)
