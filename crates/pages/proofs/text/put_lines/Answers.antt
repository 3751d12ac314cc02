-- One line more: it was the first of those left, and stands now behind those passed.
use Rattle.std.proofs.Common.{◌≡◌, ◌++◌, ◌+◌, ◌≤◌, take, length, length-append, ap, ◌∙◌, sym, arith}
use Rattle.pages.specs.Selecting.{tags_left}
use Rattle.pages.specs.Stored.{lines_of}
use Rattle.pages.proofs.PutLaws.{put_front, put_behind}
use Rattle.pages.proofs.text.put_lines.Goals as goal

pub loop-tag-preserved : goal.loop-tag-preserved
loop-tag-preserved c =
    let ns = c.args.stored.nations.now in
    let living = c.args.stored.living.now in
    let rest = lines_of ns living (tags_left c.next.new.self) in
    let text = c.as_slice.result.now in
    let written : text ≡ c.line-line.result.items = c.as_slice.ensures.value in
    let step : lines_of ns living (tags_left c.loop-tag.tag-iterator) ≡ text ++ rest =
    ap (lines_of ns living) c.in-Some.ensures.steps ∙ ap (λ xs. xs ++ rest) (sym (written ∙ c.line-line.ensures)) in
    let counted : c.len-k.result ≡ length text = c.len-k.ensures.value ∙ ap length (sym written) in
    let whole = length-append text rest in
    let longer = ap length step in
    let room : c.loop-tag.k + length text ≤ length c.loop-tag.out = omega (arith, whole, longer, c.loop-tag.invariant.0, c.requires, c.loop-tag.auto.out) in
    rw (counted, c.put_at.ensures) (
      omega (arith, whole, longer, c.loop-tag.invariant.0),
      put_front c.loop-tag.k c.loop-tag.out text rest _ c.args.out.now room (ap (λ xs. take c.loop-tag.k c.loop-tag.out ++ xs) (sym step) ∙ c.loop-tag.invariant.1),
      put_behind c.loop-tag.k c.loop-tag.out text rest rest c.args.out.now room c.loop-tag.invariant.2,
    )
