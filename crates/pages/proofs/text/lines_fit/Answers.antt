-- With short counts there is room for short lines.
use native.Mathlib.Omega.{arith}
use borrow.Author.Tests.{leb-true}
use Rattle.std.proofs.Common.{sym, ◌∙◌}
use Rattle.lists.proofs.BoolLaws.{and_left, and_right}
use Rattle.pages.specs.Selecting.{tags_left}
use Rattle.pages.proofs.StoredLaws.{lines-have-room}
use Rattle.pages.proofs.text.lines_fit.Goals as goal

pub returns-then-len-room : goal.returns-then-len-room
returns-then-len-room c =
    let room = leb-true _ _ (and_left _ c.are_short.result c.if-len-room.true) in
    let short = and_right _ c.are_short.result c.if-len-room.true in
    sym (lines-have-room c.args.stored.nations.now c.args.stored.living.now (sym c.are_short.ensures ∙ short) (tags_left c.args.tags) c.args.room (omega (arith, room, c.len.ensures)))
