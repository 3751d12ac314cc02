-- Invariant: what is left of the room is short of it by the lines passed.
use Rattle.std.proofs.Common.{◌≡◌, ◌+◌, length}
use Rattle.pages.specs.Selecting.{tags_left}
use Rattle.pages.specs.Stored.{lines_of}
use Rattle.pages.proofs.text.lines_fit.Given as goal

abbrev pub invariant-loop-tag : goal.invariant-loop-tag
invariant-loop-tag l =
    length (lines_of l.stored.nations.now l.stored.living.now (tags_left l.fn.tags)) + l.left
    ≡ l.room + length (lines_of l.stored.nations.now l.stored.living.now (tags_left l.tag-iterator))
