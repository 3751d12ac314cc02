-- Invariant: the lines passed stand at the front, and what they and the lines left make is the whole.
use Rattle.std.proofs.Common.{◌≡◌, ◌+◌, ◌++◌, length, take, drop}
use Rattle.pages.specs.Selecting.{tags_left}
use Rattle.pages.specs.Stored.{lines_of}
use Rattle.pages.proofs.text.put_lines.Given as goal

abbrev pub invariant-loop-tag : goal.invariant-loop-tag
invariant-loop-tag l =
    (l.k + length (lines_of l.stored.nations.now l.stored.living.now (tags_left l.tag-iterator)) ≡ length (lines_of l.stored.nations.now l.stored.living.now (tags_left l.fn.tags)))
    × (take l.k l.out ++ lines_of l.stored.nations.now l.stored.living.now (tags_left l.tag-iterator) ≡ lines_of l.stored.nations.now l.stored.living.now (tags_left l.fn.tags))
    × (drop l.k l.out ≡ drop l.k l.initial.out)
