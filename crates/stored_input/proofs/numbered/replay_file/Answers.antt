-- The list is tallied by the bytes of its cases, in a file that was opened.
use Rattle.std.proofs.Common.{rules}
use Rattle.stored_input.proofs.NumberedLaws.{list_replayed}
use Rattle.stored_input.proofs.numbered.replay_file.Goals as goal

pub returns : goal.returns
returns g c =
    let told = c.in_ok-all.ensures in
    rw c.unread_as_broken.ensures (search rules, told.1, told.2, list_replayed _ _ _ _ _ told.3)
