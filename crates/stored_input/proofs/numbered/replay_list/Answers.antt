-- The list is tallied by the bytes of its cases.
use Rattle.stored_input.proofs.NumberedLaws.{list_replayed}
use Rattle.stored_input.proofs.numbered.replay_list.Goals as goal

pub returns-clause-counted : goal.returns-clause-counted
returns-clause-counted g c = rw c.unread_as_broken.ensures (list_replayed _ _ _ _ _ c.tally_list-all.ensures.counted)
