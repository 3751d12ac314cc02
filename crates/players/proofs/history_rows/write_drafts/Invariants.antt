-- The invariant: the histories of the drafts passed stand at the front.
use mathlib.Core.List.{map}
use Rattle.players.proofs.ArrangeStepLaws.{Wrote}
use Rattle.players.proofs.history_rows.write_drafts.Given as goal

abbrev pub invariant-loop-draft : goal.invariant-loop-draft
invariant-loop-draft g l =
    (goal.iterator-loop-draft g).can_next l.draft-iterator
    × (goal.iterator-loop-draft g).is_finite l.draft-iterator
    × Wrote (map (λ d. d) l.yielded) l.fn.names l.fn.out l.first l.at l.out
