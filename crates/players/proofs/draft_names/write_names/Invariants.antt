-- The invariant: the names of the drafts passed stand at the front.
use Rattle.lists.specs.Lists.{All, join_of}
use Prim.Native.Nat.{◌+◌, ◌≤◌}
use lib.ListN.{length, drop}
use Rattle.lists.proofs.FillLaws.{Filling}
use Rattle.players.specs.ArrangedDrafts.{names_at}
use Rattle.players.proofs.draft_names.write_names.Given as goal

abbrev pub invariant-loop-draft : goal.invariant-loop-draft
invariant-loop-draft l =
    All (λ d. d.first + d.count ≤ length l.fn.keys) (drop l.draft-index l.fn.drafts)
    × Filling (join_of (names_at l.fn.keys) l.fn.drafts) (join_of (names_at l.fn.keys) (drop l.draft-index l.fn.drafts)) l.fn.out l.at l.out
