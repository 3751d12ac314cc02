-- The invariant: the drafts of the countries passed stand at the front.
use mathlib.Core.List.{map}
use Rattle.lists.proofs.FillLaws.{Filling}
use Rattle.players.specs.CountryDrafts.{played_left, draft_for}
use Rattle.players.proofs.country_drafts.fill_drafts.Given as goal

abbrev pub invariant-loop-row : goal.invariant-loop-row
invariant-loop-row l =
    let draft = draft_for l.fn.nations l.fn.tags.keys.now l.fn.cells l.fn.players.keys.now in
    Filling (map draft (played_left l.fn.countries)) (map draft (played_left l.row-iterator)) l.fn.out l.n l.out
