-- The line of the nation that the keys find, or of none.
use Rattle.std.proofs.Common.{sym, ◌∙◌}
use Rattle.pages.proofs.StoredLaws.{line-nowhere, place-within, line-there}
use Rattle.pages.proofs.stored.StoredNations.line.Goals as goal

pub bounds-self-i : goal.bounds-self-i
bounds-self-i c = place-within c.args.self.now.tables c.args.tag _ c.first_place.ensures c.in-Some.is

pub returns-in-Some : goal.returns-in-Some
returns-in-Some c =
    c.row_line.ensures ∙ sym (line-there c.args.self.now.tables c.args.tag _ c.first_place.ensures c.in-Some.is _ c.nation_row_at.ensures)

pub returns-in-None : goal.returns-in-None
returns-in-None c = c.absent_line.ensures ∙ sym (line-nowhere c.args.self.now.tables c.args.tag _ c.first_place.ensures c.in-None.is)
