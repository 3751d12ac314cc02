-- The outcome by its case: a bad date, or the counts.
use mathlib.Core.Path.{sym, ◌∙◌}
use Rattle.owner_changes.proofs.OutcomeLaws.{events-bad, events-run}
use Rattle.owner_changes.proofs.owners.events_on_of.Goals as goal

pub returns-then-not-is_valid : goal.returns-then-not-is_valid
returns-then-not-is_valid c = events-bad _ _ c.args.opened.accepted (sym c.is_valid.ensures ∙ c.if-not-is_valid.true)

pub returns : goal.returns
returns c = events-run _ _ _ c.args.opened.accepted (sym c.is_valid.ensures ∙ c.if-not-is_valid.false) c.count_on.ensures
