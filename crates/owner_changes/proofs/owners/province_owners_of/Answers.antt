use mathlib.Core.Path.{◌∙◌}
use Rattle.owner_changes.proofs.OutcomeLaws.{owners-ahead}
use Rattle.owner_changes.proofs.owners.province_owners_of.Goals as goal

pub returns : goal.returns
returns c = c.write_ordered.ensures ∙ owners-ahead _ _ _ c.args.opened.accepted c.args.opened.told.provinces
