-- The last key tells the latest target.
use mathlib.Core.Path.{ap, ◌∙◌}
use Rattle.nation_tables.specs.Switches.{target_in}
use Rattle.nations.proofs.MergeEntryLaws.{latest-some}
use Rattle.nations.proofs.country_entries.latest.Goals as goal

pub returns-in-Some : goal.returns-in-Some
returns-in-Some c =
    let found = c.in-Some.ensures.item.3 in
    latest-some c.args.targets.now c.args.run.now c.args.initial _ found.0 (c.switch_target.ensures ∙ ap (target_in c.args.targets.now) (found.1 0))
