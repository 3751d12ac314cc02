-- By what there is: a first switch, else a first previous tag, else neither.
use Rattle.nation_tables.proofs.tables.TargetLaws.{initial-switched, initial-first}
use Rattle.nation_tables.proofs.switches.first_tag.Goals as goal

pub returns-in-Some : goal.returns-in-Some
returns-in-Some c = initial-switched _ _ c.in-Some.ensures.steps

pub returns-in-None : goal.returns-in-None
returns-in-None c = initial-first _ _ _ c.in-None.ensures.steps.0 _ c.next-in-None.ensures.steps c.unwrap_or.ensures
