-- What the two passes found is what the rules ask of the record.
use mathlib.Core.Path.{ap₂, ◌∙◌}
use mathlib.Core.Bool.{◌||◌}
use Rattle.record_check.proofs.RepeatLaws.{repeats-told}
use Rattle.record_check.proofs.repeats.repeated.Goals as goal

pub returns : goal.returns
returns c = let p = c.args.parsed in ap₂ ◌||◌ c.tag_twice.ensures c.id_twice_or_above.ensures ∙ repeats-told p.bytes.now p.head p.sections p.head_read p.rows_read
