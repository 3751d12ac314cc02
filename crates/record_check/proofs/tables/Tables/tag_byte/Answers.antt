use mathlib.Core.Path.{ap, ◌∙◌}
use mathlib.Core.Bool.{false}
use native.Mathlib.Omega.{arith}
use Rattle.std.specs.Option.{unwrap_or}
use Rattle.record_check.proofs.tables.Tables.tag_byte.Goals as goal

pub returns : goal.returns
returns c =
    c.unwrap_or.ensures
    ∙ ap (λ o. unwrap_or o false) c.copied.ensures
    ∙ c.get.ensures.lookup.4 (omega arith) false
    ∙ c.args.self.now.tag_rule.rule c.args.b
