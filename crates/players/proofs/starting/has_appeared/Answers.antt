-- Every entry that the nation counts is asked.
use Rattle.std.proofs.Common.{rules, tests, refl}
use Rattle.std.proofs.lemmas.Iterator.Consumers.{YieldsList-from_first}
use Rattle.std.proofs.lemmas.Iterator.Search.{any_from_yields_List}
use Rattle.rules.specs.Chronicle.{is_appeared}
use Rattle.rows.specs.RowAt.{counted_left}
use Rattle.players.proofs.LackLaws.{bare-history, nation-walk}
use Rattle.players.proofs.starting.has_appeared.Goals as goal

pub returns-in_default : goal.returns-in_default
returns-in_default c = bare-history _ _ c.args.nation (search rules)

pub returns : goal.returns
returns c =
    nation-walk _ _ _ c.in-Some.nation _ _ _ (search rules) c.nation_row_at-row.ensures c.new.ensures
    (any_from_yields_List (λ e. is_appeared e.kind) c.any.new.self _ c.any.result c.any.ensures.ran
    (YieldsList-from_first (λ x. x) counted_left _ refl) (λ x b q k. search (rules, tests)))
