-- By how many histories lack it.
use Rattle.std.proofs.Common.{rules, tests, Bool, ◌∙◌}
use Rattle.format.specs.declared.values.HistoryRow.{HistoryRow}
use Rattle.rows.specs.declared.chronicle.Chronicle.{Chronicle}
use Rattle.players.specs.LackSteps.{lacks_in}
use Rattle.rows.proofs.HistoryLaws.{histories_told}
use Rattle.rows.proofs.WalkLaws.{rows-kept, none-left, one-left, two-left}
use Rattle.players.proofs.LackLaws.{sole-told, one_told, more-told}
use Rattle.players.proofs.starting.starting_in.Goals as goal

abbrev lacks : Chronicle → HistoryRow → Bool
lacks c = lacks_in c.nations.now c.entries.now

pub returns-in_default : goal.returns-in_default
returns-in_default c =
    sole-told _ _ (none-left _
    (rows-kept _ (lacks c.args.chronicle) c.new.result _ (c.new.ensures ∙ histories_told _) c.filter-lacking.ensures.source c.filter-lacking.ensures.closure (λ x b q k. search (rules, tests)))
    c.next.new.self _ c.in_default.is c.next.ensures.steps)
    _ c.history_count-sole.ensures _ c.history_row_at.ensures _ c.then_some.ensures

pub returns-in-None : goal.returns-in-None
returns-in-None c =
    one_told _ _ c.in-Some.row
    (one-left
    (rows-kept _ (lacks c.args.chronicle) c.new.result _ (c.new.ensures ∙ histories_told _) c.filter-lacking.ensures.source c.filter-lacking.ensures.closure (λ x b q k. search (rules, tests)))
    c.next.new.self _ _ c.in-Some.is c.next.ensures.steps c.next-2.new.self _ c.in-None.is c.next-2.ensures.steps)

pub returns-in-Some-next : goal.returns-in-Some-next
returns-in-Some-next c =
    let two = two-left
    (rows-kept _ (lacks c.args.chronicle) c.new.result _ (c.new.ensures ∙ histories_told _) c.filter-lacking.ensures.source c.filter-lacking.ensures.closure (λ x b q k. search (rules, tests)))
    c.next.new.self _ _ c.in-Some.is c.next.ensures.steps c.next-2.new.self _ _ c.in-Some-next.is c.next-2.ensures.steps in
    more-told _ _ c.in-Some.row _ two.0 two.1
