-- Of the nations with the initial the last, by its number.
use Rattle.std.proofs.Common.{rules, tests, ◌∙◌}
use Rattle.rows.proofs.RowAtLaws.{nation_rows_told}
use Rattle.resolver.proofs.ClaimLaws.{numbered-claim, option-mapped, initial-last}
use Rattle.resolver.proofs.best.best_initial.Goals as goal

pub returns : goal.returns
returns c =
    let e = c.enumerate.ensures in
    let f = c.filter.ensures in
    let ran = c.last.ensures.ran in
    initial-last _ c.args.tag c.args.nations.now (c.new.ensures ∙ nation_rows_told c.args.nations.now) e.source e.count f.source f.closure (λ x b q k. search (rules, tests)) ran.0 ran.1 c.last.result ran.2 c.map.result
    (option-mapped numbered-claim _ (λ x y h. search (rules, tests)) c.last.result c.map.result c.map.ensures.cases)
