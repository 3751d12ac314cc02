-- Each row is tested.
use lib.Dec.{ltb}
use Rattle.std.proofs.Common.{rules, tests, ◌∙◌, refl, ap}
use Rattle.std.proofs.lemmas.Iterator.Consumers.{YieldsList-from_first}
use Rattle.std.proofs.lemmas.Iterator.Search.{all_from_yields_List}
use Rattle.std.specs.List.{list_all}
use Rattle.format.specs.declared.values.NationRow.{NationRow}
use Rattle.rules.specs.NationRows.{nation_row_of}
use Rattle.rows.specs.RowAt.{told_left}
use Rattle.pages.proofs.StoredLaws.{rows-left}
use Rattle.pages.proofs.stored.are_short.Goals as goal
use Rattle.pages.specs.declared.lines.TheConstants.{FEW_ENTRIES}

pub returns : goal.returns
returns c =
    all_from_yields_List (λ (n : NationRow). ltb n.count FEW_ENTRIES) c.all.new.self _ c.all.result c.all.ensures.ran
    (YieldsList-from_first (λ n. n) (told_left nation_row_of) {s = c.new.result} (told_left nation_row_of c.new.result) refl) (λ x b q k. search (rules, tests))
    ∙ ap (list_all (λ (r : NationRow). ltb r.count FEW_ENTRIES)) (rows-left c.args.nations.now _ c.new.ensures)
