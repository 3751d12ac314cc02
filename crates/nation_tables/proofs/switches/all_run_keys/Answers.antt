use mathlib.Core.Path.{◌≡◌}
use mathlib.Core.List.{◌∷◌}
use Rattle.record.specs.Cursors.{country_of, countries_left}
use Rattle.nation_tables.specs.Switches.{runs_from}
use Rattle.nation_tables.proofs.tables.PlacedLaws.{row-asked, keying-start, keying-here, keying-more, keying-done}
use Rattle.nation_tables.proofs.switches.all_run_keys.Goals.{In-Some}
use Rattle.nation_tables.proofs.switches.all_run_keys.Goals as goal

-- what was left is the country of the row, and what is left then
told : (c : In-Some) → countries_left c.loop-row.row-iterator.iter ≡ country_of c.in-Some.country ∷ countries_left c.next.new.self.iter
told c = c.in-Some.ensures.steps.0

pub loop-row-init : goal.loop-row-init
loop-row-init c =
    let a = row-asked _ _ c.args.all.few c.args.all.few_switches c.requires in
    rw (c.into_iter-row-iterator.ensures.into_iter_gives, c.enumerate-row-items.ensures.source, c.enumerate-row-items.ensures.count) (keying-start _ _ _ _ a.0.0 a.0.1 a.1)

pub own_keys-k-requires : goal.own_keys-k-requires
own_keys-k-requires c =
    rw c.in-Some.ensures.steps.1 (keying-here _ _ _ _ _ _ _ _ c.loop-row.invariant _ _ (told (goal.at.own_keys-k-requires c).In-Some))

pub loop-row-preserved : goal.loop-row-preserved
loop-row-preserved c =
    let steps = c.in-Some.ensures.steps in
    rw steps.2 (keying-more _ _ _ _ _ _ _ _ c.loop-row.invariant _ _ (told (goal.at.loop-row-preserved c).In-Some) _ _ (rw c.in-Some.ensures.steps.1 at c.own_keys-k.ensures))

pub shape_of-cells : goal.shape_of-cells
shape_of-cells c = c.loop-row.invariant.cells.long

pub returns : goal.returns
unfolding runs_from
returns c = keying-done _ _ _ _ _ _ _ _ c.loop-row.invariant c.in-None.ensures.steps.0.0
