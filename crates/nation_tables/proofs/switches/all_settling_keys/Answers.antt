use mathlib.Core.Path.{◌≡◌}
use mathlib.Core.List.{◌∷◌}
use Prim.Native.Nat.{◌<◌}
use borrow.Author.Rules.{rules}
use lib.ListN.{length}
use Rattle.record.specs.Cursors.{country_of, countries_left}
use Rattle.nation_tables.proofs.tables.OwnKeyLaws.{settling-start, settling-here, settling-tag, settling-room, settling-more, settling-done}
use Rattle.nation_tables.proofs.switches.all_settling_keys.Goals.{In-Some, After-own_keys-k}
use Rattle.nation_tables.proofs.switches.all_settling_keys.Goals as goal

-- what was left is the country of the row, and what is left then
told : (c : In-Some) → countries_left c.loop-row.row-iterator.iter ≡ country_of c.in-Some.country ∷ countries_left c.next.new.self.iter
told c = c.in-Some.ensures.steps.0

-- behind the keys of its switches its own key finds room
room : (c : After-own_keys-k) → c.own_keys-k.result < length c.own_keys-k.new.cells
room c = settling-room _ _ _ _ _ _ c.loop-row.invariant _ _ c.in-Some.ensures.steps.0 _ _ (rw c.in-Some.ensures.steps.1 at c.own_keys-k.ensures)

pub loop-row-init : goal.loop-row-init
loop-row-init c =
    rw (c.into_iter-row-iterator.ensures.into_iter_gives, c.enumerate-row-items.ensures.source, c.enumerate-row-items.ensures.count) (settling-start (countries_left c.args.all.countries) _ c.args.all.keyed c.requires)

pub own_keys-k-requires : goal.own_keys-k-requires
own_keys-k-requires c =
    rw c.in-Some.ensures.steps.1 (settling-here _ _ _ _ _ _ c.loop-row.invariant _ _ (told (goal.at.own_keys-k-requires c).In-Some))

pub settling_key-requires : goal.settling_key-requires
settling_key-requires c =
    let more = told (goal.at.settling_key-requires c).In-Some in
    rw c.in-Some.ensures.steps.1 (settling-tag _ _ _ _ _ _ c.loop-row.invariant _ _ more, (settling-here _ _ _ _ _ _ c.loop-row.invariant _ _ more).0)

pub bounds-cells-k : goal.bounds-cells-k
bounds-cells-k c = room (goal.at.bounds-cells-k c).After-own_keys-k

pub overflow_add-k : goal.overflow_add-k
overflow_add-k c =
    let l = room (goal.at.overflow_add-k c).After-own_keys-k in
    let n = c.own_keys-k.auto.cells in
    let m = c.loop-row.invariant.walk.cells.long in
    search rules

pub loop-row-preserved : goal.loop-row-preserved
loop-row-preserved c =
    let steps = c.in-Some.ensures.steps in
    rw steps.2 (settling-more _ _ _ _ _ _ c.loop-row.invariant _ _ (told (goal.at.loop-row-preserved c).In-Some) _ _ (rw c.in-Some.ensures.steps.1 at c.own_keys-k.ensures) _ (rw (c.from_word_unchecked.ensures, steps.1) at c.settling_key.ensures))

pub shape_of-cells : goal.shape_of-cells
shape_of-cells c = c.loop-row.invariant.walk.cells.long

pub returns : goal.returns
returns c = settling-done _ _ _ _ _ _ c.loop-row.invariant c.in-None.ensures.steps.0.0
