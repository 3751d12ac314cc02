-- Each nation finds room behind those before it.
use mathlib.Core.Path.{refl, sym, ap, ◌∙◌}
use mathlib.Core.List.{◌∷◌}
use mathlib.Core.Logic.{inl}
use Prim.Native.Nat.{◌+◌, ◌<◌}
use native.Mathlib.Omega.{arith}
use lib.ListN.{length}
use Rattle.std.specs.Iterator.Adapters.{enumerate_source, enumerate_count}
use Rattle.nation_tables.specs.Layout.{word_span}
use Rattle.nations.specs.Reading.{cells_in}
use Rattle.nations.specs.ListedNations.{listed_in, nations_at, listed_left}
use Rattle.nations.proofs.ListedNationLaws.{nations-few}
use Rattle.nations.proofs.WrittenNationLaws.{Placing, placing-none, placing-same, place-few, place-room, place-more, placing-done}
use Rattle.nations.proofs.tables.NationTables.write_nations.Goals.{In-Some}
use Rattle.nations.proofs.tables.NationTables.write_nations.Goals as goal

pub loop-n-init-derived : goal.loop-n-init-derived
loop-n-init-derived c =
    let few = nations-few (cells_in c.args.self.now) c.args.self.now.readable in
    rw (c.into_iter-n-iterator.ensures.into_iter_gives, c.enumerate-n-items.ensures.source, c.enumerate-n-items.ensures.count)
    ((tt, tt, inl (omega (arith, few.0, ap length c.nations.ensures))), tt)

pub loop-n-init : goal.loop-n-init
loop-n-init c =
    let gives = c.into_iter-n-iterator.ensures.into_iter_gives in
    placing-none _ _ _ _ _
    (ap (λ it. listed_left (enumerate_source it)) gives ∙ (ap listed_left c.enumerate-n-items.ensures.source ∙ c.nations.ensures))
    (ap (λ it. enumerate_count it) gives ∙ c.enumerate-n-items.ensures.count)
    c.requires

-- The nation at hand is the first of those left.
here : (c : In-Some) → Placing (nations_at (cells_in c.args.self.now) c.args.self.now.initial_keys.keys.now)
    (listed_in c.in-Some.nation ∷ listed_left (enumerate_source c.next.new.self)) c.in-Some.n c.loop-n.first
    c.args.nations.now c.loop-n.nations c.args.entries.now c.loop-n.entries
here c = placing-same _ _ _ _ _ _ _ _ _ _ c.in-Some.ensures.steps.0 c.in-Some.ensures.steps.1 c.loop-n.invariant

few : (c : In-Some) → c.loop-n.first + length (listed_in c.in-Some.nation).entries < word_span
few c = place-few _ _ _ _ _ _ _ _ _ (here c) (nations-few (cells_in c.args.self.now) c.args.self.now.readable).1

pub write_nation-count-requires-clause-few : goal.write_nation-count-requires-clause-few
write_nation-count-requires-clause-few c = few (goal.at.write_nation-count-requires-clause-few c).In-Some

pub write_nation-count-requires-clause-room : goal.write_nation-count-requires-clause-room
write_nation-count-requires-clause-room c = place-room _ _ _ _ _ _ _ _ _ (here (goal.at.write_nation-count-requires-clause-room c).In-Some)

pub overflow_add-first : goal.overflow_add-first
overflow_add-first c = omega (arith, few (goal.at.overflow_add-first c).In-Some, c.write_nation-count.ensures.told.counted)

pub loop-n-preserved : goal.loop-n-preserved
loop-n-preserved c =
    place-more _ _ _ _ _ _ _ _ _ (here (goal.at.loop-n-preserved c).In-Some) _ _ _ c.write_nation-count.ensures _ _
    (c.in-Some.ensures.steps.2 ∙ ap (λ k. k + 1) (sym c.in-Some.ensures.steps.1)) refl

pub returns : goal.returns
returns c = placing-done _ _ _ _ _ _ _ _ c.in-None.ensures.steps.0.0 c.loop-n.invariant
