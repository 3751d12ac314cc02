use mathlib.Core.Path.{◌≡◌, sym, ap, ◌∙◌}
use mathlib.Core.List.{List, ◌∷◌, ◌++◌}
use native.Mathlib.Omega.{arith}
use lib.Dec.{ltb}
use Rattle.lists.specs.Lists.{join_of}
use Rattle.lists.proofs.BoolLaws.{one-small}
use Rattle.format.specs.declared.values.OwnerChange.{OwnerChange}
use Rattle.rules.specs.Changes.{province_changes}
use Rattle.owner_changes.specs.ChangeSteps.{changes_ahead, slot_changes}
use Rattle.owner_changes.proofs.EnterRowLaws.{byte-one, enter-start, enter-told, enter-room, enter-more, enter-done}
use Rattle.owner_changes.proofs.entering.enter_rows.Goals.{In-Some-change}
use Rattle.owner_changes.proofs.entering.enter_rows.Goals as goal

-- The change at hand is the first of those left, of its province and behind it.
first : (c : In-Some-change) → slot_changes c.loop-change.change-iterator ++ changes_ahead c.next.new.self ≡ c.in-Some-change.change ∷ (slot_changes c.next-in-loop-change.new.self ++ changes_ahead c.next.new.self)
first c = ap (λ (xs : List OwnerChange). xs ++ changes_ahead c.next.new.self) c.in-Some-change.ensures.steps

pub loop-province-init : goal.loop-province-init
loop-province-init c = enter-start _ _ _ (ap changes_ahead c.into_iter-province-iterator.ensures.into_iter_gives) c.requires

pub loop-change-init : goal.loop-change-init
loop-change-init c =
    enter-told c.loop-province.invariant
    (ap (join_of province_changes) c.in-Some.ensures.steps
    ∙ ap (λ (xs : List OwnerChange). xs ++ changes_ahead c.next.new.self) (sym (ap slot_changes c.into_iter-change-iterator.ensures.into_iter_gives ∙ c.new-change-items.ensures)))

pub put_change-requires : goal.put_change-requires
put_change-requires c = enter-room c.loop-change.invariant (first (goal.at.put_change-requires c).In-Some-change)

pub overflow_add-falls : goal.overflow_add-falls
overflow_add-falls c =
    let behind = ltb c.new-key.result.0 c.loop-change.last in
    let room = enter-room c.loop-change.invariant (first (goal.at.overflow_add-falls c).In-Some-change) in
    omega (arith, c.loop-change.invariant.few, c.loop-change.invariant.rows.long, room, c.from-falls.ensures ∙ byte-one behind, one-small behind)

pub loop-change-preserved : goal.loop-change-preserved
loop-change-preserved c =
    enter-more c.loop-change.invariant (first (goal.at.loop-change-preserved c).In-Some-change) c.new-key.result.0 c.from-falls.result c.new-key.ensures
    (c.from-falls.ensures ∙ byte-one (ltb c.new-key.result.0 c.loop-change.last)) c.put_change.ensures

pub loop-province-preserved : goal.loop-province-preserved
loop-province-preserved c =
    enter-told c.loop-change.invariant (ap (λ (xs : List OwnerChange). xs ++ changes_ahead c.next.new.self) c.in-None-change.ensures.steps.0)

pub returns : goal.returns
returns c =
    let d = enter-done c.loop-province.invariant (ap (join_of province_changes) c.in-None.ensures.steps.0) in
    record { counted = d.0; falls = d.1; rows = d.2 }
