use mathlib.Core.Path.{◌≡◌, refl, ap, ◌∙◌}
use mathlib.Core.List.{◌∷◌}
use native.Mathlib.Omega.{arith}
use lib.ListN.{length-set}
use Rattle.record.specs.Cursors.{province_of, provinces_left}
use Rattle.nation_tables.specs.Layout.{row_number}
use Rattle.nation_tables.specs.Countries.{initial_number}
use Rattle.nation_tables.proofs.slots.StartingLaws.{put_next, put-end, ids_next}
use Rattle.nation_tables.proofs.starting.put_owners.Goals.{In-Some}
use Rattle.nation_tables.proofs.starting.put_owners.Goals as goal

-- what was left is the province of the row, and what is left then
told : (c : In-Some) → provinces_left c.loop-province.province-iterator ≡ province_of c.in-Some.province ∷ provinces_left c.next.new.self
told c = c.in-Some.ensures.steps

pub loop-province-init : goal.loop-province-init
loop-province-init c = rw c.into_iter-province-iterator.ensures.into_iter_gives (refl, c.requires, refl)

pub bounds-rows-at : goal.bounds-rows-at
bounds-rows-at c =
    omega (arith, (ids_next _ _ _ _ (told (goal.at.bounds-rows-at c).In-Some) c.loop-province.invariant.1).0, c.from-at.ensures, c.loop-province.invariant.0)

pub loop-province-preserved : goal.loop-province-preserved
loop-province-preserved c =
    let f = initial_number c.args.initials.keys.now in
    let more = told (goal.at.loop-province-preserved c).In-Some in (
      length-set c.loop-province.rows _ _ ∙ c.loop-province.invariant.0,
      (ids_next _ _ _ _ more c.loop-province.invariant.1).1,
      put_next f _ _ _ c.loop-province.rows _ _ more c.from-at.ensures (c.row_number.ensures ∙ ap row_number c.mapped_row.ensures) ∙ c.loop-province.invariant.2,
    )

pub shape_of-rows : goal.shape_of-rows
shape_of-rows c = c.loop-province.invariant.0

pub returns : goal.returns
returns c = put-end _ _ c.loop-province.rows c.in-None.ensures.steps.0 ∙ c.loop-province.invariant.2
