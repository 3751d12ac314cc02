use mathlib.Core.Path.{◌≡◌, refl, ap, ◌∙◌}
use mathlib.Core.List.{◌∷◌}
use Prim.Native.Nat.{◌<◌}
use lib.ListN.{length-map, length}
use Rattle.lists.proofs.FillLaws.{filling-new, filling-room, filling-put, filling-written}
use Rattle.record.specs.Cursors.{country_of, countries_left}
use Rattle.nation_tables.specs.Countries.{country_tags, initial_words}
use Rattle.nation_tables.proofs.countries.fill_tags_and_initials.Goals.{In-Some}
use Rattle.nation_tables.proofs.countries.fill_tags_and_initials.Goals as goal

-- what was left is the country of the row, and what is left then
told : (c : In-Some) → countries_left c.loop-row.row-iterator.iter ≡ country_of c.in-Some.country ∷ countries_left c.next.new.self.iter
told c = c.in-Some.ensures.steps.0

tags-room : (c : In-Some) → c.in-Some.row < length c.loop-row.tags
tags-room c = rw c.in-Some.ensures.steps.1 (filling-room _ _ _ _ _ c.loop-row.invariant.0 _ _ (ap country_tags (told c)))

initials-room : (c : In-Some) → c.in-Some.row < length c.loop-row.initials
initials-room c = rw c.in-Some.ensures.steps.1 (filling-room _ _ _ _ _ c.loop-row.invariant.1 _ _ (ap initial_words (told c)))

pub loop-row-init : goal.loop-row-init
loop-row-init c =
    rw (c.into_iter-row-iterator.ensures.into_iter_gives, c.enumerate-row-items.ensures.source, c.enumerate-row-items.ensures.count)
    (filling-new _ _ (simp length-map c.requires.0), filling-new _ _ (simp length-map c.requires.1))

pub bounds-tags-row : goal.bounds-tags-row
bounds-tags-row c = tags-room (goal.at.bounds-tags-row c).In-Some

pub bounds-initials-row : goal.bounds-initials-row
bounds-initials-row c = initials-room (goal.at.bounds-initials-row c).In-Some

pub loop-row-preserved : goal.loop-row-preserved
loop-row-preserved c =
    let steps = c.in-Some.ensures.steps in
    let more = told (goal.at.loop-row-preserved c).In-Some in
    rw (steps.2, steps.1) (
      filling-put _ _ _ _ _ c.loop-row.invariant.0 _ _ (ap country_tags more) _ refl,
      filling-put _ _ _ _ _ c.loop-row.invariant.1 _ _ (ap initial_words more) _ (c.from.ensures ∙ ap (λ x. x.0) c.first_tag.ensures),
    )

pub returns : goal.returns
returns c =
    let none = c.in-None.ensures.steps.0.0 in
    record {
      tags = filling-written _ _ _ _ _ c.loop-row.invariant.0 (ap country_tags none);
      initials = filling-written _ _ _ _ _ c.loop-row.invariant.1 (ap initial_words none);
    }
