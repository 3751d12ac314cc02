use mathlib.Core.Path.{◌≡◌, ap}
use mathlib.Core.List.{◌∷◌}
use Rattle.lists.proofs.FillLaws.{filling-new, filling-written}
use Rattle.record.specs.Cursors.{country_of, countries_left}
use Rattle.nation_tables.specs.Switches.{target_words}
use Rattle.nation_tables.proofs.tables.TargetLaws.{targets-here, targets-more}
use Rattle.nation_tables.proofs.switches.fill_targets.Goals.{In-Some}
use Rattle.nation_tables.proofs.switches.fill_targets.Goals as goal

-- what was left is the country of the row, and what is left then
told : (c : In-Some) → countries_left c.loop-country.country-iterator ≡ country_of c.in-Some.country ∷ countries_left c.next.new.self
told c = c.in-Some.ensures.steps

pub loop-country-init : goal.loop-country-init
loop-country-init c = rw c.into_iter-country-iterator.ensures.into_iter_gives (filling-new _ _ c.requires)

pub own_targets-k-requires : goal.own_targets-k-requires
own_targets-k-requires c =
    targets-here (countries_left c.args.countries) (countries_left c.loop-country.country-iterator) _ _ _ c.loop-country.invariant _ _ (told (goal.at.own_targets-k-requires c).In-Some)

pub loop-country-preserved : goal.loop-country-preserved
loop-country-preserved c =
    targets-more (countries_left c.args.countries) (countries_left c.loop-country.country-iterator) _ _ _ c.loop-country.invariant _ _ (told (goal.at.loop-country-preserved c).In-Some) _ _
    c.own_targets-k.ensures

pub shape_of-targets : goal.shape_of-targets
shape_of-targets c = c.loop-country.invariant.long

pub returns : goal.returns
returns c = filling-written _ _ _ _ _ c.loop-country.invariant (ap target_words c.in-None.ensures.steps.0)
