-- No row has a first change yet; then chains, keys and targets by the promises of the functions that make them.
use mathlib.Core.Path.{refl, ◌∙◌}
use native.Mathlib.Omega.{arith}
use lib.ListN.{length-take}
use lib.Seq.{length-take-le, take_at}
use Rattle.std.proofs.lemmas.Simd.{splat_is_map}
use Rattle.nation_tables.proofs.slots.TableStepLaws.{runs-front, targets-front, runs-inside, targets-inside, fresh-firsts, nothing}
use Rattle.nation_tables.proofs.gathering.arrange.Goals as goal

pub link-requires : goal.link-requires
link-requires c = record { turns_len_bound = omega (arith, c.requires.turns_len_bound, length-take c.args.n c.args.turns.now); fresh = fresh-firsts c.args.firsts.now _ (c.fill.ensures.after (λ y e. e) ∙ splat_is_map c.args.firsts.now _ nothing refl) }

pub run_keys-requires : goal.run_keys-requires
run_keys-requires c = runs-inside _ _ _ c.requires.switches_room

pub fill_targets-requires : goal.fill_targets-requires
fill_targets-requires c = targets-inside _ _ _ c.requires.switches_room _ c.run_keys.auto.scratch

pub shape_of-turns : goal.shape_of-turns
shape_of-turns c = c.turns-1.given.1

pub shape_of-firsts : goal.shape_of-firsts
shape_of-firsts c = omega (arith, c.link.auto.firsts, c.fill.ensures.len)

pub shape_of-runs : goal.shape_of-runs
shape_of-runs c = c.run_keys.auto.keys

pub shape_of-targets : goal.shape_of-targets
shape_of-targets c = c.fill_targets.auto.targets ∙ c.run_keys.auto.scratch

pub returns : goal.returns
returns c =
    let long = c.link.auto.turns ∙ length-take-le _ _ c.requires.turns_inside in
    record { linked = rw (take_at c.link.new.turns _ c.args.n long) c.link.ensures; runs = runs-front _ _ _ _ c.run_keys.ensures; targets = targets-front _ _ _ c.fill_targets.ensures }
