-- Each table by the promise of the function that fills it.
use mathlib.Core.Path.{◌∙◌}
use Prim.Native.Nat.{◌≤◌}
use native.Mathlib.Omega.{arith}
use lib.ListN.{length}
use lib.Seq.{length-take-le}
use Rattle.nation_tables.proofs.slots.TableStepLaws.{tables-filled}
use Rattle.nation_tables.proofs.gathering.fill_tables.Goals.{After-fill_tags_and_initials}
use Rattle.nation_tables.proofs.gathering.fill_tables.Goals as goal

pub fill_tags_and_initials-requires : goal.fill_tags_and_initials-requires
fill_tags_and_initials-requires c = (c.requires.tags, c.requires.scratch)

-- There are no more countries than initial words.
inside : (c : After-fill_tags_and_initials) → c.len-c.result ≤ length c.fill_tags_and_initials.new.initials
inside c = omega (arith, c.len-c.ensures, c.requires.scratch, c.fill_tags_and_initials.auto.initials)

pub slice_bounds-row_keys-end : goal.slice_bounds-row_keys-end
slice_bounds-row_keys-end c = inside (goal.at.slice_bounds-row_keys-end c).After-fill_tags_and_initials

pub row_keys-requires : goal.row_keys-requires
row_keys-requires c =
    let p = c.requires in
    let n = c.len-c.ensures in
    let l = length-take-le _ _ (inside (goal.at.row_keys-requires c).After-fill_tags_and_initials) in
    (omega (arith, n, l, c.args.all.few), omega (arith, n, l, p.initials))

pub settling_keys-m-requires : goal.settling_keys-m-requires
settling_keys-m-requires c = c.requires.switches

pub shape_of-tags : goal.shape_of-tags
shape_of-tags c = c.fill_tags_and_initials.auto.tags

pub shape_of-initial_words : goal.shape_of-initial_words
shape_of-initial_words c = c.fill_tags_and_initials.auto.initials

pub shape_of-initial_keys : goal.shape_of-initial_keys
shape_of-initial_keys c = c.row_keys.auto.keys

pub shape_of-settling_keys : goal.shape_of-settling_keys
shape_of-settling_keys c = c.settling_keys-m.auto.cells

pub shape_of-scratch : goal.shape_of-scratch
shape_of-scratch c = c.settling_keys-m.auto.scratch ∙ c.row_keys.auto.scratch

pub returns : goal.returns
returns c = tables-filled _ _ _ _ _ _ _ _ _ _ _ c.len-c.ensures c.fill_tags_and_initials.ensures c.row_keys.ensures c.settling_keys-m.ensures
