-- The outcome by its case: a slice that is too short, or all rows, of which those of the nations are written first.
use mathlib.Core.Path.{refl}
use native.Mathlib.Omega.{arith}
use lib.ListN.{length}
use Rattle.nations.specs.NationSteps.{NationsPlaced}
use Rattle.nations.proofs.answer.ArmLaws.{nations-placed, none_told}
use Rattle.nations.proofs.answer.AnswerLaws.{rest-asked, all-placed}
use Rattle.nations.proofs.nations.answer_sized.Goals.{In-Some}
use Rattle.nations.proofs.nations.answer_sized.Goals as goal

placed : (g : _) (c : In-Some g) → NationsPlaced c.args.fitting.opened.bytes.now (length c.args.holders.now) (length c.args.held.now) (length c.args.changes.now) c.in-Some.told.sizes c.in-Some.told.listed c.tell_nations.new.tables.slots c.tell_nations.new.tables.keys g.row.SLOTS g.row.CHANGES c.args.nations.now c.tell_nations.new.nations c.args.entries.now c.tell_nations.new.entries
placed g c = nations-placed _ _ _ _ _ _ _ _ _ _ _ _ _ c.tell_nations.ensures c.in-Some.is

pub write_rest-requires : goal.write_rest-requires
write_rest-requires g c =
    let asked = rest-asked _ _ _ c.args.holders.now c.args.held.now c.args.changes.now _ _ _ _ _ _ _ _ (placed g (goal.at.write_rest-requires g c).In-Some) in
    (omega (arith, c.requires), asked)

pub returns : goal.returns
returns g c =
    all-placed _ _ _ _ _ _ _ _ _ _ _ _ _ _ (placed g (goal.at.returns g c).In-Some) _ _ _ c.write_rest.ensures _ c.counts_from-counts.ensures

pub returns-in_default : goal.returns-in_default
returns-in_default g c = (none_told _ _ _ _ _ _ _ _ _ _ _ _ _ c.tell_nations.ensures c.in_default.is).refuses _ _ _ refl refl refl
