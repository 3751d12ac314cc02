-- The tables of countries and switches, then those of slots and changes, then the chains and the switches by country: each step is within its
-- cells, and what they leave is gathered.
use mathlib.Core.Path.{refl}
use native.Mathlib.Omega.{arith}
use Rattle.nation_tables.specs.Layout.{most_slots}
use Rattle.nation_tables.proofs.slots.GatheringLaws.{own-keyed, told-few, told-switches-few, tables-asked, slots-within, changes-within, own-within, arrange-asked, gathered}
use Rattle.nation_tables.proofs.gathering.gather_tables.Goals as goal

pub overflow_add-result : goal.overflow_add-result
overflow_add-result g c = let few = slots-within c.args.fitting.opened _ most_slots c.len.ensures (omega arith) in omega (arith, few)

-- The countries of a record and their switches have room in keys.
pub invariant_of-all : goal.invariant_of-all
invariant_of-all g c = let r = c.args.fitting.opened in record { keyed = own-keyed r; few = told-few r; few_switches = told-switches-few r }

pub fill_tables-sizes-requires : goal.fill_tables-sizes-requires
fill_tables-sizes-requires g c =
    let room = c.args.fitting.fits in
    tables-asked c.args.fitting.opened _ _ _ _ (omega (arith, room.countries)) (omega (arith, room.countries)) (omega (arith, room.countries)) (omega (arith, room.keys))

pub fill_changes-n-requires : goal.fill_changes-n-requires
fill_changes-n-requires g c = (omega (arith, g.KEYS.fits), (omega (arith, g.KEYS.fits), c.fill_tables-sizes.ensures))

pub arrange-requires : goal.arrange-requires
arrange-requires g c =
    let room = c.args.fitting.fits in
    let held = c.fill_changes-n.ensures.held in
    let asked = arrange-asked c.args.fitting.opened _ _ _ _ _ c.fill_tables-sizes.ensures refl _ _ _ _ _ held c.fill_changes-n.new.tables.runs c.fill_changes-n.new.tables.cells (omega (arith, room.keys)) (omega (arith, room.changes)) in
    record {
      switches_room = asked.0;
      turns_inside = changes-within c.args.fitting.opened _ _ _ _ _ c.fill_tables-sizes.ensures refl _ _ _ _ _ held _ _ refl (omega (arith, room.changes));
      turns_len_bound = asked.1;
    }

pub overflow_sub-result : goal.overflow_sub-result
overflow_sub-result g c = own-within c.args.fitting.opened _ _ _ _ _ c.fill_tables-sizes.ensures refl

pub returns : goal.returns
returns g c =
    let kept = c.fill_changes-n.ensures.kept in
    rw (kept.0, kept.1)
    (gathered c.args.fitting.opened _ _ _ _ _ c.fill_tables-sizes.ensures c.len.ensures _ _ _ _ _ c.fill_changes-n.ensures.held
    _ _ _ _ c.arrange.ensures (omega (arith, c.args.fitting.fits.countries, c.arrange.auto.firsts)))
