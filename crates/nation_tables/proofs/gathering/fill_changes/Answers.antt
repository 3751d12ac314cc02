-- The tables of countries and switches are there: so the slots are held change by change within their cells.
use mathlib.Core.Path.{refl}
use native.Mathlib.Omega.{arith}
use Rattle.nation_tables.proofs.slots.ChangeCellLaws.{all-sorted}
use Rattle.nation_tables.proofs.slots.GatheringLaws.{settling-within, holding-room}
use Rattle.nation_tables.proofs.gathering.fill_changes.Goals as goal

-- The keys that changes settle by are within their array.
pub shared_whole_as_front-settling : goal.shared_whole_as_front-settling
shared_whole_as_front-settling g c =
    (settling-within c.args.fitting.opened _ _ _ c.requires.keyed refl c.args.fitting.fits.keys, omega (arith, g.KEYS.fits))

-- The keys of initials are in order, and so are those that changes settle by.
pub invariant_of-initials : goal.invariant_of-initials
invariant_of-initials g c = record { sorted = all-sorted _ _ c.requires.initials }

pub invariant_of-settling : goal.invariant_of-settling
invariant_of-settling g c = record { sorted = all-sorted _ _ c.requires.switches }

pub hold_slots-requires : goal.hold_slots-requires
hold_slots-requires g c = holding-room c.args.fitting.opened c.args.fitting.fits _ _ _ _ _ (omega arith) (omega arith) (omega arith) (omega arith) (omega arith)
