-- Each by the promise of the function that writes it, of the fronts that lie inside.
use native.Mathlib.Omega.{arith}
use Rattle.owner_changes.proofs.WrittenRowLaws.{rows_written}
use Rattle.nation_tables.proofs.slots.CellLaws.{slots-put}
use Rattle.nations.proofs.answer.FrontLaws.{changes-long, changes-room}
use Rattle.nations.proofs.slots_and_changes.write_rest.Goals as goal

pub returns : goal.returns
returns g c =
    let ready = c.requires.ready in
    record {
      slots = slots-put c.requires.room.slots c.write_slots.ensures;
      changes =
          rows_written c.args.opened _ _ _ _ _ ready.sorted
          (changes-long _ _ _ _ _ ready (omega arith) (omega arith))
          (changes-room _ c.args.sizes _ _ c.args.tables.now.cells ready (omega arith) (omega arith) c.args.changes.now c.requires.room.changes) c.write_sorted.ensures;
    }
