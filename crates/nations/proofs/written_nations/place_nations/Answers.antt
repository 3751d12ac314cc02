-- Where the nations that are counted have room they are written.
use Rattle.nations.proofs.NationRoomLaws.{rows-fit}
use Rattle.nations.proofs.written_nations.place_nations.Goals as goal

pub write_nations-requires : goal.write_nations-requires
write_nations-requires c = rows-fit c.args.tables.now _ c.count_nations-listed.ensures _ _ _ c.nations_fit.ensures c.if-not-nations_fit.false
