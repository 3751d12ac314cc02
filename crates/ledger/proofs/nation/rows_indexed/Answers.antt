use Rattle.std.proofs.Common.{◌*◌, ◌<◌, arith}
use Rattle.ledger.proofs.nation.rows_indexed.Goals as goal

pub new-requires : goal.new-requires
new-requires g c =
    let keys : g.row.NAMES * 8 < 9223372036854775808 = omega (arith, c.requires.possible) in
    let places : g.row.NAMES * 16 < 9223372036854775808 = omega (arith, c.requires.possible) in
    (keys, (places, c.requires.enough))
