-- Too little room, or the rows.
use Rattle.std.proofs.Common.{◌*◌, ◌<◌, arith}
use Rattle.ledger.proofs.LedgerLaws.{fills-whole}
use Rattle.ledger.proofs.LedgerOutcomeLaws.{room-few, points-short, points-given}
use Rattle.ledger.proofs.nation.ledger_indexed.Goals as goal

pub new-ledgers-requires : goal.new-ledgers-requires
new-ledgers-requires g c =
    let keys : g.row.NAMES * 8 < 9223372036854775808 = omega (arith, c.requires.possible) in
    let places : g.row.NAMES * 16 < 9223372036854775808 = omega (arith, c.requires.possible) in
    (keys, (places, c.requires.enough))

pub returns-then-room-n : goal.returns-then-room-n
returns-then-room-n g c =
    rw c.new-ledgers.ensures at (points-short _ c.args.out.now _ c.count-n.ensures c.if-room-n.true)

pub returns : goal.returns
returns g c =
    let few = room-few _ c.args.out.now _ c.count-n.ensures c.if-room-n.false in
    rw c.new-ledgers.ensures at (points-given _ c.args.out.now _ c.count-n.ensures c.if-room-n.false _ (fills-whole _ _ _ _ c.write.ensures few.1).1)
