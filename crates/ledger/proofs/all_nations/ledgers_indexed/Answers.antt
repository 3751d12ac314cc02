-- Too little room in either slice, or all rows and counts.
use Rattle.std.proofs.Common.{◌*◌, ◌<◌, arith}
use Rattle.ledger.specs.LentSlices.{ledger_cells}
use Rattle.ledger.proofs.LedgerOutcomeLaws.{counts-short, rows_short, ledgers-given}
use Rattle.ledger.proofs.all_nations.ledgers_indexed.Goals as goal

pub returns-then-counts-nation_count : goal.returns-then-counts-nation_count
returns-then-counts-nation_count g c =
    counts-short c.args.opened _ _ (ledger_cells c.args.out.now c.args.counts.now) (omega (arith, c.nation_count.ensures, c.if-counts-nation_count.true))

pub new-ledgers-requires : goal.new-ledgers-requires
new-ledgers-requires g c =
    let keys : g.row.NAMES * 8 < 9223372036854775808 = omega (arith, c.requires.possible) in
    let places : g.row.NAMES * 16 < 9223372036854775808 = omega (arith, c.requires.possible) in
    (keys, (places, c.requires.enough))

pub returns-then-room-n : goal.returns-then-room-n
returns-then-room-n g c =
    rows_short c.args.opened _ _ (ledger_cells c.args.out.now c.args.counts.now) _ (rw c.new-ledgers.ensures at c.count_all-n.ensures) c.if-room-n.true

pub returns : goal.returns
returns g c =
    ledgers-given c.args.opened _ _ (ledger_cells c.args.out.now c.args.counts.now) _ (rw c.new-ledgers.ensures at c.count_all-n.ensures) c.if-room-n.false
    (omega (arith, c.nation_count.ensures, c.if-counts-nation_count.false)) _ _ (rw c.new-ledgers.ensures at c.write_all.ensures)
