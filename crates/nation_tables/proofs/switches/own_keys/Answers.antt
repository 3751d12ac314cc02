use mathlib.Core.Path.{ap}
use mathlib.Core.List.{map}
use Prim.Native.Nat.{◌≤◌}
use native.Mathlib.Omega.{arith}
use borrow.Author.Rules.{rules}
use lib.ListN.{length, length-map}
use Rattle.lists.proofs.FillLaws.{filling-start, filling-room, filling-put, filling-next, filling-from}
use Rattle.record.specs.Cursors.{switches_left}
use Rattle.nation_tables.specs.Switches.{own_placed}
use Rattle.nation_tables.proofs.tables.PlacedLaws.{own-next, own-fits, own-end, length-own}
use Rattle.nation_tables.proofs.switches.own_keys.Goals as goal

pub loop-x-init : goal.loop-x-init
loop-x-init g c =
    let own = own_placed c.args.row c.args.at (switches_left c.args.switches) in
    rw c.into_iter-x-iterator.ensures.into_iter_gives (
      filling-start _ _ _ (omega (arith, c.requires.1, length-map own g.K.SwitchOrder.key_of, length-own c.args.row c.args.at (switches_left c.args.switches))),
      c.requires.2,
    )

pub key-requires : goal.key-requires
key-requires g c = (c.requires.0, (own-fits g.K.SwitchOrder.fits _ _ c.in-Some.ensures.steps c.loop-x.invariant.1).0)

-- The next key finds room.
pub bounds-cells-k : goal.bounds-cells-k
bounds-cells-k g c = filling-room _ _ _ _ _ c.loop-x.invariant.0 _ _ (ap (map g.K.SwitchOrder.key_of) (own-next _ _ c.in-Some.ensures.steps))

pub loop-x-preserved : goal.loop-x-preserved
loop-x-preserved g c = (
  filling-put _ _ _ _ _ c.loop-x.invariant.0 _ _ (ap (map g.K.SwitchOrder.key_of) (own-next _ _ c.in-Some.ensures.steps)) _ c.key.ensures,
  (own-fits g.K.SwitchOrder.fits _ _ c.in-Some.ensures.steps c.loop-x.invariant.1).1,
)

pub returns : goal.returns
returns g c =
    let none = own-end c.args.row c.loop-x.k c.in-None.ensures.steps.0 in
    let done = rw none at c.loop-x.invariant.0 in
    let inside : c.args.at ≤ length c.args.cells.now = search rules in
    record { behind = filling-next _ _ _ _ _ inside done; filled = filling-from _ _ _ _ _ inside done }
