-- The invariant: the keys of the switches passed stand from `at` on, those of the switches left find room behind them, and the switches left
-- have room in their keys.
use mathlib.Core.List.{◌++◌, map}
use lib.ListN.{take}
use Rattle.lists.specs.Lists.{All}
use Rattle.lists.proofs.FillLaws.{Filling}
use Rattle.record.specs.Cursors.{switches_left}
use Rattle.nation_tables.specs.Switches.{own_placed}
use Rattle.nation_tables.proofs.switches.own_keys.Given as goal

abbrev pub invariant-loop-x : goal.invariant-loop-x
invariant-loop-x g l =
    Filling (take l.at l.initial.cells ++ map g.K.SwitchOrder.key_of (own_placed l.row l.at (switches_left l.fn.switches)))
    (map g.K.SwitchOrder.key_of (own_placed l.row l.k (switches_left l.x-iterator))) l.initial.cells l.k l.cells
    × All g.K.SwitchOrder.fits (own_placed l.row l.k (switches_left l.x-iterator))
