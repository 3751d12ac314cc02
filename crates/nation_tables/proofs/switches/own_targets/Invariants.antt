-- The invariant: the targets of the switches passed stand from `at` on, those of the switches left find room behind them, and the previous tag
-- of the number of switches left is the last target. The tag stays.
use mathlib.Core.Path.{◌≡◌}
use mathlib.Core.List.{◌++◌}
use lib.ListN.{length, take, get_or}
use Rattle.lists.proofs.FillLaws.{Filling}
use Rattle.record.specs.Cursors.{switches_left, previous_left}
use Rattle.nation_tables.specs.Switches.{chain_words}
use Rattle.nation_tables.proofs.switches.own_targets.Given as goal

abbrev pub invariant-loop-country : goal.invariant-loop-country
invariant-loop-country l =
    let end = get_or (previous_left l.fn.country.previous) (length (switches_left l.fn.country.switches)) l.fn.country.tag in
    Filling (take l.at l.initial.targets ++ chain_words end (switches_left l.fn.country.switches)) (chain_words end (switches_left l.country.switches)) l.initial.targets l.k l.targets
    × (get_or (previous_left l.country.previous) (length (switches_left l.country.switches)) l.fn.country.tag ≡ end)
    × (l.country.tag ≡ l.fn.country.tag)

abbrev pub decreases-loop-country : goal.decreases-loop-country
decreases-loop-country l = length (switches_left l.country.switches)
