-- The keys of all switches, sorted in their place.
use Rattle.nation_tables.proofs.tables.CountryLaws.{filled-inside, sorted-filled}
use Rattle.nation_tables.proofs.switches.run_keys.Goals as goal

pub slice_bounds-spread_sort-end : goal.slice_bounds-spread_sort-end
slice_bounds-spread_sort-end c = filled-inside _ _ _ _ c.all_run_keys-n.ensures

pub returns : goal.returns
returns c =
    sorted-filled _ _ _ _ _ c.all_run_keys-n.ensures c.spread_sort.ensures.keys
