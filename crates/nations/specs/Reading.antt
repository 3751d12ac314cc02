-- The cells of the tables at hand, as definitions read them. Inner definitions: they are how the nations are computed.
use Rattle.nation_tables.specs.Gathering.{Cells, cells_from}
use Rattle.nations.specs.declared.tables.NationTables.{NationTables}

abbrev pub cells_in : NationTables → Cells
cells_in t =
    cells_from t.tags.now t.initial_keys.keys.now t.runs.keys.now t.targets.now t.firsts.now t.started.now t.keys.now t.turns.now t.start
