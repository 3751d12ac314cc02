-- The invariant: the keys of the countries passed stand at the front.
use Rattle.std.specs.Iterator.Adapters.{enumerate_source, enumerate_count}
use Rattle.lists.proofs.FillLaws.{Filling}
use Rattle.search.specs.Places.{tag_keys_from}
use Rattle.players.specs.TagTables.{country_tags_left}
use Rattle.players.proofs.tag_tables.fill_countries.Given as goal

abbrev pub invariant-loop-n : goal.invariant-loop-n
invariant-loop-n l =
    let n = enumerate_count l.n-iterator in
    Filling (tag_keys_from 0 (country_tags_left l.fn.countries)) (tag_keys_from n (country_tags_left (enumerate_source l.n-iterator))) l.fn.keys n l.keys
