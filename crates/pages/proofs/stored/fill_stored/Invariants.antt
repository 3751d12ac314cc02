-- Invariant: the keys of the rows passed stand at the front.
use Rattle.std.specs.Iterator.Adapters.{enumerate_source, enumerate_count}
use Rattle.lists.proofs.FillLaws.{Filling}
use Rattle.search.specs.Places.{tag_keys_from}
use Rattle.pages.specs.Stored.{stored_left}
use Rattle.pages.proofs.stored.fill_stored.Given as goal

abbrev pub invariant-loop-i : goal.invariant-loop-i
invariant-loop-i l =
    let n = enumerate_count l.i-iterator in
    Filling (tag_keys_from 0 (stored_left l.fn.nations)) (tag_keys_from n (stored_left (enumerate_source l.i-iterator))) l.fn.keys n l.keys
