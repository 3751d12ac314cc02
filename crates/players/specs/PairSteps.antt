-- How the code walks strings in pairs: inner steps.
use Rattle.std.specs.Prelude.{List}
use Rattle.record.specs.Cursors.{strings_left}
use Rattle.rules.specs.Players as R
use Rattle.rules.specs.Players.{pairs_from}
use Rattle.players.specs.declared.pairs.Pair.{Pair}
use Rattle.players.specs.declared.pairs.Pairs.{Pairs}

-- The pair that the code holds.
abbrev pub pair_of : Pair → R.Pair
pair_of p = record { number = p.number; name = p.name.now; text = p.text.now }

-- The pairs that an iterator has left.
abbrev pub pairs_left : Pairs → List R.Pair
pairs_left it = pairs_from it.number (strings_left it.strings)
