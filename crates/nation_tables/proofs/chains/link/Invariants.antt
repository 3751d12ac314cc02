-- The invariant (BothLinking): the changes from k on are links, those before k are rows still, and each row's first changes are those from
-- k on. The measure is k.
use Rattle.nation_tables.proofs.slots.ChainLaws.{BothLinking}
use Rattle.nation_tables.proofs.chains.link.Given as goal

abbrev pub invariant-loop-k : goal.invariant-loop-k
invariant-loop-k l = BothLinking l.initial.turns l.initial.firsts l.turns l.firsts l.k
