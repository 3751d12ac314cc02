-- The iterator over a country's lives, read as a walk over its two chains. Inner definitions: they are how the nations are computed.
use Rattle.std.specs.Prelude.{◌≡◌, List, Option, Some, None, ◌∷◌, ◌<◌}
use Rattle.format.specs.declared.values.Entry.{Entry}
use Rattle.nation_tables.specs.Turning.{losses, gains}
use Rattle.nations.specs.declared.country_lives.Lives.{Lives}
use Rattle.nations.specs.Walks.{Walk, lived_left, ahead}

-- Where it stands.
abbrev pub walk_in : Lives → Walk
walk_in l = record { lose = l.next.loss; gain = l.next.gain; held = l.held }

-- The entries that it has left.
abbrev pub lives_left : Lives → List Entry
lives_left l = (lived_left l.start l.keys.now (losses l.turns.now) (gains l.turns.now) (walk_in l)).entries

-- An entry, if one was told, before others.
abbrev pub told_before : Option Entry → List Entry → List Entry
told_before None es = es
told_before (Some x) es = x ∷ es

-- One change of the country: what was left is what is told and what is left now, and fewer links are ahead.
pub record Steps (from : Lives) (r : Option Entry) (to : Lives) : Type 0 where
  pub told : lives_left from ≡ told_before r (lives_left to)
  pub less : ahead (walk_in to) < ahead (walk_in from)
