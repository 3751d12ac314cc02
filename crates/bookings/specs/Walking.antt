-- How the code walks over the joinings: inner steps.
use Rattle.std.specs.Prelude.{List}
use Rattle.rules.specs.Bookings.{joinings_from}
use Rattle.bookings.specs.AtHand.{wars_told}
use Rattle.format.specs.declared.values.Joining.{Joining}
use Rattle.bookings.specs.declared.joinings.Joinings.{Joinings}

-- The joinings that are left: those of the war at hand, by its number, and of all behind it.
abbrev pub joinings_left : Joinings → List Joining
joinings_left w = joinings_from w.war (wars_told w.events w.wars)
