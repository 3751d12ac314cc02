-- Rules 6.
use Rattle.std.specs.Prelude.{List, [], ◌∷◌, ◌++◌, map, ℕ, suc, leb, get_or}
use Rattle.std.proofs.Math.Option
use Rattle.lists.specs.Lists.{keep, join_of, whole_rows}
use Rattle.format.specs.declared.rows.WarEvent.{WarEvent}
use Rattle.format.specs.Campaign.{Campaign}
use Rattle.format.specs.declared.values.Booking.{Booking}
use Rattle.format.specs.declared.values.Joining.{Joining}
use Rattle.rules.specs.Chronicle.{Nation}
use Rattle.rules.specs.Resolver.{resolve}

-- A war's events of kinds 0 and 1, in order. (Rules 6.1)
abbrev pub war_joinings : ℕ → List WarEvent → List Joining
war_joinings war es =
    map (λ e. record { war = war; date = e.date; tag = e.tag }) (keep (λ e. leb e.kind 1) es)

-- Wars are numbered from 0: those of a list whose first has the given number. (Rules 6.1)
unfoldable pub joinings_from : ℕ → List (List WarEvent) → List Joining
joinings_from war [] = []
joinings_from war (es ∷ rest) = war_joinings war es ++ joinings_from (suc war) rest

-- All wars' joinings, in order. (Rules 6.1)
abbrev pub joinings_of : Campaign → List Joining
joinings_of c = joinings_from 0 c.wars

-- Plain resolve is asked for the tag and the day it joined, and tells whose it is. Where that finds nothing, the tag stands for itself. (Rules 6.2)
unfoldable pub booking_of : List Nation → Joining → Booking
booking_of ns j =
    record {
      war = j.war;
      tag = j.tag;
      stored = Option.get_or (Option.map (λ d. d.stored) (resolve ns j.tag j.date)) j.tag;
    }

-- The bookings of a campaign, by a list of nations. (Rules 6.2)
unfoldable pub bookings_of : Campaign → List Nation → List Booking
bookings_of c ns = map (booking_of ns) (joinings_of c)

-- A row of three words each. (Rules 6.2)
abbrev pub booking_width : ℕ
booking_width = 3

-- War number, tag, stored tag. (Rules 6.2)
abbrev pub booking_words : Booking → List ℕ
booking_words b = b.war ∷ b.tag.0 ∷ b.stored.0 ∷ []

-- Three words, read as a booking. (Rules 6.2)
abbrev pub booking_at : List ℕ → Booking
booking_at ws = record { war = get_or ws 0 0; tag = record { 0 = get_or ws 1 0 }; stored = record { 0 = get_or ws 2 0 } }

-- The words of bookings, row behind row. (Rules 6.2)
unfoldable pub booking_rows : List Booking → List ℕ
booking_rows bs = join_of booking_words bs

-- The bookings that words tell. (Rules 6.2)
unfoldable pub bookings_in : List ℕ → List Booking
bookings_in ws = map booking_at (whole_rows booking_width ws)
