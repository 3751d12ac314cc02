-- The one call's answer and the slices that it is lent, as the rules have them.
use Rattle.std.specs.Prelude.{List, ℕ}
use Rattle.lists.specs.Options.{option_of}
use Rattle.rules.specs.Finished.{LentSlices, FinishedAnswer}
use Rattle.nations.specs.LentCells.{nation_cells}
use Rattle.chronicle.specs.declared.finished.FinishedAnswer.{FinishedAnswer as CodeAnswer}

-- Its option is the code's.
abbrev pub answer_told : CodeAnswer → FinishedAnswer
answer_told f = record { counts = f.counts; found = option_of f.found; bookings = f.bookings }

-- Those of `nation_events`, and that for bookings.
abbrev pub lent_slices : List ℕ → List ℕ → List ℕ → List ℕ → List ℕ → List ℕ → LentSlices
lent_slices nations entries holders held changes bookings =
    record { chronicle = nation_cells nations entries holders held changes; bookings = bookings }
