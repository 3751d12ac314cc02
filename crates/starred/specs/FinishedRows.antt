-- What the program's rows are: those of a finished chronicle, whose other cells it does not keep.
use Rattle.std.specs.Prelude.{List, ℕ}
use Rattle.format.specs.declared.tag.CountryTag.{CountryTag}
use Rattle.format.specs.declared.date.Eu4Date.{Eu4Date}
use Rattle.rules.specs.Finished.{FinishedCells}
use Rattle.chronicle.specs.declared.finished.FinishedAnswer.{FinishedAnswer}
use Rattle.chronicle.specs.Finishing.{answer_told, lent_slices}

pub record FinishedRows (xs : List ℕ) (tag : CountryTag) (day : Eu4Date) (answer : FinishedAnswer) (nations₀ entries₀ : List ℕ) : Type 0 where
  pub holders : List ℕ
  pub held : List ℕ
  pub changes : List ℕ
  pub bookings : List ℕ
  pub guaranteed : FinishedCells xs tag day (answer_told answer) (lent_slices nations₀ entries₀ holders held changes bookings)
