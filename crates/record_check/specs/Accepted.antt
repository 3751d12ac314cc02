-- An accepted record: refused by its number exactly when the rules refuse it, else its head and the rows of its sections.
use Rattle.std.specs.Prelude as code
use Rattle.std.specs.Prelude.{◌≡◌, List, ℕ, IfOk}
use Rattle.format.specs.declared.refused.Refusal.{Refusal}
use Rattle.format.specs.Head.{head_of}
use Rattle.format.specs.RefusalNumber.{number_of}
use Rattle.format.specs.RecordNumber.{refusal}
use Rattle.record_check.specs.Sections.{SectionsOf}
use Rattle.record_check.specs.declared.parsed.Parsed.{Parsed}

-- What `accept` promises.
pub record RightlyAccepted (xs : List ℕ) (r : code.Result Parsed Refusal) : Type 0 where
  pub number : number_of r ≡ refusal xs
  pub rows : IfOk r (λ a. (a.head ≡ head_of xs) × SectionsOf xs a.head a.sections)
