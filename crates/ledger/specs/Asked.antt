-- What refuses a chronicle and a nation number, or 0.
use Rattle.std.specs.Prelude.{List, [], ◌∷◌, ℕ}
use Rattle.std.proofs.Math.ListN.{get_elem?}
use Rattle.format.specs.RecordNumber.{first_of}
use Rattle.rules.specs.NationRows.{nations_in}
use Rattle.rules.specs.CallNumbers.{chronicle_number, asked_nation_number}

unfoldable pub asked_ledger_number : List ℕ → List ℕ → ℕ → ℕ
asked_ledger_number ws es i = first_of (chronicle_number ws es ∷ asked_nation_number (get_elem? (nations_in ws es) i) ∷ [])
