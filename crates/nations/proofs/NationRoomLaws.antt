-- What `place_nations` asks of its steps: where the nations that are counted pass the test for room, there is room for them.
use mathlib.Core.Path.{◌≡◌, sym, ap, ◌∙◌}
use mathlib.Core.Bool.{Bool, true}
use mathlib.Core.List.{List}
use Prim.Native.Nat.{ℕ, ◌*◌, ◌/◌}
use native.Mathlib.Omega.{arith}
use borrow.Author.Tests.{leb-true, leb-false, le-leb, lt-leb}
use lib.Dec.{leb}
use lib.ListN.{length}
use Rattle.lists.proofs.BoolLaws.{cases, and_left, and_right}
use Rattle.rules.specs.Chronicle.{Nation}
use Rattle.rules.specs.NationRows.{nation_width, entry_width}
use Rattle.rules.proofs.RowLaws.{length-nation_words, length-entry_words}
use Rattle.nations.specs.declared.written_nations.Listed.{Listed}
use Rattle.nations.specs.declared.tables.NationTables.{NationTables}
use Rattle.nations.specs.Reading.{cells_in}
use Rattle.nations.specs.ListedNations.{nations_at}
use Rattle.nations.specs.WrittenNations.{listed_of, nations_for, NationsRoom}

-- So many rows have room if they are not more than the whole rows of a slice.
pub nations-by : (n cells : ℕ) → leb n (cells / nation_width) ≡ leb (nation_width * n) cells
nations-by n cells =
    cases (leb n (cells / nation_width))
    (λ h. h ∙ sym (le-leb (nation_width * n) cells (omega (arith, leb-true n (cells / nation_width) h))))
    (λ h. h ∙ sym (lt-leb (nation_width * n) cells (omega (arith, leb-false n (cells / nation_width) h))))

pub entries-by : (n cells : ℕ) → leb n (cells / entry_width) ≡ leb (entry_width * n) cells
entries-by n cells =
    cases (leb n (cells / entry_width))
    (λ h. h ∙ sym (le-leb (entry_width * n) cells (omega (arith, leb-true n (cells / entry_width) h))))
    (λ h. h ∙ sym (lt-leb (entry_width * n) cells (omega (arith, leb-false n (cells / entry_width) h))))

-- What is counted has room, where the test says so.
module _ (t : NationTables) (r : Listed) (counted : r ≡ listed_of (nations_at (cells_in t) t.initial_keys.keys.now)) where
  abbrev here : List Nation
  here = nations_at (cells_in t) t.initial_keys.keys.now

  module _ (rows₀ entries₀ : List ℕ) (fit : Bool) (told : fit ≡ nations_for r (length rows₀) (length entries₀)) where
    place-fits : fit ≡ true → nations_for (listed_of here) (length rows₀) (length entries₀) ≡ true
    place-fits f = ap (λ (l : Listed). nations_for l (length rows₀) (length entries₀)) (sym counted) ∙ sym told ∙ f

    pub rows-fit : fit ≡ true → NationsRoom here rows₀ entries₀
    rows-fit f =
        let n : Bool = leb (nation_width * (listed_of here).nations) (length rows₀) in
        let e : Bool = leb (entry_width * (listed_of here).entries) (length entries₀) in
        let fits = place-fits f in
        record {
          rows = omega (arith, length-nation_words here, leb-true (nation_width * (listed_of here).nations) (length rows₀) (and_left n e fits));
          entries = omega (arith, length-entry_words here, leb-true (entry_width * (listed_of here).entries) (length entries₀) (and_right n e fits));
        }
