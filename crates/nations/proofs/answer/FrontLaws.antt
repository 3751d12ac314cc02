-- The fronts of keys and cells that `write_rest` lends on.
use mathlib.Core.Path.{◌≡◌, sym, ◌∙◌}
use mathlib.Core.List.{List}
use Prim.Native.Nat.{ℕ, ◌*◌, ◌/◌, ◌≤◌}
use native.Mathlib.Omega.{arith}
use borrow.Author.Tests.{leb-true, leb-false, le-leb, lt-leb}
use lib.Dec.{leb}
use lib.ListN.{length, take, length-take}
use Rattle.lists.proofs.BoolLaws.{cases}
use Rattle.rules.specs.Changes.{change_width}
use Rattle.nation_tables.specs.declared.gathering.TableSizes.{TableSizes}
use Rattle.nations.specs.NationSteps.{RestReady}

-- What the writing of changes asks of them.
module _ (xs : List ℕ) (z : TableSizes) (slots keys cells : List ℕ) {p n : ℕ} (q : RestReady xs z slots keys p n)
    (keys_long : length keys ≡ n) (cells_long : length cells ≡ n) where
  pub changes-long : length (take z.changes cells) ≡ length (take z.changes keys)
  changes-long = omega (arith, length-take z.changes cells, length-take z.changes keys)

  pub changes-room : (changes : List ℕ) → change_width * z.changes ≤ length changes → change_width * length (take z.changes keys) ≤ length changes
  changes-room changes room = omega (arith, room, length-take z.changes keys)

-- So many changes have room if they are not more than the whole rows of a slice.
pub changes-by : (n cells : ℕ) → leb n (cells / change_width) ≡ leb (change_width * n) cells
changes-by n cells =
    cases (leb n (cells / change_width))
    (λ h. h ∙ sym (le-leb (change_width * n) cells (omega (arith, leb-true n (cells / change_width) h))))
    (λ h. h ∙ sym (lt-leb (change_width * n) cells (omega (arith, leb-false n (cells / change_width) h))))
