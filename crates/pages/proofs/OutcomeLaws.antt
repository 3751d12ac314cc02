-- Two limits kept or not; and bytes by case: without room, or written.
use mathlib.Core.Path.{◌≡◌, refl, sym, ap, ap₂, ◌∙◌}
use mathlib.Core.Bool.{Bool, true, false, ◌&&◌, ◌||◌}
use mathlib.Core.List.{List, [], ◌∷◌, ◌++◌}
use mathlib.Core.Option.{Option, none, some, map, none-ne-some, some-injective}
use Prim.Native.Nat.{ℕ, ◌<◌, ◌≤◌}
use native.Mathlib.Omega.{arith}
use borrow.Author.Tests.{ltb-true, ltb-false, le-leb, lt-leb}
use lib.Dec.{leb, ltb}
use lib.ListN.{length}
use Rattle.lists.proofs.BoolLaws.{cases, and-false, neither}
use Rattle.format.specs.declared.tag.CountryTag.{CountryTag}
use Rattle.format.specs.RecordNumber.{first_of}
use Rattle.format.proofs.FirstLaws.{first-stop, first-pass, first_one}
use Rattle.rules.specs.Lent.{refused, gives, written, fits, room_number, outcome}
use Rattle.rules.specs.NationRows.{nation_rows_in}
use Rattle.rules.specs.Page.{selection_of, tags_read}
use Rattle.rules.specs.PageOutcomes.{selection_number}
use Rattle.rules.proofs.LentLaws.{outcome-refused, outcome-gives}
use Rattle.pages.specs.Lines.{heading}
use Rattle.pages.specs.Stored.{lines_of}
use Rattle.pages.specs.Texts.{call_lines}

-- ## Two limits

-- One of two numbers is past its limit, or neither is.
module _ (a b most-a most-b : ℕ) where
  past : (x most : ℕ) → ltb most x ≡ true → leb x most ≡ false
  past x most h = lt-leb x most (ltb-true most x h)

  not-past : (x most : ℕ) → ltb most x ≡ false → leb x most ≡ true
  not-past x most h = le-leb x most (ltb-false most x h)

  pub either-past : (ltb most-a a || ltb most-b b) ≡ true → (leb a most-a && leb b most-b) ≡ false
  either-past h =
      cases (ltb most-a a) (λ t. ap (λ x. x && leb b most-b) (past a most-a t))
      (λ f.
      let other : ltb most-b b ≡ true = sym (ap (λ x. x || ltb most-b b) f) ∙ h in
      ap (λ x. leb a most-a && x) (past b most-b other) ∙ and-false (leb a most-a))

  pub neither-past : (ltb most-a a || ltb most-b b) ≡ false → (leb a most-a && leb b most-b) ≡ true
  neither-past h =
      let both = neither (ltb most-a a) (ltb most-b b) h in ap₂ ◌&&◌ (not-past a most-a both.0) (not-past b most-b both.1)

-- ## Bytes with room, or without

module _ (text before : List ℕ) where
  pub lines-short : length before < length text → record { answer = refused 10; memory = before } ≡ call_lines text before
  lines-short h = sym (rw (lt-leb (length text) (length before) h) (outcome-refused 10 (length text) (written text before) before (omega arith)))

  pub lines-written : (n : ℕ) (after : List ℕ) → length text ≤ length before → n ≡ length text → after ≡ written text before
      → record { answer = gives n; memory = after } ≡ call_lines text before
  lines-written n after h c e =
      rw (c, e) (sym (outcome-gives _ (length text) (written text before) before (ap room_number (le-leb (length text) (length before) h))))
