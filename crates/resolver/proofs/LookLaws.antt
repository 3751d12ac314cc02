-- The last key of a tag that is not after a date, by the count of keys up to there.
use mathlib.Core.Path.{◌≡◌, sym, ap, ◌∙◌}
use mathlib.Core.List.{List}
use mathlib.Core.Option.{none, some}
use Prim.Native.Nat.{ℕ, ◌+◌, ◌-◌, ◌*◌, ◌/◌}
use native.Mathlib.Omega.{arith}
use borrow.Author.Tests.{leb-true, leb-false}
use lib.Dec.{leb}
use lib.ListN.{get_or}
use Rattle.std.specs.Prelude as code
use Rattle.std.specs.Bool.{then_some}
use Rattle.lists.specs.Lists.{keep, last}
use Rattle.lists.specs.Options.{option_of}
use Rattle.lists.proofs.BoolLaws.{cases}
use Rattle.lists.proofs.BoundLaws.{last_none, last-below, last-there}
use Rattle.lists.proofs.ElementLaws.{last_some}
use Rattle.sorting.specs.Sort.{sort_by}
use Rattle.sorting.proofs.SortedKeyLaws.{sorted-up}
use Rattle.format.specs.declared.tag.CountryTag.{CountryTag}
use Rattle.format.specs.declared.date.Eu4Date.{Eu4Date}
use Rattle.search.specs.Halving.{count_below}
use Rattle.resolver.specs.Layout.{claim_numbers, last_number}
use Rattle.resolver.specs.Keys.{lowest_key, is_asked_key, last_asked}

-- The count that a search for an odd number gives, where that is the highest key of a tag and a date.
odd-upto : (tag : CountryTag) (date : Eu4Date) (keys : List ℕ) (key i : ℕ) → key ≡ lowest_key tag date → i ≡ count_below ((key + last_number) / 2 * 2 + 2) keys
    → i ≡ count_below (lowest_key tag date + claim_numbers) keys
unfolding lowest_key
odd-upto tag date keys key i h k =
    let e : (key + last_number) / 2 * 2 + 2 ≡ lowest_key tag date + claim_numbers = omega arith in rw e at k

-- What the code has worked out: the count up to the highest key not after the date, and the lowest key of the tag.
module _ (tag : CountryTag) (date : Eu4Date) (keys : List ℕ) (s : sort_by leb keys ≡ keys) (key i : ℕ) (h : key ≡ lowest_key tag date) (k : i ≡ count_below ((key + last_number) / 2 * 2 + 2) keys) where
  abbrev low : ℕ
  low = lowest_key tag (record { 0 = 0 })

  abbrev high : ℕ
  high = lowest_key tag date + claim_numbers

  upto : i ≡ count_below high keys
  upto = odd-upto tag date keys key i h k

  pub looked-none : i ≡ 0 → none ≡ last_asked tag date keys
  looked-none e = sym (ap last (last_none low high keys (sorted-up keys s) i upto e))

  -- The key in front of that count is the tag's, or lower.
  pub looked : (there : ℕ) (r : code.Option ℕ) → (i ≡ 0 → ⊥) → there ≡ get_or keys (i - 1) 0 → r ≡ then_some (leb low there) there → option_of r ≡ last_asked tag date keys
  looked there r e t f =
      cases (leb low there)
      (λ b. rw (f, b)
      (ap some t
      ∙ sym (last-there low high keys (sorted-up keys s) i upto some none (omega arith) (let l = leb-true low there b in omega (arith, t)))
      ∙ last_some (keep (is_asked_key tag date) keys)))
      (λ b. rw (f, b) (sym (ap last (last-below low high keys (sorted-up keys s) i upto (omega arith) (let l = leb-false low there b in omega (arith, t))))))
