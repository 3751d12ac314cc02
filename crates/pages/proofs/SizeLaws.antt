-- How long a page is at most: 16,384 tags of 25 bytes each, below a first line of 15.
use mathlib.Core.Path.{◌≡◌, refl, sym, ap, ◌∙◌}
use mathlib.Core.Bool.{Bool, true, false, cond, ◌&&◌}
use mathlib.Core.List.{List, [], ◌∷◌}
use mathlib.Core.Option.{Option, none, some, none-ne-some, some-injective}
use Prim.Native.Nat.{ℕ, zero, suc, ◌+◌, ◌*◌, ◌/◌, ◌%◌, ◌≤◌, ◌<◌}
use native.Mathlib.Omega.{arith}
use borrow.Author.Tests.{leb-true, ltb-false}
use lib.Dec.{leb, ltb, eqb}
use lib.ListN.{length, length-append}
use Rattle.lists.specs.Lists.{first_that, join_of}
use Rattle.lists.specs.Text.{ascii}
use Rattle.lists.proofs.BoolLaws.{cases, both}
use Rattle.lists.proofs.EachLaws.{all-each}
use Rattle.lists.proofs.ListLaws.{join-short}
use Rattle.format.specs.declared.tag.CountryTag.{CountryTag}
use Rattle.format.specs.Campaign.{campaign_of}
use Rattle.format.specs.Tags.{created, same_tag}
use Rattle.rules.specs.Chronicle.{Nation}
use Rattle.rules.specs.Changes.{changes_of}
use Rattle.rules.specs.Nations.{nations_of}
use Rattle.rules.specs.Page.{one_more, selection_of, tags_read, digits, decimal, tag_text, line, is_living, tag_line, page_text}
use Rattle.rules.specs.PageOutcomes.{bytes_number, limits_number, page_of}
use Rattle.pages.specs.declared.lines.TheConstants.{SHORT_LINE}
use Rattle.pages.specs.declared.selection.TheConstants.{TAG_LINE}
use Rattle.pages.specs.Printing.{most_printed}

-- ## Digits

-- A number below the bound has so many digits at most.
abbrev FewDigits : ℕ → ℕ → Type 0
FewDigits bound most = (steps n : ℕ) → n < bound → length (digits steps n) ≤ most

digits-one : FewDigits 10 1
unfolding digits
digits-one zero n h = omega arith
digits-one (suc steps) n h =
    cases (ltb n 10) (λ t. rw t (omega arith)) (λ f. absurd (omega (arith, h, ltb-false n 10 f)))

digits_more : (bound most : ℕ) → FewDigits bound most → FewDigits (10 * bound) (most + 1)
unfolding digits
digits_more bound most short zero n h = omega arith
digits_more bound most short (suc steps) n h =
    cases (ltb n 10) (λ t. rw t (omega arith))
    (λ f.
    let l = length-append (digits steps (n / 10)) ((48 + n % 10) ∷ []) in
    let s = short steps (n / 10) (omega (arith, h)) in
    rw f (omega (arith, l, s)))

digits-four : FewDigits 10000 4
digits-four = digits_more 1000 3 (digits_more 100 2 (digits_more 10 1 digits-one))

digits-five : FewDigits 100000 5
digits-five = digits_more 10000 4 digits-four

-- ## Lines

line-one : (f : List ℕ) → length (line (f ∷ [])) ≡ length f + 1
unfolding line
line-one f = length-append f (10 ∷ [])

line-more : (f g : List ℕ) (fs : List (List ℕ)) → length (line (f ∷ g ∷ fs)) ≡ length f + 1 + length (line (g ∷ fs))
unfolding line
line-more f g fs = omega (arith, length-append f (32 ∷ line (g ∷ fs)))

status-short : (b : Bool) → length (cond b (ascii "living") (ascii "annexed")) ≤ 7
status-short true = omega arith
status-short false = omega arith

tag-three : (t : CountryTag) → length (tag_text t) ≡ 3
tag-three t = refl

line-short : (t : CountryTag) (o : Option Nation) → ((n : Nation) → o ≡ some n → length n.entries ≤ 5000) → length (tag_line t o) ≤ SHORT_LINE
unfolding tag_line
line-short t none h =
    let six : length (ascii "absent") ≡ 6 = refl in
    omega (arith, tag-three t, six, line-more (tag_text t) (ascii "absent") [], line-one (ascii "absent"))
line-short t (some n) h =
    let status = cond (is_living n) (ascii "living") (ascii "annexed") in
    let count = decimal (length n.entries) in
    let d : length count ≤ 4 = digits-four (length n.entries + 1) (length n.entries) (omega (arith, h n refl)) in
    omega (
      arith,
      d,
      status-short (is_living n),
      tag-three n.stored,
      tag-three n.initial,
      tag-three n.latest,
      line-more (tag_text n.stored) (tag_text n.initial) (tag_text n.latest ∷ count ∷ status ∷ []),
      line-more (tag_text n.initial) (tag_text n.latest) (count ∷ status ∷ []),
      line-more (tag_text n.latest) count (status ∷ []),
      line-more count status [],
      line-one status,
    )

-- ## The page

-- A nation has no more entries than all of them together.
first-entries : (p : Nation → Bool) (ns : List Nation) (n : Nation) → first_that p ns ≡ some n
    → length n.entries ≤ length (join_of (λ m. m.entries) ns)
first-entries p [] n e = absurd (none-ne-some n e)
first-entries p (m ∷ ns) n e =
    let l = length-append m.entries (join_of (λ k. k.entries) ns) in
    cases (p m)
    (λ t.
    let same : m ≡ n = some-injective m n (sym (ap (λ b. cond b (some m) (first_that p ns)) t) ∙ e) in
    omega (arith, l, ap (λ k. length k.entries) same))
    (λ f. omega (arith, l, first-entries p ns n (sym (ap (λ b. cond b (some m) (first_that p ns)) f) ∙ e)))

-- A tag read takes four bytes.
more-tags : (o : Option CountryTag) (feed : Bool) (r : Option (List CountryTag)) (k : ℕ) → TAG_LINE * length (tags_read r) ≤ k
    → TAG_LINE * length (tags_read (one_more o feed r)) ≤ k + TAG_LINE
more-tags none feed r k h = omega arith
more-tags (some t) false r k h = omega arith
more-tags (some t) true none k h = omega arith
more-tags (some t) true (some ts) k h = omega (arith, h)

tags-few : (ys : List ℕ) → TAG_LINE * length (tags_read (selection_of ys)) ≤ length ys
unfolding selection_of
tags-few [] = omega arith
tags-few (a ∷ []) = omega arith
tags-few (a ∷ b ∷ []) = omega arith
tags-few (a ∷ b ∷ c ∷ []) = omega arith
tags-few (a ∷ b ∷ c ∷ d ∷ rest) =
    let m = more-tags (created (a ∷ b ∷ c ∷ [])) (eqb d 10) (selection_of rest) (length rest) (tags-few rest) in
    omega (arith, m)

text-short : (ns : List Nation) (tags : List CountryTag) → length tags ≤ 16384 → length (join_of (λ n. n.entries) ns) ≤ 5000
    → length (page_text ns tags) ≤ most_printed
unfolding page_text
text-short ns tags h few =
    let eight : length (ascii "selected") ≡ 8 = refl in
    let count = decimal (length tags) in
    let d : length count ≤ 5 = digits-five (length tags + 1) (length tags) (omega (arith, h)) in
    let one : CountryTag → List ℕ = λ t. tag_line t (first_that (λ n. same_tag n.stored t) ns) in
    let each : (t : CountryTag) → length (one t) ≤ SHORT_LINE =
    λ t. line-short t (first_that (λ n. same_tag n.stored t) ns) (λ n e. omega (arith, few, first-entries (λ m. same_tag m.stored t) ns n e)) in
    omega (
      arith,
      h,
      d,
      eight,
      line-more (ascii "selected") count [],
      line-one count,
      join-short one SHORT_LINE tags (all-each each tags),
      length-append (line (ascii "selected" ∷ count ∷ [])) (join_of one tags),
    )

no-ten : (b : Bool) → cond {A = ℕ} b 0 10 ≡ 0 → b ≡ true
no-ten true e = refl
no-ten false e = absurd (omega (arith, e))

module _ (xs selection : List ℕ) where
  pub page-length : bytes_number xs selection ≡ 0 → limits_number (campaign_of xs) ≡ 0 → length (page_of xs selection) ≤ most_printed
  unfolding bytes_number limits_number page_of
  page-length few limits =
      let c = campaign_of xs in
      let all = join_of (λ n. n.entries) (nations_of c) in
      let b = both (leb (length xs) 65536) (leb (length selection) 65536) (no-ten (leb (length xs) 65536 && leb (length selection) 65536) few) in
      let l = both (leb (length (changes_of c)) 4000) (leb (length all) 5000) (no-ten (leb (length (changes_of c)) 4000 && leb (length all) 5000) limits) in
      text-short (nations_of c) (tags_read (selection_of selection))
      (omega (arith, tags-few selection, leb-true (length selection) 65536 b.1))
      (leb-true (length all) 5000 l.1)
