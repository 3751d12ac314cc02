-- Sums of counts, and what they tell of the sizes of a record.
use mathlib.Core.Path.{◌≡◌, sym, ap, ◌∙◌}
use mathlib.Core.Bool.{Bool, true, false, ◌&&◌}
use mathlib.Core.List.{List, ◌∷◌, map}
use Prim.Native.Nat.{ℕ, ◌+◌, ◌<◌, ◌≤◌}
use native.Mathlib.Omega.{arith}
use borrow.Author.Tests.{ne_eqb}
use lib.Dec.{eqb}
use lib.ListN.{length, get_or, drop}
use Rattle.std.proofs.lemmas.List.{at_drop_all, at_drop_more, length-map}
use Rattle.lists.specs.Lists.{sum_of}
use Rattle.lists.proofs.BoolLaws.{and-false}
use Rattle.format.specs.declared.head.Head.{Head}
use Rattle.format.specs.Bytes.{le16}
use Rattle.format.specs.Head.{head_of, within_limits, countries_at, provinces_at, wars_at, ledgers_at, strings_at, country_bytes, province_bytes, war_bytes, ledger_bytes}
use Rattle.format.specs.Rows.{rows_at, country_at, province_at, ledger_at, strings_end}
use Rattle.format.specs.RecordNumber.{totals_agree, length_agrees, sizes_agree}
use Rattle.format.proofs.RowLaws.{rows-counted}
use Rattle.format.proofs.HeadLaws.{limits_of}
use Rattle.format.proofs.SizeLaws.{strings-end-grows}
use Rattle.record_check.specs.declared.sections.Sections.{Sections}
use Rattle.record_check.specs.Sections.{SectionsOf}
use Rattle.record_check.specs.Few.{FewRows}
use Rattle.record_check.proofs.StringLaws.{filled, filled-behind}

-- The counts of the rows that are left.
abbrev pub left : {B A : Type 0} → (A → ℕ) → (B → A) → List B → ℕ
left number read l = sum_of number (map read l)

-- The sum so far, with what is left, is the sum of all.
module _ {B A : Type 0} (number : A → ℕ) (read : B → A) (rows : List B) (i : ℕ) where
  pub sum-more : (row : B) → i < length rows → row ≡ get_or rows i row → (sum n : ℕ) → n ≡ number (read row)
      → sum + left number read (drop i rows) ≡ left number read rows → sum + n + left number read (drop (i + 1) rows) ≡ left number read rows
  sum-more row some here sum n e told =
      let more : left number read (drop i rows) ≡ number (read row) + left number read (drop (i + 1) rows) =
      at_drop_more (left number read) rows i row some ∙ ap (λ x. left number read (x ∷ drop (i + 1) rows)) (sym here) in
      omega (arith, more, e, told)

  pub sum-all : length rows ≤ i → (sum : ℕ) → sum + left number read (drop i rows) ≡ left number read rows → sum ≡ left number read rows
  sum-all h sum told = omega (arith, at_drop_all (left number read) rows i h, told)

-- Sections of a head within its limits have few rows.
pub few-rows : (xs : List ℕ) (h : Head) (z : Sections) → within_limits h ≡ true → SectionsOf xs h z → FewRows z
few-rows xs h z t s =
    let l = limits_of h t in
    record {
      countries = few (λ row. country_at row 0) z.countries.now (country_at xs) country_bytes (countries_at h) h.countries s.countries (omega (arith, l.countries));
      provinces = few (λ row. province_at row 0) z.provinces.now (province_at xs) province_bytes (provinces_at h) h.provinces s.provinces l.provinces;
      wars = few (λ row. le16 row 0) z.wars.now (le16 xs) war_bytes (wars_at h) h.wars s.wars (omega (arith, l.wars));
      ledgers = few (λ row. ledger_at row 0) z.ledgers.now (ledger_at xs) ledger_bytes (ledgers_at h) h.ledgers s.ledgers (omega (arith, l.ledgers));
    }
  where
    few : {A B : Type 0} (read : A → B) (rows : List A) (row : ℕ → B) (width at n : ℕ) → map read rows ≡ rows_at row width xs at n → n ≤ 8000
        → length rows ≤ 8000
    few read rows row width at n e h =
        omega (arith, h, rows-counted row width xs at n, sym (length-map rows read) ∙ ap length e)

-- The sums of the counts against the head's totals.
pub sums-told : (xs : List ℕ) (h : Head) (z : Sections) (a b e v y : ℕ) → h ≡ head_of xs → SectionsOf xs h z
    → a ≡ sum_of (λ r. r.previous) (map (λ row. country_at row 0) z.countries.now)
    → b ≡ sum_of (λ r. r.switches) (map (λ row. country_at row 0) z.countries.now)
    → e ≡ sum_of (λ r. r.events) (map (λ row. province_at row 0) z.provinces.now)
    → v ≡ sum_of (λ (n : ℕ). n) (map (λ row. le16 row 0) z.wars.now)
    → y ≡ sum_of (λ r. r.points) (map (λ row. ledger_at row 0) z.ledgers.now)
    → eqb a h.previous && eqb b h.switches && eqb e h.events && eqb v h.war_events && eqb y h.points ≡ totals_agree xs
unfolding totals_agree
sums-told xs h z a b e v y eh s ea eb ee ev ey =
    rw (ea, eb, ee, ev, ey, s.countries, s.provinces, s.wars, s.ledgers, eh)

-- ## The sizes of a record, by what the code tests in turn

pub sizes-limits : (xs : List ℕ) (h : Head) → h ≡ head_of xs → within_limits h ≡ false → sizes_agree xs ≡ false
unfolding sizes_agree
sizes-limits xs h e t = simp (sym e, t)

-- the bytes end before the sections do
pub sizes-short : (xs : List ℕ) (h : Head) → h ≡ head_of xs → length xs < strings_at h → sizes_agree xs ≡ false
unfolding sizes_agree length_agrees
sizes-short xs h e short =
    let late : length xs < strings_at (head_of xs) = rw e at short in
    let none = ne_eqb (strings_end xs (strings_at (head_of xs)) (head_of xs).strings) (length xs)
    (λ q. omega (arith, late, q, strings-end-grows xs (strings_at (head_of xs)) (head_of xs).strings)) in
    simp none (and-false (within_limits (head_of xs) && totals_agree xs))

pub sizes-told : (xs : List ℕ) (h : Head) (z : Sections) (t f : Bool) → h ≡ head_of xs → SectionsOf xs h z → within_limits h ≡ true
    → t ≡ totals_agree xs → f ≡ filled z.strings.now h.strings → t && f ≡ sizes_agree xs
unfolding sizes_agree length_agrees
sizes-told xs h z t f e s limits et ef =
    let within : within_limits (head_of xs) ≡ true = sym (ap within_limits e) ∙ limits in
    let end : f ≡ eqb (strings_end xs (strings_at h) h.strings) (length xs) =
    ef ∙ ap (λ l. filled l h.strings) s.strings ∙ sym (filled-behind xs (strings_at h) h.strings s.inside) in
    rw (within, et, end, e)
