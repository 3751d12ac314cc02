-- The table of days while it is filled, month by month.
use mathlib.Core.Path.{◌≡◌, refl, sym, ap, ◌∙◌}
use mathlib.Core.Bool.{Bool, true, false}
use mathlib.Core.List.{List}
use Prim.Native.Nat.{ℕ, ◌+◌, ◌*◌, ◌/◌, ◌%◌, ◌<◌, ◌≤◌}
use native.Mathlib.Decide.{dec_lt}
use native.Mathlib.Omega.{arith}
use borrow.Author.Tests.{leb-true, le-leb, lt-leb}
use lib.Dec.{leb}
use lib.ListN.{length, get_or, drop, replicate, length-take, length-drop, length-replicate, get_or-eq_default}
use borrow.Rule.Slice.PartMut.{mid_of, put_mid, same_len_mid}
use Rattle.std.proofs.lemmas.List.{places}
use Rattle.lists.proofs.BoolLaws.{and-false}
use Rattle.lists.proofs.TableLaws.{entry, blank-entry}
use Rattle.format.specs.Dates.{month_table, month_days}
use Rattle.format.specs.Days.{is_day}
use Rattle.record_check.specs.Tables.{DaysTo, DayTable}

-- No month has more than 31 days, and none past the twelfth has any.
pub month-short : (m : ℕ) → month_days m ≤ 31
month-short m =
    elim (dec_lt m 13) as (λ _. month_days m ≤ 31) [
      | yes p ↦ leb-true (month_days m) 31 (entry (λ _ x. leb x 31) month_table refl m p)
      | no p ↦ let none = get_or-eq_default month_table 0 {n = m} (omega arith) in omega (arith, none)
    ]

-- Which numbers with m hundreds are days, and which are not.
pub day-good : (k m : ℕ) → k / 100 ≡ m → 1 ≤ k % 100 → k % 100 ≤ month_days m → is_day k ≡ true
unfolding is_day
day-good k m e l h = rw e (simp (le-leb 1 (k % 100) l, le-leb (k % 100) (month_days m) h))

pub day-late : (k m : ℕ) → k / 100 ≡ m → month_days m < k % 100 → is_day k ≡ false
unfolding is_day
day-late k m e h = rw (e, lt-leb (k % 100) (month_days m) h) (and-false (leb 1 (k % 100)))

day-none : (k : ℕ) → k % 100 ≡ 0 → is_day k ≡ false
unfolding is_day
day-none k e = simp (lt-leb 1 (k % 100) (omega (arith, e)))

-- A number in a month without days, which are all but 1 to 12.
month-empty : (k : ℕ) → month_days (k / 100) ≡ 0 → is_day k ≡ false
month-empty k e =
    elim (dec_lt 0 (k % 100)) as (λ _. is_day k ≡ false) [
      | yes p ↦ day-late k (k / 100) refl (omega (arith, e))
      | no p ↦ day-none k (omega arith)
    ]

-- Numbers that are no days need no mark.
days-skip : (table : List Bool) (a b : ℕ) → DaysTo table a → a ≤ b → ((k : ℕ) → a ≤ k → k < b → is_day k ≡ false) → DaysTo table b
days-skip table a b t l none =
    record {
      size = t.size;
      below =
          λ k h. elim (dec_lt k a) as (λ _. get_or table k false ≡ is_day k) [
            | yes p ↦ t.below k p
            | no p ↦ t.rest k (omega arith) ∙ sym (none k (omega arith) h)
          ];
      rest = λ k h. t.rest k (omega arith);
    }

-- A month begins behind its number of hundreds, which is no day, and ends behind its last day.
pub days-open : (table : List Bool) (m first : ℕ) → 100 * m ≤ first → first ≤ 100 * m + 1 → DaysTo table (100 * m) → DaysTo table first
days-open table m first l h t = days-skip table (100 * m) first t l (λ k a b. day-none k (omega arith))

pub days-close : (table : List Bool) (m end : ℕ) → end ≡ 100 * m + 1 + month_days m → DaysTo table end → DaysTo table (100 * m + 100)
days-close table m end e t =
    let short = month-short m in
    days-skip table end (100 * m + 100) t (omega arith) (λ k l h. day-late k m (omega (arith, short)) (omega (arith, short)))

-- The days from a on are marked, n of them.
pub days-fill : (table marks : List Bool) (a n : ℕ) → DaysTo table a → a + n ≤ 10000 → marks ≡ replicate (length (mid_of a n table)) true
    → ((k : ℕ) → a ≤ k → k < a + n → is_day k ≡ true) → DaysTo (put_mid a n table marks) (a + n)
days-fill table marks a n t fits e day =
    let long : length (mid_of a n table) ≡ n = omega (arith, t.size, length-take n (drop a table), length-drop a table) in
    let filled : marks ≡ replicate n true = e ∙ ap (λ (i : ℕ). replicate i true) long in
    rw filled (record {
      size = same_len_mid a n table (replicate n true) (omega (arith, length-replicate n true, long)) ∙ t.size;
      below =
          λ k h. elim (dec_lt k a) as (λ _. get_or (put_mid a n table (replicate n true)) k false ≡ is_day k) [
            | yes p ↦ grind (arith, places) ∙ t.below k p
            | no p ↦ grind (arith, places) ∙ sym (day k (omega arith) h)
          ];
      rest = λ k h. grind (arith, places) ∙ t.rest k (omega arith);
    })

-- A table without marks is right for what has no month, and one with the marks of twelve months is whole.
pub days-none : DaysTo (replicate 10000 false) (100 * 1)
days-none =
    record {
      size = length-replicate 10000 false;
      below = λ k h. blank-entry false 10000 k ∙ sym (month-empty k (let zero : k / 100 ≡ 0 = omega arith in ap (λ (m : ℕ). month_days m) zero));
      rest = λ k h. blank-entry false 10000 k;
    }

pub days-whole : (table : List Bool) → DaysTo table 1300 → DayTable table
days-whole table t =
    record {
      rule =
          λ k. elim (dec_lt k 1300) as (λ _. get_or table k false ≡ is_day k) [
            | yes p ↦ t.below k p
            | no p ↦
                t.rest k (omega arith) ∙ sym (month-empty k (get_or-eq_default month_table 0 {n = k / 100} (omega arith)))
          ];
    }
