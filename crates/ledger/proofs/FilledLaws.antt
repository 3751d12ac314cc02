-- What comes of the points that a span reads: zeros year by year, the points behind them, and how many they are.
use mathlib.Core.Path.{◌≡◌, refl, sym, ap, ◌∙◌}
use mathlib.Core.List.{List, [], ◌∷◌, ◌++◌, append_assoc, append-nil}
use Prim.Native.Nat.{ℕ, suc, ◌+◌, ◌-◌, ◌<◌, ◌≤◌, min}
use native.Mathlib.Omega.{arith}
use lib.ListN.{length, length-append, length-map}
use Rattle.lists.specs.Lists.{numbers_from}
use Rattle.lists.proofs.ListLaws.{length-numbers}
use Rattle.format.specs.declared.tag.CountryTag.{CountryTag}
use Rattle.format.specs.declared.rows.Point.{Point}
use Rattle.format.specs.Dates.{year}
use Rattle.format.specs.declared.values.Span.{Span}
use Rattle.format.specs.declared.values.LedgerPoint.{LedgerPoint}
use Rattle.rules.specs.Ledger.{zeros, filled, within}
use Rattle.ledger.specs.PointSteps.{point_of, year_filled, filled_to, filled_count}

-- ## Zeros

module _ (tag : CountryTag) where
  pub zeros-length : (running until : ℕ) → length (zeros tag running until) ≡ until - running
  unfolding zeros
  zeros-length running until = length-map (numbers_from running (until - running)) (λ y. point_of tag y 0) ∙ length-numbers running (until - running)

  pub zeros-start : (running until : ℕ) → zeros tag (running + 0) until ≡ zeros tag running until
  zeros-start running until = let e : running + 0 ≡ running = omega arith in rw e

  -- Those that are left behind the first i.
  module _ (running until i : ℕ) where
    pub zeros-end : until ≤ running + i → zeros tag (running + i) until ≡ []
    unfolding zeros
    zeros-end h = let e : until - (running + i) ≡ 0 = omega arith in rw e

    pub zeros-more : running + i < until → zeros tag (running + i) until ≡ (point_of tag (running + i) 0 ∷ []) ++ zeros tag (running + (i + 1)) until
    unfolding zeros
    zeros-more h =
        let e : until - (running + i) ≡ suc (until - (running + (i + 1))) = omega arith in
        let f : running + (i + 1) ≡ suc (running + i) = omega arith in
        rw (e, f)

-- ## By tag and last year

pub filled-to : (s : Span) (running : ℕ) (ps : List Point) → filled s running ps ≡ filled_to s.tag (year s.end) running ps
unfolding filled
filled-to s running [] = refl
filled-to s running (p ∷ ps) =
    let first : LedgerPoint = point_of s.tag p.year p.value in
    ap (λ (l : List LedgerPoint). zeros s.tag running p.year ++ (first ∷ l)) (filled-to s (p.year + 1) ps)
    ∙ sym (append_assoc (zeros s.tag running p.year) (first ∷ []) (filled_to s.tag (year s.end) (p.year + 1) ps))

-- ## How many

year-length : (tag : CountryTag) (running : ℕ) (p : Point) → length (year_filled tag running p) ≡ p.year - running + 1
year-length tag running p =
    length-append (zeros tag running p.year) (point_of tag p.year p.value ∷ []) ∙ ap (λ (n : ℕ). n + 1) (zeros-length tag running p.year)

pub filled-count : (tag : CountryTag) (last running : ℕ) (ps : List Point) → length (filled_to tag last running ps) ≡ filled_count last running ps
filled-count tag last running [] = zeros-length tag running (last + 1)
filled-count tag last running (p ∷ ps) =
    let rest : List LedgerPoint = filled_to tag last (p.year + 1) ps in
    omega (arith, length-append (year_filled tag running p) rest, year-length tag running p, filled-count tag last (p.year + 1) ps)

-- ## Read point by point

-- Those read so far gave n points, held to the most; the year that runs behind them is `running`.
pub record Counting (last from most : ℕ) (read : List Point) (running n : ℕ) : Type 0 where
  pub few : n ≤ most
  pub same : (rest : List Point) → min (n + filled_count last running rest) most ≡ min (filled_count last from (read ++ rest)) most

pub count-start : (last from most : ℕ) → Counting last from most [] from 0
count-start last from most = record { few = omega arith; same = λ rest. omega arith }

module _ {last from most : ℕ} {read : List Point} {running n : ℕ} (c : Counting last from most read running n) where
  pub count-next : (p : Point) (m : ℕ) → m ≡ min (n + (p.year - running + 1)) most → Counting last from most (read ++ (p ∷ [])) (p.year + 1) m
  count-next p m e =
      record {
        few = omega arith;
        same = λ rest. let s = c.same (p ∷ rest) in rw (append_assoc read (p ∷ []) rest) (omega (arith, s));
      }

  -- All are read.
  pub count-end : (s : Span) (ps : List Point) → last ≡ year s.end → from ≡ year s.start + 1 → read ≡ within s ps → (m : ℕ) → m ≡ min (n + (last + 1 - running)) most
      → m ≡ min (length (filled s (year s.start + 1) (within s ps))) most
  count-end s ps e f q m k =
      let all : filled_count last from (read ++ []) ≡ length (filled s (year s.start + 1) (within s ps)) =
      ap (filled_count last from) (append-nil read ∙ q) ∙ rw (e, f) (sym (ap length (filled-to s (year s.start + 1) (within s ps)) ∙ filled-count s.tag (year s.end) (year s.start + 1) (within s ps))) in
      omega (arith, c.same [], all)
