-- Points written into a slice from its front on, as many as find room: some of them, then more, then all.
use mathlib.Core.Path.{◌≡◌, refl, sym, ap, subst, ◌∙◌}
use mathlib.Core.Bool.{Bool, true, false, cond}
use mathlib.Core.List.{List, [], ◌∷◌, ◌++◌, append_assoc, append-nil}
use Prim.Native.Nat.{ℕ, zero, suc, ◌+◌, ◌-◌, ◌*◌, ◌/◌, ◌<◌, ◌≤◌, min}
use native.Mathlib.Nat.{zero-add}
use native.Mathlib.Decide.{dec_le}
use native.Mathlib.Omega.{arith}
use borrow.Author.Tests.{leb-true, leb-false}
use lib.Dec.{leb}
use mir.Val.{bool_byte}
use lib.ListN.{length, take, drop, length-take, length-drop}
use lib.Seq.{take_all, take-nil}
use Rattle.lists.proofs.FillLaws.{Behind, row-behind, Filling, filling-new, filling-behind, filling-count, filling-written}
use Rattle.lists.proofs.ListLaws.{length-join, join-append}
use Rattle.lists.proofs.WriteLaws.{behind}
use Rattle.format.specs.declared.tag.CountryTag.{CountryTag}
use Rattle.format.specs.declared.rows.Point.{Point}
use Rattle.format.specs.Dates.{year}
use Rattle.format.specs.declared.values.Span.{Span}
use Rattle.format.specs.declared.values.LedgerPoint.{LedgerPoint}
use Rattle.rules.specs.Ledger.{ledger_width, zeros, filled, within, point_words, point_rows}
use Rattle.ledger.specs.PointSteps.{point_of, year_filled, filled_to, FillsSpan}
use Rattle.ledger.proofs.FilledLaws.{zeros-end, zeros-more, filled-to}

-- ## Rows of points

pub rows-length : (ps : List LedgerPoint) → length (point_rows ps) ≡ ledger_width * length ps
unfolding point_rows
rows-length ps = length-join ledger_width point_words (λ p. refl) ps

rows_append : (ps qs : List LedgerPoint) → point_rows (ps ++ qs) ≡ point_rows ps ++ point_rows qs
unfolding point_rows
rows_append ps qs = join-append point_words ps qs

rows_none : point_rows [] ≡ []
unfolding point_rows
rows_none = refl

taken-length : (n : ℕ) (ps : List LedgerPoint) → length (point_rows (take n ps)) ≡ ledger_width * min n (length ps)
taken-length n ps = rows-length (take n ps) ∙ ap (λ (k : ℕ). ledger_width * k) (length-take n ps)

-- What a number takes of two lists.
take-both : {A : Type 0} (n : ℕ) (xs ys : List A) → take n (xs ++ ys) ≡ take n xs ++ take (n - length xs) ys
take-both n [] ys = let e : n - 0 ≡ n = omega arith in rw (e, take-nil n)
take-both zero (x ∷ xs) ys = let e : 0 - suc (length xs) ≡ 0 = omega arith in rw e
take-both (suc n) (x ∷ xs) ys =
    let e : suc n - suc (length xs) ≡ n - length xs = omega arith in
    rw e (ap (λ (l : List _). x ∷ l) (take-both n xs ys))

-- A row of one point.
point-fills : (p : LedgerPoint) (before after : List ℕ) → ledger_width ≤ length before → after ≡ point_words p ++ drop ledger_width before → FillsSpan (p ∷ []) 1 before after
unfolding point_rows
point-fills p before after h e =
    let room : 1 ≤ length before / ledger_width = omega arith in
    record { counted = omega arith; cells = rw (take_all (length before / ledger_width) (p ∷ []) room) e }

-- It finds no room.
point-none : (p : LedgerPoint) (before : List ℕ) → length before < ledger_width → FillsSpan (p ∷ []) 0 before before
unfolding point_rows
point-none p before h =
    let none : length before / ledger_width ≡ 0 = omega arith in
    record { counted = omega arith; cells = rw none }

-- Written if there is room.
pub point-put : (p : LedgerPoint) (before after row : List ℕ) (b : Bool) (r : ℕ) → row ≡ point_words p → b ≡ leb ledger_width (length before)
    → after ≡ cond (leb ledger_width (length before)) (row ++ drop ledger_width before) before → r ≡ bool_byte b → FillsSpan (p ∷ []) r before after
point-put p before after row b r w e a k = go (leb ledger_width (length before)) refl a (k ∙ ap bool_byte e)
  where
    go : (x : Bool) → leb ledger_width (length before) ≡ x → after ≡ cond x (row ++ drop ledger_width before) before → r ≡ bool_byte x → FillsSpan (p ∷ []) r before after
    go true t q n = rw n (point-fills p before after (leb-true ledger_width (length before) t) (q ∙ ap (λ (l : List ℕ). l ++ drop ledger_width before) w))
    go false t q n = rw (n, q) (point-none p before (leb-false ledger_width (length before) t))

-- No zero stands before it.
pub year-alone : (tag : CountryTag) (running : ℕ) (p : Point) (r : ℕ) (before after : List ℕ) → p.year ≤ running
    → FillsSpan (point_of tag p.year p.value ∷ []) r before after → FillsSpan (year_filled tag running p) r before after
unfolding zeros
year-alone tag running p r before after h f = let e : p.year - running ≡ 0 = omega arith in rw e f

-- ## Some of all

-- n points are written, those left begin with the next one.
pub record FillingRows (all left : List LedgerPoint) (before : List ℕ) (n : ℕ) (now : List ℕ) : Type 0 where
  pub few : n ≤ length before / ledger_width
  pub filling : Filling (point_rows (take (length before / ledger_width) all)) (point_rows (take (length before / ledger_width - n) left)) before (ledger_width * n) now

pub fills-start : (all left : List LedgerPoint) (before : List ℕ) → left ≡ all → FillingRows all left before 0 before
fills-start all left before q =
    let e : length before / ledger_width - 0 ≡ length before / ledger_width = omega arith in
    record {
      few = omega arith;
      filling = rw (q, e) (filling-new _ before (omega (arith, taken-length (length before / ledger_width) all)));
    }

module _ (all left : List LedgerPoint) (before : List ℕ) (n : ℕ) (now : List ℕ) (f : FillingRows all left before n now) where
  -- More of them are written behind these.
  fills-behind : (ps rest : List LedgerPoint) (r : ℕ) (after : List ℕ) → left ≡ ps ++ rest → r ≡ min (length ps) (length before / ledger_width - n)
      → Behind now (point_rows (take (length before / ledger_width - n) ps)) (ledger_width * n) after → FillingRows all rest before (n + r) after
  fills-behind ps rest r after e q b =
      let h = f.few in
      let k : length before / ledger_width - n - length ps ≡ length before / ledger_width - (n + r) = omega arith in
      let split : point_rows (take (length before / ledger_width - n) left) ≡ point_rows (take (length before / ledger_width - n) ps) ++ point_rows (take (length before / ledger_width - (n + r)) rest) =
      ap (λ (l : List LedgerPoint). point_rows (take (length before / ledger_width - n) l)) e
      ∙ ap point_rows (take-both (length before / ledger_width - n) ps rest)
      ∙ rows_append (take (length before / ledger_width - n) ps) (take (length before / ledger_width - n - length ps) rest)
      ∙ ap (λ (m : ℕ). point_rows (take (length before / ledger_width - n) ps) ++ point_rows (take m rest)) k in
      let at : ledger_width * n + length (point_rows (take (length before / ledger_width - n) ps)) ≡ ledger_width * (n + r) = omega (arith, taken-length (length before / ledger_width - n) ps) in
      record {
        few = omega arith;
        filling =
            subst (λ (m : ℕ). Filling (point_rows (take (length before / ledger_width) all)) (point_rows (take (length before / ledger_width - (n + r)) rest)) before m after) at
            (filling-behind _ _ _ _ _ f.filling (point_rows (take (length before / ledger_width - n) ps)) (point_rows (take (length before / ledger_width - (n + r)) rest)) after split b);
      }

  -- They were written into the tail that was lent.
  pub fills-more : (ps rest : List LedgerPoint) (r : ℕ) (ys : List ℕ) → left ≡ ps ++ rest
      → FillsSpan ps r (take (length now - ledger_width * n) (drop (ledger_width * n) now)) ys
      → FillingRows all rest before (n + r) (take (ledger_width * n) now ++ (ys ++ drop (length now - ledger_width * n) (drop (ledger_width * n) now)))
  fills-more ps rest r ys e g =
      let h = f.few in
      let l = f.filling.long in
      let tail : List ℕ = take (length now - ledger_width * n) (drop (ledger_width * n) now) in
      let long : length tail ≡ length before - ledger_width * n = length-take (length now - ledger_width * n) (drop (ledger_width * n) now) ∙ omega (arith, length-drop (ledger_width * n) now) in
      let left-room : length tail / ledger_width ≡ length before / ledger_width - n = omega arith in
      let row : List ℕ = point_rows (take (length before / ledger_width - n) ps) in
      let fits : ledger_width * n + length row ≤ length now = omega (arith, taken-length (length before / ledger_width - n) ps) in
      fills-behind ps rest r _ e
      (g.counted ∙ ap (min (length ps)) left-room)
      (behind now row ys (ledger_width * n) fits (g.cells ∙ ap (λ (m : ℕ). point_rows (take m ps) ++ drop (length (point_rows (take m ps))) tail) left-room))

  -- None is left, or no room.
  pub fills-done : take (length before / ledger_width - n) left ≡ [] → FillsSpan all n before now
  fills-done e =
      let none : point_rows (take (length before / ledger_width - n) left) ≡ [] = ap point_rows e ∙ rows_none in
      record {
        counted = omega (arith, filling-count _ _ _ _ _ f.filling none, taken-length (length before / ledger_width) all);
        cells = filling-written _ _ _ _ _ f.filling none;
      }

pub fills-all : (all : List LedgerPoint) (before : List ℕ) (n : ℕ) (now : List ℕ) → FillingRows all [] before n now → FillsSpan all n before now
fills-all all before n now f = fills-done all [] before n now f (take-nil (length before / ledger_width - n))

-- ## Two behind each other

-- The first of them were written into the whole slice.
fills_first : (all ps left : List LedgerPoint) (before : List ℕ) (n : ℕ) (now : List ℕ) → all ≡ ps ++ left → FillsSpan ps n before now
    → FillingRows all left before n now
fills_first all ps left before n now e g =
    let z : length before / ledger_width - 0 ≡ length before / ledger_width = omega arith in
    let row : List ℕ = point_rows (take (length before / ledger_width) ps) in
    let fits : 0 + length row ≤ length before = omega (arith, taken-length (length before / ledger_width) ps) in
    rw (zero-add n)
    at (fills-behind all all before 0 before (fills-start all all before refl) ps left n now e (rw z g.counted)
    (rw z (row-behind before row now 0 fits (rw (zero-add (length row)) g.cells))))

module _ (ps qs : List LedgerPoint) (before : List ℕ) (n : ℕ) (now : List ℕ) (g : FillsSpan ps n before now) where
  pub fills-then : (r : ℕ) (ys : List ℕ) → FillsSpan qs r (take (length now - ledger_width * n) (drop (ledger_width * n) now)) ys
      → FillsSpan (ps ++ qs) (n + r) before (take (ledger_width * n) now ++ (ys ++ drop (length now - ledger_width * n) (drop (ledger_width * n) now)))
  fills-then r ys h =
      let first = fills_first (ps ++ qs) ps qs before n now refl g in
      fills-all (ps ++ qs) before (n + r) _ (fills-more (ps ++ qs) qs before n now first qs [] r ys (sym (append-nil qs)) h)

-- ## Zeros

module _ (tag : CountryTag) (running until : ℕ) (before : List ℕ) (i : ℕ) (now : List ℕ)
    (f : FillingRows (zeros tag running until) (zeros tag (running + i) until) before i now) where
  -- A zero more, for which there is room.
  pub zeros-next : (n : ℕ) → n ≡ min (until - running) (length before / ledger_width) → i < n
      → (r : ℕ) (ys : List ℕ) → FillsSpan (point_of tag (running + i) 0 ∷ []) r (take (length now - ledger_width * i) (drop (ledger_width * i) now)) ys
      → FillingRows (zeros tag running until) (zeros tag (running + (i + 1)) until) before (i + 1) (take (ledger_width * i) now ++ (ys ++ drop (length now - ledger_width * i) (drop (ledger_width * i) now)))
  zeros-next n size h r ys g =
      let tail : List ℕ = take (length now - ledger_width * i) (drop (ledger_width * i) now) in
      let long : length tail ≡ length now - ledger_width * i = length-take (length now - ledger_width * i) (drop (ledger_width * i) now) ∙ omega (arith, length-drop (ledger_width * i) now) in
      let room : 1 ≤ length tail / ledger_width = omega (arith, f.filling.long) in
      let one : r ≡ 1 = omega (arith, g.counted) in
      subst (λ (m : ℕ). FillingRows (zeros tag running until) (zeros tag (running + (i + 1)) until) before (i + m) (take (ledger_width * i) now ++ (ys ++ drop (length now - ledger_width * i) (drop (ledger_width * i) now))))
      one (fills-more _ _ before i now f (point_of tag (running + i) 0 ∷ []) _ r ys (zeros-more tag running until i (omega arith)) g)

pub zeros-fill : (tag : CountryTag) (running until : ℕ) (before : List ℕ) (n i : ℕ) (now : List ℕ)
    → FillingRows (zeros tag running until) (zeros tag (running + i) until) before i now
    → n ≡ min (until - running) (length before / ledger_width) → i ≡ n → FillsSpan (zeros tag running until) n before now
zeros-fill tag running until before n i now f size e =
    subst (λ (m : ℕ). FillsSpan (zeros tag running until) m before now) e (fills-done _ _ _ _ _ f none)
  where
    none : take (length before / ledger_width - i) (zeros tag (running + i) until) ≡ []
    none =
        elim (dec_le until (running + i)) as (λ _. take (length before / ledger_width - i) (zeros tag (running + i) until) ≡ []) [
          | yes p ↦ rw (zeros-end tag running until i p, take-nil (length before / ledger_width - i))
          | no p ↦ let full : length before / ledger_width - i ≡ 0 = omega arith in rw full
        ]

-- ## A span, point by point

-- What the points read so far give is written, as far as it found room; the year that runs behind them is `running`.
pub record Writing (tag : CountryTag) (last from : ℕ) (before : List ℕ) (read : List Point) (running n : ℕ) (now : List ℕ) : Type 0 where
  pub rows : (rest : List Point) → FillingRows (filled_to tag last from (read ++ rest)) (filled_to tag last running rest) before n now

pub writing-start : (tag : CountryTag) (last from : ℕ) (before : List ℕ) → Writing tag last from before [] from 0 before
writing-start tag last from before = record { rows = λ rest. fills-start _ _ before refl }

module _ {tag : CountryTag} {last from : ℕ} {before : List ℕ} {read : List Point} {running n : ℕ} {now : List ℕ} (w : Writing tag last from before read running n now) where
  -- What is written lies inside the slice.
  pub writing-inside : (ledger_width * n ≤ length now) × (length now ≡ length before)
  writing-inside = let f = w.rows [] in (omega (arith, f.few, f.filling.long), f.filling.long)

  pub writing-next : (p : Point) (r : ℕ) (ys : List ℕ) → FillsSpan (year_filled tag running p) r (take (length now - ledger_width * n) (drop (ledger_width * n) now)) ys
      → Writing tag last from before (read ++ (p ∷ [])) (p.year + 1) (n + r) (take (ledger_width * n) now ++ (ys ++ drop (length now - ledger_width * n) (drop (ledger_width * n) now)))
  writing-next p r ys g =
      record {
        rows =
            λ rest. rw (append_assoc read (p ∷ []) rest)
            (fills-more _ _ before n now (w.rows (p ∷ rest)) (year_filled tag running p) (filled_to tag last (p.year + 1) rest) r ys refl g);
      }

  -- All are read: the zeros up to the last year and in it are the last.
  pub writing-done : (until : ℕ) → until ≡ last + 1 → (r : ℕ) (ys : List ℕ) → FillsSpan (zeros tag running until) r (take (length now - ledger_width * n) (drop (ledger_width * n) now)) ys
      → FillsSpan (filled_to tag last from read) (n + r) before (take (ledger_width * n) now ++ (ys ++ drop (length now - ledger_width * n) (drop (ledger_width * n) now)))
  writing-done until e r ys g =
      let all : filled_to tag last running [] ≡ zeros tag running until ++ [] = ap (zeros tag running) (sym e) ∙ sym (append-nil (zeros tag running until)) in
      rw (append-nil read) at (fills-all _ before (n + r) _ (fills-more _ _ before n now (w.rows []) (zeros tag running until) [] r ys all g))

pub span-written : (s : Span) (ps read : List Point) (last from r : ℕ) (before after : List ℕ) → last ≡ year s.end → from ≡ year s.start + 1 → read ≡ within s ps
    → FillsSpan (filled_to s.tag last from read) r before after → FillsSpan (filled s (year s.start + 1) (within s ps)) r before after
span-written s ps read last from r before after e f q h =
    subst (λ (l : List LedgerPoint). FillsSpan l r before after) (rw (e, f, q) (sym (filled-to s (year s.start + 1) (within s ps)))) h
