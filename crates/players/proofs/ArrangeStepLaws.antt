-- Drafts of one kind and names, one by one.
use mathlib.Core.Path.{◌≡◌, refl, sym, ap, subst, ◌∙◌}
use mathlib.Core.List.{List, [], ◌∷◌, ◌++◌, map, append-nil}
use Prim.Native.Nat.{ℕ, zero, suc, ◌+◌, ◌-◌, ◌*◌, ◌<◌, ◌≤◌}
use native.Mathlib.Numerals.{add-one}
use native.Mathlib.Omega.{arith}
use lib.Seq.{drop-cons}
use lib.ListN.{length, take, drop, get_or, length-append, length-take, length-drop, length-map}
use Rattle.lists.specs.Lists.{All, sum_of, join_of}
use Rattle.lists.proofs.FillLaws.{Filling, filling-new, filling-behind, filling-written}
use Rattle.lists.proofs.WriteLaws.{behind}
use Rattle.rules.specs.Lent.{written}
use Rattle.format.specs.declared.values.HistoryRow.{HistoryRow}
use Rattle.rules.specs.HistoryRows.{history_row_words, history_width}
use Rattle.rows.specs.RowAt.{row_put}
use Rattle.players.specs.declared.drafts.Draft.{Draft}
use Rattle.players.proofs.PutLaws.{row_more}
use Rattle.players.proofs.DraftLaws.{Placed}
use Rattle.players.specs.ArrangedDrafts.{history_from, histories_from, name_in, names_at, WriteReady}

-- ## Histories of drafts

pub length-finished : (first : ℕ) (ds : List Draft) → length (histories_from first ds) ≡ length ds
unfolding histories_from
length-finished first [] = refl
length-finished first (d ∷ ds) = ap suc (length-finished (first + d.count) ds)

pub sum-front : (all : List Draft) (n : ℕ) (d : Draft) → n < length all → d ≡ get_or all n d
    → sum_of (λ x. x.count) (take n all) + d.count ≤ sum_of (λ x. x.count) all
sum-front [] n d h e = absurd (omega arith)
sum-front (x ∷ xs) zero d h e = omega (arith, ap (λ (r : Draft). r.count) e)
sum-front (x ∷ xs) (suc n) d h e = omega (arith, sum-front xs n d (omega arith) e)

-- The histories of these drafts stand at the front: so many words, and so many names are before the next.
pub record Wrote (ds : List Draft) (names : ℕ) (before : List ℕ) (first at : ℕ) (now : List ℕ) : Type 0 where
  pub passed : at ≡ history_width * length ds
  pub named : first ≡ names + sum_of (λ d. d.count) ds
  pub cells : Filling (join_of history_row_words (histories_from names ds)) [] before (history_width * length ds) now

pub wrote-none : (names : ℕ) (before : List ℕ) → Wrote [] names before names 0 before
unfolding histories_from
wrote-none names before = record { passed = refl; named = omega arith; cells = filling-new [] before (omega arith) }

rows-behind : (ds : List Draft) (names : ℕ) (d : Draft)
    → join_of history_row_words (histories_from names (ds ++ (d ∷ [])))
    ≡ join_of history_row_words (histories_from names ds) ++ history_row_words (history_from d (names + sum_of (λ x. x.count) ds))
unfolding histories_from
rows-behind [] names d = let z : names + 0 ≡ names = omega arith in rw z refl
rows-behind (x ∷ ds) names d =
    let z : names + x.count + sum_of (λ y. y.count) ds ≡ names + (x.count + sum_of (λ y. y.count) ds) = omega arith in
    rw (rows-behind ds (names + x.count) d, z) refl

sum-behind : (ds : List Draft) (d : Draft) → sum_of (λ x. x.count) (ds ++ (d ∷ [])) ≡ sum_of (λ x. x.count) ds + d.count
sum-behind [] d = omega arith
sum-behind (x ∷ ds) d = omega (arith, sum-behind ds d)

filling-grown : (all row before now : List ℕ) (k : ℕ) → Filling all [] before k now → k + length row ≤ length before → Filling (all ++ row) row before k now
filling-grown all row before now k f h =
    record { front = ap (λ (l : List ℕ). l ++ row) (sym (append-nil (take k now)) ∙ f.front); back = f.back; long = f.long; fits = h }

module _ (all ds : List Draft) (names : ℕ) (before now : List ℕ) (first at : ℕ) (w : Wrote ds names before first at now) (d : Draft)
    (ready : WriteReady all names before) (p : Placed all ds d) where
  pub next_named : first + d.count ≤ 4294967295
  next_named = omega (arith, w.named, ready.few, ap (sum_of (λ (x : Draft). x.count)) p.front, sum-front all (length ds) d p.inside p.here)

  -- One draft further.
  pub next-wrote : (x : HistoryRow) (words ys : List ℕ) → x ≡ history_from d first → words ≡ history_row_words x → ys ≡ row_put history_width words (take (length now - at) (drop at now))
      → Wrote (ds ++ (d ∷ [])) names before (first + d.count) (at + history_width) (take at now ++ (ys ++ drop (length now - at) (drop at now)))
  next-wrote x words ys q told put =
      let passed : List ℕ = join_of history_row_words (histories_from names ds) in
      let row : HistoryRow = history_from d (names + sum_of (λ y. y.count) ds) in
      let grown = filling-grown passed (history_row_words row) before now (history_width * length ds) w.cells (omega (arith, ready.room, p.inside)) in
      let more = row_more _ _ [] before now ys (length ds) row grown (sym (append-nil (history_row_words row))) words (told ∙ ap history_row_words (q ∙ ap (history_from d) w.named)) (rw w.passed at put) in
      let size : length (ds ++ (d ∷ [])) ≡ length ds + 1 = length-append ds (d ∷ []) in
      record {
        passed = omega (arith, w.passed, size);
        named = omega (arith, w.named, sum-behind ds d);
        cells = rw (rows-behind ds names d, size, w.passed) more;
      }

-- All drafts were passed.
pub wrote-all : (ds all : List Draft) (names : ℕ) (before now : List ℕ) (first at : ℕ) → Wrote ds names before first at now → ds ≡ all
    → (at ≡ history_width * length all) × (now ≡ written (join_of history_row_words (histories_from names all)) before)
wrote-all ds all names before now first at w e = rw (← e) (w.passed, filling-written _ _ _ _ _ w.cells refl)

-- ## Names

pub length-names : (keys : List ℕ) (d : Draft) → d.first + d.count ≤ length keys → length (names_at keys d) ≡ d.count
length-names keys d h = simp (length-map, length-take, length-drop) (omega arith)

pub length-all-names : (keys : List ℕ) (ds : List Draft) → All (λ d. d.first + d.count ≤ length keys) ds
    → length (join_of (names_at keys) ds) ≡ sum_of (λ d. d.count) ds
length-all-names keys [] a = refl
length-all-names keys (d ∷ ds) a =
    omega (arith, length-append (names_at keys d) (join_of (names_at keys) ds), length-names keys d a.0, length-all-names keys ds a.1)

pub sum-few : (bound : ℕ) (ds : List Draft) → All (λ d. d.first + d.count ≤ bound) ds → sum_of (λ d. d.count) ds ≤ length ds * bound
sum-few bound [] a = omega arith
sum-few bound (d ∷ ds) a = omega (arith, a.0, sum-few bound ds a.1)

pub drafts_next : (ds : List Draft) (i : ℕ) (d : Draft) → i < length ds → drop i ds ≡ get_or ds i d ∷ drop (i + 1) ds
drafts_next ds i d h = rw (add-one i) (drop-cons ds i d h)

-- One draft further.
module _ (all before now ys keys : List ℕ) (k : ℕ) (left : List Draft) (d : Draft) (rest : List Draft)
    (f : Filling all (join_of (names_at keys) left) before k now) (e : left ≡ d ∷ rest) (inside : d.first + d.count ≤ length keys) where
  names-next : join_of (names_at keys) left ≡ names_at keys d ++ join_of (names_at keys) rest
  names-next = ap (join_of (names_at keys)) e

  pub names-room : k + d.count ≤ length now
  names-room =
      omega (arith, f.fits, f.long, ap length names-next ∙ length-append (names_at keys d) (join_of (names_at keys) rest), length-names keys d inside)

  pub names_more : ys ≡ written (map name_in (take (d.first + d.count - d.first) (drop d.first keys))) (take (length now - k) (drop k now))
      → Filling all (join_of (names_at keys) rest) before (k + d.count) (take k now ++ (ys ++ drop (length now - k) (drop k now)))
  names_more w =
      let z : d.first + d.count - d.first ≡ d.count = omega arith in
      let long = length-names keys d inside in
      let room : k + length (names_at keys d) ≤ length now = omega (arith, names-room, long) in
      subst (λ (m : ℕ). Filling all (join_of (names_at keys) rest) before (k + m) (take k now ++ (ys ++ drop (length now - k) (drop k now)))) long
      (filling-behind all _ before k now f (names_at keys d) _ _ names-next (behind now (names_at keys d) ys k room (rw z at w)))
