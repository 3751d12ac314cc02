-- Drafts arranged: the words of all histories, and the outcome by case.
use mathlib.Core.Path.{◌≡◌, refl, sym, ap, subst, ◌∙◌}
use mathlib.Core.Bool.{Bool, true, false, ◌&&◌, ◌||◌, not}
use mathlib.Core.List.{List, [], ◌∷◌, ◌++◌, map, append-nil}
use Prim.Native.Nat.{ℕ, zero, suc, ◌+◌, ◌-◌, ◌*◌, ◌<◌, ◌≤◌}
use native.Mathlib.Omega.{arith}
use borrow.Author.Tests.{lt-ltb, le-ltb, leb-true, leb-false, ltb-false, eqb-true, not-true, not-false}
use lib.Dec.{leb, ltb, eqb}
use lib.ListN.{length, take, drop, set, length-append, length-take, length-set, length-map}
use Rattle.std.specs.Prelude as code
use Rattle.std.specs.Prelude.{None, is_some, IfSome}
use Rattle.std.specs.Int.{from_bool}
use Rattle.std.specs.List.{last_or as code-last}
use Rattle.std.specs.List.{list_any}
use Rattle.lists.specs.Lists.{any_of, keep, last_or, sum_of, join_of}
use Rattle.lists.proofs.BoolLaws.{cases, and_left, and_right, neither}
use Rattle.lists.proofs.ListLaws.{all_map}
use Rattle.lists.proofs.FillLaws.{Filling, filling-new, filling-more, filling-behind, filling-written}
use Rattle.lists.proofs.WriteLaws.{behind}
use Rattle.rules.specs.Lent.{refused, gives, written}
use Rattle.rules.specs.PlayerOutcomes.{HistoryCells, both_fit, both_written}
use Rattle.format.specs.declared.values.HistoryRow.{HistoryRow}
use Rattle.rules.specs.HistoryRows.{history_row_words, history_width}
use Rattle.rules.proofs.LentLaws.{outcome-refused, outcome-gives}
use Rattle.format.specs.declared.tag.CountryTag.{CountryTag}
use Rattle.lists.proofs.CodeLaws.{some_same}
use Rattle.players.specs.declared.drafts.Draft.{Draft}
use Rattle.players.proofs.PutLaws.{length-rows}
use Rattle.players.specs.ArrangedDrafts.{last_initial, is_popped, histories_from, names_at, kept_words, kept_of, draft_words, Vanishes, HistoriesReady, ArrangeReady, drafted_cells, drafted_counts, drafted_outcome}
use Rattle.players.specs.Drafts.{is_played, is_leftover}
use Rattle.lists.proofs.CodeLaws.{last-some}
use Rattle.players.proofs.ArrangeStepLaws.{length-finished, length-all-names, sum-few}

-- ## Two parts, one behind the other

both-parts : (a b before first ys : List ℕ) (k : ℕ) → k ≡ length a → length a + length b ≤ length before → first ≡ written a before
    → ys ≡ written b (take (length first - k) (drop k first))
    → take k first ++ (ys ++ drop (length first - k) (drop k first)) ≡ written (a ++ b) before
both-parts a b before first ys k e room f w =
    let start = filling-new (a ++ b) before (omega (arith, length-append a b)) in
    let z : length a ≡ 0 + length a = omega arith in
    let half = filling-more _ _ _ _ _ start a b first refl (f ∙ ap (λ (n : ℕ). a ++ drop n before) z) in
    let one : Filling (a ++ b) b before k first = subst (λ (m : ℕ). Filling (a ++ b) b before m first) (omega arith) half in
    let inside : k + length b ≤ length first = omega (arith, one.long) in
    let two = filling-behind _ _ _ _ _ one b [] _ (sym (append-nil b)) (behind first b ys k inside w) in
    filling-written _ _ _ _ _ two refl

set-written : (cells before : List ℕ) (v : ℕ) → 0 < length cells → set (written cells before) 0 v ≡ written (set cells 0 v) before
set-written [] before v h = absurd (omega arith)
set-written (x ∷ cells) before v h = refl

-- ## Names of each kind

pub sum-part : (p : Draft → Bool) (ds : List Draft) → sum_of (λ d. d.count) (keep p ds) ≤ sum_of (λ d. d.count) ds
sum-part p [] = omega arith
sum-part p (d ∷ ds) = cases (p d) (λ h. simp h (omega (arith, sum-part p ds))) (λ h. simp h (omega (arith, sum-part p ds)))

pub sum-idle : (ds : List Draft) → sum_of (λ d. d.count) (keep is_leftover ds) ≡ 0
sum-idle [] = refl
sum-idle (d ∷ ds) =
    cases (ltb 0 d.count)
    (λ h. simp h (sum-idle ds))
    (λ h. simp h (omega (arith, ltb-false 0 d.count h, sum-idle ds)))

pub sum-taken : (n : ℕ) (ds : List Draft) → sum_of (λ d. d.count) (take n ds) ≤ sum_of (λ d. d.count) ds
sum-taken zero ds = omega arith
sum-taken (suc n) [] = omega arith
sum-taken (suc n) (d ∷ ds) = omega (arith, sum-taken n ds)

-- ## The words of all histories

length-kept : (ds : List Draft) (kept : ℕ) → kept ≤ length (keep is_leftover ds)
    → length (kept_words ds kept) ≡ history_width * (length (keep is_played ds) + kept)
length-kept ds kept h =
    let ps : List HistoryRow = histories_from 0 (keep is_played ds) in
    let ls : List Draft = take kept (keep is_leftover ds) in
    let total : ℕ = sum_of (λ d. d.count) ds in
    omega (
      arith,
      length-append (join_of history_row_words ps) (join_of history_row_words (histories_from total ls)),
      length-rows ps,
      length-finished 0 (keep is_played ds),
      length-rows (histories_from total ls),
      length-finished total ls,
      length-take kept (keep is_leftover ds),
    )

pub length-drafted : (popped : Bool) (ds : List Draft) → length (draft_words popped ds) ≡ history_width * (length (keep is_played ds) + kept_of popped ds)
length-drafted true ds = length-set (kept_words ds (kept_of true ds)) 0 _ ∙ length-kept ds (kept_of true ds) (omega arith)
length-drafted false ds = length-kept ds (kept_of false ds) (omega arith)

-- The first pass has written so many words.
abbrev pub Fronted : List Draft → List ℕ → ℕ → List ℕ → Type 0
Fronted ds before at now = (at ≡ history_width * length (keep is_played ds)) × (now ≡ written (join_of history_row_words (histories_from 0 (keep is_played ds))) before)

module _ (ds : List Draft) (popped : Bool) (kept : ℕ) (k : kept ≡ kept_of popped ds) where
  abbrev front : List ℕ
  front = join_of history_row_words (histories_from 0 (keep is_played ds))

  abbrev back : List ℕ
  back = join_of history_row_words (histories_from (sum_of (λ d. d.count) ds) (take kept (keep is_leftover ds)))

  front-wide : length front ≡ history_width * length (keep is_played ds)
  front-wide = omega (arith, length-rows (histories_from 0 (keep is_played ds)), length-finished 0 (keep is_played ds))

  back-wide : length back ≤ history_width * kept
  back-wide =
      let ls : List Draft = take kept (keep is_leftover ds) in
      omega (arith, length-rows (histories_from (sum_of (λ d. d.count) ds) ls), length-finished (sum_of (λ d. d.count) ds) ls, length-take kept (keep is_leftover ds))

  -- Both passes have written.
  pub kept-written : (names at : ℕ) (before first ys : List ℕ) → names ≡ sum_of (λ d. d.count) ds → history_width * (length (keep is_played ds) + kept) ≤ length before
      → Fronted ds before at first
      → ys ≡ written (join_of history_row_words (histories_from names (take kept (keep is_leftover ds)))) (take (length first - at) (drop at first))
      → take at first ++ (ys ++ drop (length first - at) (drop at first)) ≡ written (kept_words ds kept) before
  kept-written names at before first ys q room f w =
      both-parts front back before first ys at (f.0 ∙ sym front-wide) (omega (arith, front-wide, back-wide)) f.1 (rw q at w)

  pub drafted-plain : popped ≡ false → (before out : List ℕ) → out ≡ written (kept_words ds kept) before → out ≡ written (draft_words popped ds) before
  drafted-plain e before out f =
      let q : kept ≡ length (keep is_leftover ds) = k ∙ ap (λ (b : Bool). kept_of b ds) e in
      rw e (f ∙ ap (λ (n : ℕ). written (kept_words ds n) before) q)

  pub drafted-popped : popped ≡ true → 0 < length (keep is_played ds) → (before out : List ℕ) (v : ℕ) → v ≡ (last_initial (keep is_leftover ds)).0
      → out ≡ written (kept_words ds kept) before → set out 0 v ≡ written (draft_words popped ds) before
  drafted-popped e some before out v w f =
      let q : kept ≡ kept_of true ds = k ∙ ap (λ (b : Bool). kept_of b ds) e in
      let long : 0 < length (kept_words ds kept) = omega (arith, length-append front back, front-wide) in
      rw e
      (ap (λ (l : List ℕ). set l 0 v) f
      ∙ set-written (kept_words ds kept) before v long
      ∙ ap (λ (n : ℕ). written (set (kept_words ds n) 0 v) before) q
      ∙ ap (λ (x : ℕ). written (set (kept_words ds (kept_of true ds)) 0 x) before) w)

-- ## The leftover that vanishes

-- The last that came is there if any came, and is the last of all.
last-held : (ts : List CountryTag) → (is_some (code-last None ts) ≡ ltb 0 (length ts)) × IfSome (code-last None ts) (λ t. t ≡ last_or (record { 0 = 0 }) ts)
last-held [] = (refl, tt)
last-held (t ∷ ts) =
    let some : ltb 0 (length (t ∷ ts)) ≡ true = lt-ltb 0 (length (t ∷ ts)) (omega arith) in
    rw (last-some t ts) (sym some, refl)

module _ (ironman : Bool) (ds : List Draft) (played : ℕ) (released : Bool) (p : played ≡ length (keep is_played ds))
    (r : released ≡ list_any (λ d. d.released) (keep is_played ds)) where
  popped-tested : is_popped ironman ds ≡ (ironman && eqb played 1 && released && ltb 0 (length (keep is_leftover ds)))
  popped-tested =
      rw (p, r, some_same (λ (d : Draft). d.released) (keep is_played ds))
      (go (ironman && eqb (length (keep is_played ds)) 1) (ltb 0 (length (keep is_leftover ds))) (any_of (λ d. d.released) (keep is_played ds)))
    where
      go : (a b c : Bool) → (a && b && c) ≡ (a && c && b)
      go false b c = refl
      go true true true = refl
      go true true false = refl
      go true false true = refl
      go true false false = refl

  pub vanishes-none : (ironman && eqb played 1 && released) ≡ false → Vanishes ironman ds None
  vanishes-none h = record { popped = sym (popped-tested ∙ rw h refl); last = tt }

  pub vanishes-last : (ironman && eqb played 1 && released) ≡ true → (ts : List CountryTag) → ts ≡ map (λ d. d.initial) (keep is_leftover ds)
      → (v : code.Option CountryTag) → v ≡ code-last None ts → Vanishes ironman ds v
  vanishes-last h ts m v e =
      let held = last-held (map (λ (d : Draft). d.initial) (keep is_leftover ds)) in
      let many : length (map (λ (d : Draft). d.initial) (keep is_leftover ds)) ≡ length (keep is_leftover ds) = length-map (keep is_leftover ds) (λ d. d.initial) in
      rw (e, m) (record { popped = held.0 ∙ ap (ltb 0) many ∙ sym (popped-tested ∙ rw h refl); last = held.1 })

-- ## The outcome

pub total-few : (keys : List ℕ) (ds : List Draft) → ArrangeReady ds keys → sum_of (λ d. d.count) ds ≤ 2000000
total-few keys ds a =
    let each = all_map {Q = λ d. d.first + d.count ≤ 1000} (λ d h. omega (arith, a.short)) ds a.inside in
    omega (arith, sum-few 1000 ds each, a.few)

popped-some : (ironman : Bool) (ds : List Draft) → is_popped ironman ds ≡ true → 0 < length (keep is_played ds)
popped-some ironman ds h =
    let a = and_left (ironman && eqb (length (keep is_played ds)) 1 && ltb 0 (length (keep is_leftover ds))) _ h in
    let b = and_left (ironman && eqb (length (keep is_played ds)) 1) _ a in
    let one : length (keep is_played ds) ≡ 1 = eqb-true (length (keep is_played ds)) 1 (and_right ironman _ b) in
    omega arith

-- One leftover less stays where one vanishes.
kept-of : (popped : Bool) (ds : List Draft) → length (keep is_leftover ds) - from_bool popped ≡ kept_of popped ds
kept-of true ds = refl
kept-of false ds = omega arith

-- What the code counts before it writes.
pub record Counted (ironman : Bool) (ds : List Draft) (v : code.Option CountryTag) (played kept total : ℕ) : Type 0 where
  pub vanishes : Vanishes ironman ds v
  pub named : played ≡ length (keep is_played ds)
  pub left : kept ≡ kept_of (is_some v) ds
  pub names : total ≡ sum_of (λ d. d.count) ds

module _ (ironman : Bool) (ds : List Draft) (v : code.Option CountryTag) (played leftovers fewer kept total : ℕ) where
  pub counted : Vanishes ironman ds v → played ≡ length (keep is_played ds) → leftovers ≡ length (keep is_leftover ds) → fewer ≡ from_bool (is_some v)
      → kept ≡ leftovers - fewer → total ≡ sum_of (λ d. d.count) ds → Counted ironman ds v played kept total
  counted w p l f k t = record { vanishes = w; named = p; left = k ∙ rw (l, f) (kept-of (is_some v) ds); names = t }

module _ (ironman : Bool) (ds : List Draft) (keys : List ℕ) (ready : ArrangeReady ds keys) (before : HistoryCells)
    (v : code.Option CountryTag) (played kept total : ℕ) (c : Counted ironman ds v played kept total) where
  abbrev popped : Bool
  popped = is_some v

  abbrev n : ℕ
  n = played + kept

  counted-told : n ≡ length (keep is_played ds) + kept_of popped ds
  counted-told = omega (arith, c.named, c.left)

  cells : HistoryCells
  cells = drafted_cells popped ds keys

  rows-wide : length (draft_words popped ds) ≡ history_width * n
  rows-wide = length-drafted popped ds ∙ ap (λ (x : ℕ). history_width * x) (sym counted-told)

  names-wide : length (join_of (names_at keys) ds) ≡ total
  names-wide = length-all-names keys ds ready.inside ∙ sym c.names

  -- The test of the room, as the code makes it.
  room-told : (ltb (length before.rows) (history_width * n) || ltb (length before.names) total) ≡ not (both_fit cells before)
  unfolding cells
  room-told = rw (rows-wide, names-wide) (go (history_width * n) (length before.rows) total (length before.names))
    where
      go : (a b c d : ℕ) → (ltb b a || ltb d c) ≡ not (leb a b && leb c d)
      go a b c d =
          cases (leb a b)
          (λ h. cases (leb c d)
          (λ g. simp (h, g, le-ltb b a (leb-true a b h), le-ltb d c (leb-true c d g)))
          (λ g. simp (h, g, le-ltb b a (leb-true a b h), lt-ltb d c (leb-false c d g))))
          (λ h. simp (h, lt-ltb b a (leb-false a b h)))

  pub histories-ready : (ltb (length before.rows) (history_width * n) || ltb (length before.names) total) ≡ false → HistoriesReady ds v kept total before.rows
  histories-ready h =
      let room = ltb-false (length before.rows) (history_width * n) (neither (ltb (length before.rows) (history_width * n)) (ltb (length before.names) total) h).0 in
      record {
        left = c.left;
        last = c.vanishes.last;
        named = c.names;
        few = omega (arith, total-few keys ds ready, c.names);
        many = ready.few;
        sole = λ e. popped-some ironman ds (sym c.vanishes.popped ∙ e);
        room = omega (arith, room, c.named);
      }

  pub arranged-short : (ltb (length before.rows) (history_width * n) || ltb (length before.names) total) ≡ true
      → record { answer = refused 10; memory = before } ≡ drafted_outcome ironman ds keys before
  unfolding cells
  arranged-short h =
      let short : both_fit cells before ≡ false = not-true (both_fit cells before) (sym room-told ∙ h) in
      sym (rw (← c.vanishes.popped, short) (outcome-refused 10 (drafted_counts popped ds) (both_written cells before) before (omega arith)))

  pub arranged-rows : (ltb (length before.rows) (history_width * n) || ltb (length before.names) total) ≡ false → (rows names : List ℕ)
      → rows ≡ written (draft_words popped ds) before.rows → names ≡ written (join_of (names_at keys) ds) before.names
      → record { answer = gives (record { histories = n; names = total }); memory = record { rows = rows; names = names } } ≡ drafted_outcome ironman ds keys before
  unfolding cells
  arranged-rows h rows names f g =
      let room : both_fit cells before ≡ true = not-false (both_fit cells before) (sym room-told ∙ h) in
      sym (rw (← c.vanishes.popped, room) (rw (counted-told, c.names, f, g) (outcome-gives 0 (drafted_counts popped ds) (both_written cells before) before refl)))
