-- Drafts arranged are the histories arranged: their words, their names, and how many they are.
use mathlib.Core.Path.{◌≡◌, refl, sym, ap, ap₂, ◌∙◌}
use mathlib.Core.Bool.{Bool, true, false, cond, ◌&&◌, ◌||◌, not}
use mathlib.Core.List.{List, [], ◌∷◌, ◌++◌, map, append-nil}
use Prim.Native.Nat.{ℕ, suc, ◌+◌, ◌-◌}
use native.Mathlib.Omega.{arith}
use borrow.Author.Tests.{lt-ltb, ltb-false, ne_eqb}
use lib.Dec.{ltb, eqb}
use lib.ListN.{length, take, set, length-append, length-map}
use lib.Seq.{take-length}
use Rattle.lists.specs.Lists.{All, any_of, keep, last_or, but_last, sum_of, join_of}
use Rattle.lists.proofs.BoolLaws.{cases, clash}
use Rattle.lists.proofs.ElementLaws.{keep-map, last-map}
use Rattle.lists.proofs.ListLaws.{join-append, join-none, all_map, map-then}
use Rattle.sorting.proofs.SortLaws.{all-kept}
use Rattle.rules.specs.Histories.{History, has_players, is_released, takes_initial, arranged, names_in}
use Rattle.rules.specs.HistoryRows.{history_row_words, history_rows_from, history_words}
use Rattle.players.specs.CountryDrafts.{history_draft}
use Rattle.players.specs.declared.drafts.Draft.{Draft}
use Rattle.players.specs.Drafts.{is_played, is_leftover}
use Rattle.players.specs.ArrangedDrafts.{last_initial, is_popped, histories_from, names_at, kept_of, draft_words}

module _ (keys : List ℕ) where
  abbrev draft : History → Draft
  draft = history_draft keys

  -- ## Words

  pub finished-rows : (first : ℕ) (hs : List History) → histories_from first (map draft hs) ≡ history_rows_from first hs
  unfolding histories_from history_rows_from
  finished-rows first [] = refl
  finished-rows first (h ∷ hs) = rw (finished-rows (first + length h.names) hs)

  rows_append : (first : ℕ) (hs gs : List History)
      → join_of history_row_words (history_rows_from first (hs ++ gs))
      ≡ join_of history_row_words (history_rows_from first hs) ++ join_of history_row_words (history_rows_from (first + sum_of (λ h. length h.names) hs) gs)
  unfolding history_rows_from
  rows_append first [] gs = let z : first + 0 ≡ first = omega arith in rw z
  rows_append first (h ∷ hs) gs =
      let z : first + length h.names + sum_of (λ g. length g.names) hs ≡ first + (length h.names + sum_of (λ g. length g.names) hs) = omega arith in
      rw (rows_append (first + length h.names) hs gs, z) refl

  -- ## Which leftover vanishes

  or_false : (b : Bool) → (b || false) ≡ b
  or_false true = refl
  or_false false = refl

  take_last : (x : Draft) (xs : List Draft) → take (length (x ∷ xs) - 1) (x ∷ xs) ≡ but_last (x ∷ xs)
  take_last x [] = refl
  take_last x (y ∷ xs) =
      let z : length (x ∷ y ∷ xs) - 1 ≡ suc (length (y ∷ xs) - 1) = omega arith in
      rw z (ap (λ (l : List Draft). x ∷ l) (take_last y xs))

  map-but_last : (h : History) (hs : List History) → map draft (but_last (h ∷ hs)) ≡ but_last (map draft (h ∷ hs))
  map-but_last h [] = refl
  map-but_last h (g ∷ hs) = ap (λ (l : List Draft). draft h ∷ l) (map-but_last g hs)

  -- ## Two lists of histories, arranged

  module _ (ironman : Bool) where
    -- The last leftover vanishes, by the drafts of both lists.
    abbrev pops : List History → List History → Bool
    pops hs ls = ironman && eqb (length (map draft hs)) 1 && ltb 0 (length (map draft ls)) && any_of (λ d. d.released) (map draft hs)

    arranged-plain : (hs ls : List History) → pops hs ls ≡ false → arranged ironman hs ls ≡ hs ++ ls
    unfolding arranged
    arranged-plain [] ls q = refl
    arranged-plain (h ∷ []) [] q = cases (ironman && is_released h) (λ e. simp e) (λ e. simp e)
    arranged-plain (h ∷ []) (l ∷ ls) q =
        let some : ltb 0 (length (map draft (l ∷ ls))) ≡ true = lt-ltb 0 (length (map draft (l ∷ ls))) (omega arith) in
        let r : (ironman && is_released h) ≡ false = go ironman (is_released h) (rw (some, or_false (is_released h)) at q) in
        rw r
      where
        go : (a b : Bool) → (a && true && true && b) ≡ false → (a && b) ≡ false
        go true b e = e
        go false b e = refl
    arranged-plain (h ∷ g ∷ hs) ls q = refl

    -- Where it vanishes, the first list has one, and the second some.
    arranged-popped : {C : Type 0} (hs ls : List History) → pops hs ls ≡ true
        → ((h l : History) (rest : List History) → hs ≡ h ∷ [] → ls ≡ l ∷ rest → arranged ironman hs ls ≡ takes_initial h (last_or l rest) ∷ but_last (l ∷ rest) → C) → C
    unfolding arranged
    arranged-popped [] ls q f = clash _ q (go ironman)
      where
        go : (a : Bool) → (a && false && ltb 0 (length (map draft ls)) && false) ≡ false
        go true = refl
        go false = refl
    arranged-popped (h ∷ []) [] q f = clash _ q (go ironman)
      where
        go : (a : Bool) → (a && true && false && (is_released h || false)) ≡ false
        go true = refl
        go false = refl
    arranged-popped (h ∷ []) (l ∷ rest) q f =
        let some : ltb 0 (length (map draft (l ∷ rest))) ≡ true = lt-ltb 0 (length (map draft (l ∷ rest))) (omega arith) in
        let r : (ironman && is_released h) ≡ true = go ironman (is_released h) (rw (some, or_false (is_released h)) at q) in
        f h l rest refl refl (rw r refl)
      where
        go : (a b : Bool) → (a && true && true && b) ≡ true → (a && b) ≡ true
        go true b e = e
        go false b e = e
    arranged-popped (h ∷ g ∷ hs) ls q f = clash _ q (go ironman (ltb 0 (length (map draft ls))) (any_of (λ d. d.released) (map draft (h ∷ g ∷ hs))))
      where
        two : eqb (length (map draft (h ∷ g ∷ hs))) 1 ≡ false
        two = ne_eqb (length (map draft (h ∷ g ∷ hs))) 1 (λ e. omega arith)

        go : (a b c : Bool) → (a && eqb (length (map draft (h ∷ g ∷ hs))) 1 && b && c) ≡ false
        go true b c = rw two refl
        go false b c = refl

    -- ## Their words

    abbrev front_words : List History → List ℕ
    front_words hs = join_of history_row_words (histories_from 0 (map draft hs))

    abbrev back_words : ℕ → ℕ → List History → List ℕ
    back_words total kept ls = join_of history_row_words (histories_from total (take kept (map draft ls)))

    words-plain : (hs ls : List History) (total : ℕ) → pops hs ls ≡ false → total ≡ sum_of (λ h. length h.names) hs
        → history_words (arranged ironman hs ls) ≡ front_words hs ++ back_words total (length (map draft ls)) ls
    unfolding history_words
    words-plain hs ls total q t =
        let z : 0 + sum_of (λ h. length h.names) hs ≡ total = omega (arith, t) in
        ap history_words (arranged-plain hs ls q)
        ∙ rows_append 0 hs ls
        ∙ rw (z, take-length (map draft ls), finished-rows 0 hs, finished-rows total ls) refl

    words-popped : (h l : History) (rest : List History) (total : ℕ) → total ≡ sum_of (λ g. length g.names) (h ∷ [])
        → history_words (takes_initial h (last_or l rest) ∷ but_last (l ∷ rest))
        ≡ set (front_words (h ∷ []) ++ back_words total (length (map draft (l ∷ rest)) - 1) (l ∷ rest)) 0 (last_initial (map draft (l ∷ rest))).0
    unfolding history_words history_rows_from histories_from
    words-popped h l rest total t =
        let e2 : take (length (map draft (l ∷ rest)) - 1) (map draft (l ∷ rest)) ≡ map draft (but_last (l ∷ rest)) = take_last (draft l) (map draft rest) ∙ sym (map-but_last l rest) in
        let e3 : total ≡ 0 + length h.names = omega (arith, t) in
        let e4 : last_or l.initial (map (λ (d : Draft). d.initial) (map draft rest)) ≡ (last_or l rest).initial =
        ap (last_or l.initial) (map-then draft (λ (d : Draft). d.initial) rest) ∙ sym (last-map (λ (g : History). g.initial) l rest) in
        rw (e2, e3, e4, finished-rows (0 + length h.names) (but_last (l ∷ rest))) refl

    -- By either way.
    words-arranged : (hs ls : List History) (total : ℕ) → total ≡ sum_of (λ h. length h.names) hs
        → history_words (arranged ironman hs ls)
        ≡ cond (pops hs ls)
        (set (front_words hs ++ back_words total (length (map draft ls) - 1) ls) 0 (last_initial (map draft ls)).0)
        (front_words hs ++ back_words total (length (map draft ls)) ls)
    words-arranged hs ls total t =
        cases (pops hs ls)
        (λ q. rw q (arranged-popped hs ls q (λ h l rest e f g. ap history_words g ∙ rw (e, f) (words-popped h l rest total (t ∙ ap (sum_of (λ (x : History). length x.names)) e)))))
        (λ q. rw q (words-plain hs ls total q t))

    -- ## Their names, and how many they are

    all-but_last : (P : History → Type 0) (h : History) (hs : List History) → All P (h ∷ hs) → All P (but_last (h ∷ hs))
    all-but_last P h [] a = tt
    all-but_last P h (g ∷ hs) a = (a.0, all-but_last P g hs a.1)

    names-arranged : (hs ls : List History) → All (λ h. h.names ≡ []) ls → names_in (arranged ironman hs ls) ≡ join_of (λ h. h.names) hs
    unfolding names_in
    names-arranged hs ls bare =
        cases (pops hs ls)
        (λ q. arranged-popped hs ls q
        (λ h l rest e f g.
        ap names_in g
        ∙ ap (λ (ns : List ℕ). h.names ++ ns) (join-none (λ x. x.names) (but_last (l ∷ rest)) (all-but_last (λ x. x.names ≡ []) l rest (rw f at bare)))
        ∙ sym (ap (join_of (λ (x : History). x.names)) e)))
        (λ q.
        ap names_in (arranged-plain hs ls q)
        ∙ join-append (λ x. x.names) hs ls
        ∙ ap (λ (ns : List ℕ). join_of (λ (x : History). x.names) hs ++ ns) (join-none (λ x. x.names) ls bare)
        ∙ append-nil (join_of (λ x. x.names) hs))

    length-but_last : (h : History) (hs : List History) → length (but_last (h ∷ hs)) ≡ length hs
    length-but_last h [] = refl
    length-but_last h (g ∷ hs) = ap suc (length-but_last g hs)

    length-arranged : (hs ls : List History)
        → length (arranged ironman hs ls) ≡ length (map draft hs) + cond (pops hs ls) (length (map draft ls) - 1) (length (map draft ls))
    length-arranged hs ls =
        cases (pops hs ls)
        (λ q. rw q (arranged-popped hs ls q
        (λ h l rest e f g. omega (arith, ap length g, length-but_last l rest, ap length e, ap length f, length-map hs draft, length-map ls draft))))
        (λ q. rw q (omega (arith, ap length (arranged-plain hs ls q), length-append hs ls, length-map hs draft, length-map ls draft)))

  -- ## All histories

  named-drafts : (hs : List History) → keep is_played (map draft hs) ≡ map draft (keep has_players hs)
  named-drafts hs = keep-map is_played draft hs

  idle-drafts : (hs : List History) → keep is_leftover (map draft hs) ≡ map draft (keep (λ h. not (has_players h)) hs)
  idle-drafts hs = keep-map is_leftover draft hs

  no_names : (ns : List ℕ) → not (ltb 0 (length ns)) ≡ true → ns ≡ []
  no_names [] e = refl
  no_names (n ∷ ns) e = clash _ e (rw (lt-ltb 0 (length (n ∷ ns)) (omega arith)) refl)

  leftovers-bare : (hs : List History) → All (λ h. h.names ≡ []) (keep (λ h. not (has_players h)) hs)
  leftovers-bare hs = all_map (λ h e. no_names h.names e) (keep (λ h. not (has_players h)) hs) (all-kept (λ h. not (has_players h)) hs)

  total-named : (hs : List History) → sum_of (λ d. d.count) (map draft hs) ≡ sum_of (λ h. length h.names) (keep has_players hs)
  total-named [] = refl
  total-named (h ∷ hs) =
      cases (has_players h)
      (λ e. simp e (ap (λ (n : ℕ). length h.names + n) (total-named hs)))
      (λ e. simp e (omega (arith, ltb-false 0 (length h.names) e, total-named hs)))

  names-named : (hs : List History) → join_of (λ h. h.names) (keep has_players hs) ≡ join_of (λ h. h.names) hs
  names-named [] = refl
  names-named (h ∷ hs) =
      cases (has_players h)
      (λ e. simp e (ap (λ (ns : List ℕ). h.names ++ ns) (names-named hs)))
      (λ e. let bare = no_names h.names (ap not e) in simp e (names-named hs ∙ sym (ap (λ (ns : List ℕ). ns ++ join_of (λ (g : History). g.names) hs) bare)))

  join-drafts : (hs : List History) → All (λ h. names_at keys (draft h) ≡ h.names) hs → join_of (names_at keys) (map draft hs) ≡ join_of (λ h. h.names) hs
  join-drafts [] a = refl
  join-drafts (h ∷ hs) a = ap₂ ◌++◌ a.0 (join-drafts hs a.1)

  module _ (ironman : Bool) (hs : List History) (a : All (λ h. names_at keys (draft h) ≡ h.names) hs) where
    abbrev whole : List History
    whole = arranged ironman (keep has_players hs) (keep (λ h. not (has_players h)) hs)

    abbrev is_out : Bool
    is_out = is_popped ironman (map draft hs)

    pub words_same : draft_words is_out (map draft hs) ≡ history_words whole
    words_same =
        sym
        (words-arranged ironman (keep has_players hs) (keep (λ h. not (has_players h)) hs) (sum_of (λ d. d.count) (map draft hs)) (total-named hs)
        ∙ rw (named-drafts hs, idle-drafts hs) refl)

    pub names_same : join_of (names_at keys) (map draft hs) ≡ names_in whole
    names_same =
        join-drafts hs a
        ∙ sym (names-named hs)
        ∙ sym (names-arranged ironman (keep has_players hs) (keep (λ h. not (has_players h)) hs) (leftovers-bare hs))

    pub count_same : length (keep is_played (map draft hs)) + kept_of is_out (map draft hs) ≡ length whole
    count_same =
        sym (length-arranged ironman (keep has_players hs) (keep (λ h. not (has_players h)) hs) ∙ rw (named-drafts hs, idle-drafts hs) refl)
