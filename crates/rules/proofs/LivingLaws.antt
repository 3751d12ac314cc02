-- The living equation of one country over moves that are in date order. The invariant: the number that the country stands at is the
-- number of slots that it holds.
use mathlib.Core.Path.{◌≡◌, refl, sym, ap, ◌∙◌}
use mathlib.Core.Bool.{Bool, true, false, cond, ◌&&◌, and-true, and-false}
use mathlib.Core.List.{List, [], ◌∷◌, ◌++◌, map}
use mathlib.Core.Option.{Option, none, some}
use Prim.Native.Nat.{ℕ, zero, suc, ◌+◌, ◌-◌, ◌≤◌, ◌<◌}
use native.Mathlib.Omega.{arith}
use borrow.Author.Tests.{leb-true, leb-false, eqb-true, eqb-false, lt-ltb, le-ltb, le-leb, lt-leb, ne_eqb}
use lib.Dec.{eqb}
use lib.ListN.{length, get_or, set, length-set}
use lib.Seq.{get_or-set_same, get_or-set_other}
use Rattle.lists.specs.Lists.{All, keep, count_of, one, last_or}
use Rattle.lists.proofs.BoolLaws.{cases}
use Rattle.lists.proofs.ListLaws.{all_map, keep-none, InOrder, count-append, count_set, count-pos, sgn}
use Rattle.format.specs.declared.tag.CountryTag.{CountryTag}
use Rattle.format.specs.declared.date.Eu4Date.{Eu4Date}
use Rattle.format.specs.declared.rows.ProvinceId.{ProvinceId}
use Rattle.format.specs.Tags.{same_tag}
use Rattle.format.specs.Dates.{earlier, not_after}
use Rattle.format.specs.declared.values.Entry.{Entry}
use Rattle.format.specs.declared.values.EntryKind.TheVariants.{Appeared, Annexed}
use Rattle.rules.specs.Chronicle.{is_appeared, is_annexed}
use Rattle.format.specs.Rows.{same_id}
use Rattle.rules.specs.Nations.{matches, Move, turns_from, turn_entries, turn_count, lives_from}
use Rattle.rules.specs.Guarantee.{counted}
pub use Rattle.rules.specs.Readings.{after_moves}

-- ## Holders after moves

-- The moves dated up to a day.
abbrev pub due : Eu4Date → List Move → List Move
due day ms = keep (λ m. not_after m.date day) ms

none-due : (day : Eu4Date) (ms : List Move) → All (λ m. day.0 < m.date.0) ms → due day ms ≡ []
none-due day ms q = keep-none (λ m. not_after m.date day) ms (all_map (λ m h. lt-leb m.date.0 day.0 h) ms q)

pub length-after : (ms : List Move) (holders : List (Option CountryTag)) → length (after_moves ms holders) ≡ length holders
length-after [] holders = refl
length-after (m ∷ ms) holders =
    length-after ms (set holders m.slot.0 (some m.holder)) ∙ length-set holders m.slot.0 (some m.holder)

-- The holder that the last of some moves on a slot gives, else the given one.
abbrev pub last_on : ProvinceId → List Move → Option CountryTag → Option CountryTag
last_on slot ms h = last_or h (map (λ m. some m.holder) (keep (λ m. same_id m.slot slot) ms))

pub at_after : (ms : List Move) (holders : List (Option CountryTag)) (slot : ProvinceId) → slot.0 < length holders
    → get_or (after_moves ms holders) slot.0 none ≡ last_on slot ms (get_or holders slot.0 none)
at_after [] holders slot l = refl
at_after (m ∷ ms) holders slot l =
    let holders' : List (Option CountryTag) = set holders m.slot.0 (some m.holder) in
    let l' : slot.0 < length holders' = simp length-set l in
    cases (same_id m.slot slot)
    (λ h. let e : m.slot.0 ≡ slot.0 = eqb-true m.slot.0 slot.0 h in
    simp h
    (at_after ms holders' slot l'
    ∙ ap (λ (o : Option CountryTag). last_on slot ms o) (rw e (get_or-set_same holders slot.0 (some m.holder) none l))))
    (λ h. simp h
    (at_after ms holders' slot l'
    ∙ ap (λ (o : Option CountryTag). last_on slot ms o)
    (get_or-set_other holders m.slot.0 slot.0 (some m.holder) none (λ e. eqb-false m.slot.0 slot.0 h (sym e)))))

-- ## One turn

sgn-pos : (n : ℕ) → 0 < n → sgn n ≡ 1
sgn-pos zero h = absurd (omega arith)
sgn-pos (suc n) h = refl

sgn-zero : (n : ℕ) → sgn n + one (eqb n 0) ≡ 1
sgn-zero zero = refl
sgn-zero (suc n) = simp (ne_eqb (suc n) 0 (λ e. omega arith))

-- The entry is dated after the start and up to the day.
abbrev pub in_days : Eu4Date → Eu4Date → Eu4Date → Bool
in_days start day d = earlier start d && not_after d day

module _ (start day d : Eu4Date) (loses gains : Bool) (n : ℕ) where
  turn-appeared : counted is_appeared start day (turn_entries start d loses gains n)
      ≡ one (gains && eqb (cond loses (n - 1) n) 0 && earlier start d && in_days start day d)
  unfolding turn_entries
  turn-appeared = go (loses && eqb (n - 1) 0) (gains && eqb (cond loses (n - 1) n) 0 && earlier start d)
    where
      go : (a b : Bool)
          → counted is_appeared start day (cond a (record { date = d; kind = Annexed } ∷ []) [] ++ cond b (record { date = d; kind = Appeared } ∷ []) [])
          ≡ one (b && in_days start day d)
      go true true = cases (in_days start day d) (λ h. simp h) (λ h. simp h)
      go true false = refl
      go false true = cases (in_days start day d) (λ h. simp h) (λ h. simp h)
      go false false = refl

  turn-annexed : counted is_annexed start day (turn_entries start d loses gains n) ≡ one (loses && eqb (n - 1) 0 && in_days start day d)
  unfolding turn_entries
  turn-annexed = go (loses && eqb (n - 1) 0) (gains && eqb (cond loses (n - 1) n) 0 && earlier start d)
    where
      go : (a b : Bool)
          → counted is_annexed start day (cond a (record { date = d; kind = Annexed } ∷ []) [] ++ cond b (record { date = d; kind = Appeared } ∷ []) [])
          ≡ one (a && in_days start day d)
      go true true = cases (in_days start day d) (λ h. simp h) (λ h. simp h)
      go true false = cases (in_days start day d) (λ h. simp h) (λ h. simp h)
      go false true = refl
      go false false = refl

-- Neither kind is counted.
pub record Uncounted (start day : Eu4Date) (es : List Entry) : Type 0 where
  pub no_appeared : counted is_appeared start day es ≡ 0
  pub no_annexed : counted is_annexed start day es ≡ 0

turn-out : (start day d : Eu4Date) (loses gains : Bool) (n : ℕ) → in_days start day d ≡ false
    → Uncounted start day (turn_entries start d loses gains n)
turn-out start day d loses gains n h =
    record {
      no_appeared = turn-appeared start day d loses gains n ∙ simp (h, and-false);
      no_annexed = turn-annexed start day d loses gains n ∙ simp (h, and-false);
    }

-- One turn inside the days, with n slots before it and n' after it.
module _ (start day d : Eu4Date) (n n' : ℕ) (late : start.0 < d.0) (met : d.0 ≤ day.0) where
  turn_in : (loses gains : Bool) → n' + one loses ≡ n + one gains → (loses ≡ true → 0 < n)
      → sgn n + one (gains && eqb (cond loses (n - 1) n) 0 && earlier start d && in_days start day d)
      ≡ sgn n' + one (loses && eqb (n - 1) 0 && in_days start day d)
  turn_in true true e f =
      let h : n ≡ n' = omega arith in
      simp (lt-ltb start.0 d.0 late, le-leb d.0 day.0 met, and-true, h)
  turn_in true false e f =
      let h : n - 1 ≡ n' = omega arith in
      let g : 0 < n = f refl in
      simp (lt-ltb start.0 d.0 late, le-leb d.0 day.0 met, and-true, h) (omega (arith, sgn-pos n g, sgn-zero n'))
  turn_in false true e f =
      let g : 0 < n' = omega arith in
      simp (lt-ltb start.0 d.0 late, le-leb d.0 day.0 met, and-true) (omega (arith, sgn-pos n' g, sgn-zero n))
  turn_in false false e f = let h : n ≡ n' = omega arith in simp h

pub turn-count : (loses gains : Bool) (n n' : ℕ) → n' + one loses ≡ n + one gains → (loses ≡ true → 0 < n) → turn_count loses gains n ≡ n'
unfolding turn_count
turn-count true true n n' e f = let g : 0 < n = f refl in omega arith
turn-count true false n n' e f = let g : 0 < n = f refl in omega arith
turn-count false true n n' e f = omega arith
turn-count false false n n' e f = omega arith

-- ## All turns

-- The Annexed and Appeared that moves give the country t, which stands at n slots.
abbrev pub lives_by : Eu4Date → CountryTag → List Move → List (Option CountryTag) → ℕ → List Entry
lives_by start t ms holders n = lives_from start t (turns_from holders ms) n

-- Nothing is counted of moves later than the day.
none-late : (start day : Eu4Date) (t : CountryTag) (ms : List Move) (holders : List (Option CountryTag)) (n : ℕ) → All (λ m. day.0 < m.date.0) ms
    → Uncounted start day (lives_by start t ms holders n)
unfolding lives_from turns_from
none-late start day t [] holders n q = record { no_appeared = refl; no_annexed = refl }
none-late start day t (m ∷ ms) holders n q =
    let loses : Bool = matches t (get_or holders m.slot.0 none) in
    let gains : Bool = same_tag m.holder t in
    let out = turn-out start day m.date loses gains n (simp (lt-leb m.date.0 day.0 q.0, and-false)) in
    let holders' : List (Option CountryTag) = set holders m.slot.0 (some m.holder) in
    let ih = none-late start day t ms holders' (turn_count loses gains n) q.1 in
    let here : List Entry = turn_entries start m.date loses gains n in
    record {
      no_appeared =
          count-append (λ e. is_appeared e.kind && in_days start day e.date) here _
          ∙ simp (out.no_appeared, ih.no_appeared);
      no_annexed =
          count-append (λ e. is_annexed e.kind && in_days start day e.date) here _
          ∙ simp (out.no_annexed, ih.no_annexed);
    }

module _ (start day : Eu4Date) (t : CountryTag) (after : start.0 ≤ day.0) where
  -- On the start day and on the day, by one induction on the moves: a move up to the start is counted by neither side, one up to the day
  -- by both, a later one by none.
  pub balance : (ms : List Move) (holders : List (Option CountryTag)) (n : ℕ)
      → InOrder (λ m. m.date.0) ms → All (λ m. m.slot.0 < length holders) ms → n ≡ count_of (matches t) holders
      → sgn (count_of (matches t) (after_moves (due start ms) holders)) + counted is_appeared start day (lives_by start t ms holders n)
      ≡ sgn (count_of (matches t) (after_moves (due day ms) holders)) + counted is_annexed start day (lives_by start t ms holders n)
  unfolding lives_from turns_from
  balance [] holders n o q e = refl
  balance (m ∷ ms) holders n o q e =
      let holders' : List (Option CountryTag) = set holders m.slot.0 (some m.holder) in
      let loses : Bool = matches t (get_or holders m.slot.0 none) in
      let gains : Bool = same_tag m.holder t in
      let n' : ℕ = count_of (matches t) holders' in
      let s : n' + one loses ≡ n + one gains = simp e (count_set (matches t) holders m.slot.0 (some m.holder) none q.0) in
      let pos : loses ≡ true → 0 < n = λ h. simp e (count-pos (matches t) holders m.slot.0 none q.0 h) in
      let here : List Entry = turn_entries start m.date loses gains n in
      let rest : List Entry = lives_by start t ms holders' (turn_count loses gains n) in
      let ap1 = count-append (λ e. is_appeared e.kind && in_days start day e.date) here rest in
      let ap2 = count-append (λ e. is_annexed e.kind && in_days start day e.date) here rest in
      let q' : All (λ x. x.slot.0 < length holders') ms = simp length-set q.1 in
      let ih = balance ms holders' (turn_count loses gains n) o.1 q' (turn-count loses gains n n' s pos) in
      cases (not_after m.date start)
      (λ h. let f : m.date.0 ≤ start.0 = leb-true m.date.0 start.0 h in
      let g : not_after m.date day ≡ true = le-leb m.date.0 day.0 (omega arith) in
      let out = turn-out start day m.date loses gains n (simp (le-ltb start.0 m.date.0 f)) in
      simp (h, g) (omega (arith, ap1, ap2, ih)))
      (λ h. let f : start.0 < m.date.0 = leb-false m.date.0 start.0 h in
      let later : All (λ x. start.0 < x.date.0) ms = all_map (λ x g. omega arith) ms o.0 in
      let u = none-due start ms later in
      cases (not_after m.date day)
      (λ h2. let g : m.date.0 ≤ day.0 = leb-true m.date.0 day.0 h2 in
      simp (h, h2, u, ← e)
      (omega (
        arith,
        ap1,
        ap2,
        simp u at ih,
        turn-appeared start day m.date loses gains n,
        turn-annexed start day m.date loses gains n,
        turn_in start day m.date n n' f g loses gains s pos,
      )))
      (λ h2. let g : day.0 < m.date.0 = leb-false m.date.0 day.0 h2 in
      let past : All (λ x. day.0 < x.date.0) ms = all_map {Q = λ x. day.0 < x.date.0} (λ x k. omega arith) ms o.0 in
      let un = none-late start day t (m ∷ ms) holders n (g, past) in
      simp (h, h2, u, none-due day ms past) (omega (arith, un.no_appeared, un.no_annexed))))
