-- Definitions that count, search or pass arguments along mean what the rules say in plain words; src/readings.rt promises it.
use mathlib.Core.Path.{◌≡◌, refl, sym, ap, ap₂, ◌∙◌}
use mathlib.Core.Bool.{Bool, true, false, ◌&&◌, not, true≢false}
use mathlib.Core.List.{List, [], ◌∷◌, ◌++◌, append_assoc}
use mathlib.Core.Option.{Option, none, some, none-ne-some, some-injective}
use Prim.Native.Nat.{ℕ, zero, suc, ◌+◌, ◌*◌, ◌-◌, ◌/◌, ◌%◌, ◌≤◌, ◌<◌}
use native.Mathlib.Omega.{arith}
use native.Mathlib.Nat.{div-add-mod}
use borrow.Author.Tests.{ltb-true, ltb-false, leb-true, eqb-true, ne_eqb}
use lib.Dec.{eqb, ltb, leb}
use lib.ListN.{length, take, get_elem?, length-set}
use Rattle.lists.specs.Lists.{All, keep, any_of, count_of, one, first_or}
use Rattle.lists.proofs.BoolLaws.{cases, clash, both, neither}
use Rattle.lists.proofs.ListLaws.{all_append, all-at, keep-none, count_set, count-pos}
use Rattle.format.specs.declared.tag.CountryTag.{CountryTag}
use Rattle.format.specs.declared.date.Eu4Date.{Eu4Date}
use Rattle.format.specs.Dates.{earlier}
use Rattle.format.specs.Campaign.{Country, campaign_of}
use Rattle.format.specs.RecordNumber.{refusal}
use Rattle.format.proofs.SoundLaws.{sound}
use Rattle.format.specs.declared.values.EntryKind.{EntryKind}
use Rattle.format.specs.declared.values.Entry.{Entry}
use Rattle.format.specs.declared.values.EntryKind.TheVariants.{TagSwitch, Appeared, Annexed}
use Rattle.format.specs.declared.values.HistoryRow.{HistoryRow}
use Rattle.rules.specs.Chronicle.{Nation}
use Rattle.rules.specs.Nations.{matches, start_holders, Move, moves_of, turns_from, turns_of, turn_entries, turn_count, lives_from, lives_of}
use Rattle.rules.specs.NationRows.{kind_word, target_word, kind_of, kind_shaped}
use Rattle.rules.specs.Histories.{history_of}
use Rattle.rules.specs.StartingCountry.{lacks_appeared, starting_of, starting_country}
use Rattle.rules.specs.Page.{digits, decimal}
use Rattle.rules.specs.Readings.{slots_held, holds_none, taken, moved, is_old, is_new, entry_if, move_entries, lives_by_slots, after_moves, stored_under, told_by, bare, said_from, number_said}
use Rattle.rules.proofs.LivingLaws.{turn-count}
use Rattle.rules.proofs.CampaignLaws.{moves-slots}

-- ## Lists

module _ {A : Type 0} (p : A → Bool) where
  counted-none : (xs : List A) → count_of p xs ≡ 0 → All (λ x. p x ≡ false) xs
  counted-none [] e = tt
  counted-none (x ∷ xs) e =
      cases (p x)
      (λ h. let e' : suc (count_of p xs) ≡ 0 = simp h at e in absurd (omega arith))
      (λ h. (h, counted-none xs (simp h at e)))

  none-counted : (xs : List A) → eqb (count_of p xs) 0 ≡ not (any_of p xs)
  none-counted [] = refl
  none-counted (x ∷ xs) =
      cases (p x) (λ h. simp (h, ne_eqb (suc (count_of p xs)) 0 (λ e. omega arith))) (λ h. simp h (none-counted xs))

  length-kept : (xs : List A) → length (keep p xs) ≡ count_of p xs
  length-kept [] = refl
  length-kept (x ∷ xs) = cases (p x) (λ h. simp (h, length-kept xs)) (λ h. simp h (length-kept xs))

  -- The only one that fits is the one that is kept.
  only-kept : (xs : List A) (i : ℕ) (x : A) → count_of p xs ≡ 1 → get_elem? xs i ≡ some x → p x ≡ true → keep p xs ≡ x ∷ []
  only-kept [] i x e at h = absurd (none-ne-some x at)
  only-kept (y ∷ ys) zero x e at h =
      let same : y ≡ x = some-injective y x at in
      let here : p y ≡ true = rw same h in
      let e' : suc (count_of p ys) ≡ 1 = simp here at e in
      simp (here, keep-none p ys (counted-none ys (omega arith))) (ap (λ (z : A). z ∷ []) same)
  only-kept (y ∷ ys) (suc i) x e at h =
      cases (p y)
      (λ g. let e' : suc (count_of p ys) ≡ 1 = simp g at e in
      clash (p x) h (all-at (λ z. p z ≡ false) ys i x at (counted-none ys (omega arith))))
      (λ g. simp g (only-kept ys i x (simp g at e) at h))

-- ## Lives

module _ (start date : Eu4Date) (n left : ℕ) where
  told-left : (loses gains empty : Bool) → left + one loses ≡ n → eqb left 0 ≡ empty
      → turn_entries start date loses gains n
      ≡ entry_if (loses && empty) date Annexed ++ entry_if (gains && empty && earlier start date) date Appeared
  unfolding turn_entries
  told-left true gains empty e f = let h : n - 1 ≡ left = omega arith in simp (h, f)
  told-left false gains empty e f = let h : n ≡ left = omega arith in simp (h, f)

-- What a turn tells, given the slots held, is told by the slots themselves. (Rules 4.7)
pub turn_told : (start : Eu4Date) (t : CountryTag) (holders : List (Option CountryTag)) (m : Move) → m.slot.0 < length holders
    → turn_entries start m.date (is_old t holders m) (is_new t m) (slots_held t holders) ≡ move_entries start t holders m
turn_told start t holders m l =
    let e = count_set (matches t) holders m.slot.0 none none l in
    told-left start m.date (slots_held t holders) (slots_held t (taken holders m)) (is_old t holders m) (is_new t m)
    (holds_none t (taken holders m)) (omega (arith, e)) (none-counted (matches t) (taken holders m))

-- The number that is kept is the number of slots that the country holds behind the move. (Rules 4.7)
pub turn_counted : (t : CountryTag) (holders : List (Option CountryTag)) (m : Move) → m.slot.0 < length holders
    → turn_count (is_old t holders m) (is_new t m) (slots_held t holders) ≡ slots_held t (moved holders m)
turn_counted t holders m l =
    turn-count (is_old t holders m) (is_new t m) (slots_held t holders) (slots_held t (moved holders m))
    (count_set (matches t) holders m.slot.0 (some m.holder) none l)
    (λ h. count-pos (matches t) holders m.slot.0 none l h)

-- Who loses its last slot to itself, the start being past, is Annexed and then Appeared. (Rules 4.7)
pub turn_to_itself : (start date : Eu4Date) → earlier start date ≡ true
    → turn_entries start date true true 1 ≡ record { date = date; kind = Annexed } ∷ record { date = date; kind = Appeared } ∷ []
unfolding turn_entries
turn_to_itself start date h = simp h

-- Behind some moves the walk goes on from the number of slots that the country holds then. (Rules 4.7)
pub lives_cut : (start : Eu4Date) (t : CountryTag) (holders : List (Option CountryTag)) (ms later : List Move)
    → All (λ m. m.slot.0 < length holders) ms
    → lives_from start t (turns_from holders (ms ++ later)) (slots_held t holders)
    ≡ lives_from start t (turns_from holders ms) (slots_held t holders)
    ++ lives_from start t (turns_from (after_moves ms holders) later) (slots_held t (after_moves ms holders))
unfolding lives_from turns_from
lives_cut start t holders [] later q = refl
lives_cut start t holders (m ∷ ms) later q =
    let holders' : List (Option CountryTag) = moved holders m in
    let q' : All (λ x. x.slot.0 < length holders') ms = simp length-set q.1 in
    let counted = turn_counted t holders m q.0 in
    let here : List Entry = turn_entries start m.date (is_old t holders m) (is_new t m) (slots_held t holders) in
    let rest : List Entry = lives_from start t (turns_from (after_moves ms holders') later) (slots_held t (after_moves ms holders')) in
    ap (λ (n : ℕ). here ++ lives_from start t (turns_from holders' (ms ++ later)) n) counted
    ∙ (ap (λ (l : List Entry). here ++ l) (lives_cut start t holders' ms later q')
    ∙ (sym (append_assoc here (lives_from start t (turns_from holders' ms) (slots_held t holders')) rest)
    ∙ ap (λ (n : ℕ). (here ++ lives_from start t (turns_from holders' ms) n) ++ rest) (sym counted)))

walk-told : (start : Eu4Date) (t : CountryTag) (holders : List (Option CountryTag)) (ms : List Move)
    → All (λ m. m.slot.0 < length holders) ms
    → lives_from start t (turns_from holders ms) (slots_held t holders) ≡ lives_by_slots start t holders ms
unfolding lives_from turns_from lives_by_slots
walk-told start t holders [] q = refl
walk-told start t holders (m ∷ ms) q =
    let q' : All (λ x. x.slot.0 < length (moved holders m)) ms = simp length-set q.1 in
    ap₂ (λ (a b : List Entry). a ++ b) (turn_told start t holders m q.0)
    (ap (λ (n : ℕ). lives_from start t (turns_from (moved holders m) ms) n) (turn_counted t holders m q.0)
    ∙ walk-told start t (moved holders m) ms q')

-- A country's Annexed and Appeared, of an accepted record, are told move by move by the slots alone. (Rules 4.7)
pub lives_told : (xs : List ℕ) → refusal xs ≡ 0 → (t : CountryTag)
    → lives_of (campaign_of xs) t
    ≡ lives_by_slots (campaign_of xs).start t (start_holders (campaign_of xs)) (moves_of (campaign_of xs))
unfolding lives_of turns_of
lives_told xs z t =
    let c = campaign_of xs in
    walk-told c.start t (start_holders c) (moves_of c) (moves-slots c (sound xs z))

-- ## Kinds

-- A kind that was written is read back. (Rules 4.12, 4.19)
pub kind_read_back : (k : EntryKind) → kind_of (kind_word k) (target_word k) ≡ k
kind_read_back (TagSwitch t) = refl
kind_read_back Appeared = refl
kind_read_back Annexed = refl

-- Kind 0 is a switch to its target, 1 Appeared, 2 Annexed. (Rules 4.12)
pub kinds_read : (target : ℕ)
    → (kind_of 0 target ≡ TagSwitch (record { 0 = target })) × (kind_of 1 target ≡ Appeared) × (kind_of 2 target ≡ Annexed)
kinds_read target = (refl, refl, refl)

-- Two words that are well shaped are those of the kind that they are read as: here the kind word. (Rules 4.19, 4.20)
pub kind_word_kept : (kind target : ℕ) → kind_shaped kind target ≡ true → kind_word (kind_of kind target) ≡ kind
unfolding kind_shaped
kind_word_kept zero target h = refl
kind_word_kept (suc zero) target h = refl
kind_word_kept (suc (suc n)) target h =
    let two = leb-true (suc (suc n)) 2 (both (leb (suc (suc n)) 2) (eqb target 0) h).0 in
    omega arith

-- And the target word. (Rules 4.19, 4.20)
pub target_word_kept : (kind target : ℕ) → kind_shaped kind target ≡ true → target_word (kind_of kind target) ≡ target
unfolding kind_shaped
target_word_kept zero target h = refl
target_word_kept (suc zero) target h = sym (eqb-true target 0 h)
target_word_kept (suc (suc n)) target h = sym (eqb-true target 0 (both (leb (suc (suc n)) 2) (eqb target 0) h).1)

-- ## Histories

first-told : (names : List ℕ) (k : Country) (number : ℕ) (ns : List Nation) (i : ℕ) (n : Nation)
    → get_elem? ns i ≡ some n → stored_under k n ≡ true → any_of (stored_under k) (take i ns) ≡ false
    → history_of names k number ns ≡ told_by names k (number + i) n
unfolding history_of
first-told names k number [] i n at h q = absurd (none-ne-some n at)
first-told names k number (x ∷ ns) zero n at h q =
    let same : x ≡ n = some-injective x n at in
    let here : stored_under k x ≡ true = rw same h in
    let e : number ≡ number + 0 = omega arith in
    simp here (ap₂ (λ (i : ℕ) (y : Nation). told_by names k i y) e same)
first-told names k number (x ∷ ns) (suc i) n at h q =
    let no = neither (stored_under k x) (any_of (stored_under k) (take i ns)) q in
    let e : number + 1 + i ≡ number + suc i = omega arith in
    simp no.0 (first-told names k (number + 1) ns i n at h no.1 ∙ ap (λ (i : ℕ). told_by names k i n) e)

-- A history is told by the nation that is stored under the country with none such before it, and has its number. (Rules 8.4)
pub history_told : (names : List ℕ) (k : Country) (ns : List Nation) (i : ℕ) (n : Nation)
    → get_elem? ns i ≡ some n → stored_under k n ≡ true → any_of (stored_under k) (take i ns) ≡ false
    → history_of names k 0 ns ≡ told_by names k i n
history_told names k ns i n at h q =
    let e : 0 + i ≡ i = omega arith in
    first-told names k 0 ns i n at h q ∙ ap (λ (i : ℕ). told_by names k i n) e

bare-told : (names : List ℕ) (k : Country) (number : ℕ) (ns : List Nation) → any_of (stored_under k) ns ≡ false
    → history_of names k number ns ≡ bare names k
unfolding history_of
bare-told names k number [] q = refl
bare-told names k number (n ∷ ns) q =
    let no = neither (stored_under k n) (any_of (stored_under k) ns) q in
    simp no.0 (bare-told names k (number + 1) ns no.1)

-- Where no nation is stored under the country its history is bare. (Rules 8.4)
pub history_bare : (names : List ℕ) (k : Country) (ns : List Nation) → any_of (stored_under k) ns ≡ false
    → history_of names k 0 ns ≡ bare names k
history_bare names k ns q = bare-told names k 0 ns q

-- ## Starting country

-- If exactly one history lacks Appeared, the answer is that one's initial. (Rules 8.14)
pub starting_alone : (ns : List Nation) (rs : List HistoryRow) (i : ℕ) (r : HistoryRow)
    → count_of (lacks_appeared ns) rs ≡ 1 → get_elem? rs i ≡ some r → lacks_appeared ns r ≡ true
    → starting_country ns rs ≡ some r.initial
unfolding starting_country starting_of
starting_alone ns rs i r e at h = simp (only-kept (lacks_appeared ns) rs i r e at h)

-- A sole history's initial is the answer, whether that history lacks Appeared or not. (Rules 8.14)
pub starting_sole : (ns : List Nation) (r : HistoryRow) → starting_country ns (r ∷ []) ≡ some r.initial
unfolding starting_country starting_of
starting_sole ns r = cases (lacks_appeared ns r) (λ h. simp h) (λ h. simp h)

neither-alone : (lacking all : List HistoryRow) → eqb (length lacking) 1 ≡ false → eqb (length all) 1 ≡ false → starting_of lacking all ≡ none
unfolding starting_of
neither-alone [] [] e f = refl
neither-alone [] (r ∷ []) e f = absurd (true≢false f)
neither-alone [] (r ∷ q ∷ rs) e f = refl
neither-alone (r ∷ []) all e f = absurd (true≢false e)
neither-alone (r ∷ q ∷ rs) all e f = refl

-- In any other case there is none. (Rules 8.14)
pub starting_none : (ns : List Nation) (rs : List HistoryRow)
    → eqb (count_of (lacks_appeared ns) rs) 1 ≡ false → eqb (length rs) 1 ≡ false → starting_country ns rs ≡ none
unfolding starting_country
starting_none ns rs e f =
    neither-alone (keep (lacks_appeared ns) rs) rs (rw (length-kept (lacks_appeared ns) rs) e) f

-- ## Decimal

said-append : (n : ℕ) (xs ys : List ℕ) → said_from n (xs ++ ys) ≡ said_from (said_from n xs) ys
unfolding said_from
said-append n [] ys = refl
said-append n (x ∷ xs) ys = said-append (10 * n + (x - 48)) xs ys

digits-said : (most n : ℕ) → n < most → said_from 0 (digits most n) ≡ n
unfolding said_from digits
digits-said zero n l = absurd (omega arith)
digits-said (suc most) n l =
    cases (ltb n 10)
    (λ h. simp h (omega arith))
    (λ h. let many = ltb-false n 10 h in
    let ih = digits-said most (n / 10) (omega arith) in
    simp (h, said-append, ih) (omega (arith, div-add-mod n 10)))

-- The number that the digits of a number say is this number. (Rules 9.7)
pub decimal_said : (n : ℕ) → number_said (decimal n) ≡ n
decimal_said n = digits-said _ n (omega arith)

digits-only : (most n : ℕ) → All (λ b. (48 ≤ b) × (b ≤ 57)) (digits most n)
unfolding digits
digits-only zero n = tt
digits-only (suc most) n =
    cases (ltb n 10)
    (λ h. let few = ltb-true n 10 h in simp h ((omega arith, omega arith), tt))
    (λ h. simp h (all_append _ (digits most (n / 10)) ((48 + n % 10) ∷ []) (digits-only most (n / 10)) ((omega arith, omega arith), tt)))

-- Each byte is a digit's, 48 to 57. (Rules 9.7)
pub decimal_digits : (n : ℕ) → All (λ b. (48 ≤ b) × (b ≤ 57)) (decimal n)
decimal_digits n = digits-only _ n

first-append : (xs ys : List ℕ) → 48 < first_or 0 xs → 48 < first_or 0 (xs ++ ys)
first-append [] ys l = absurd (omega arith)
first-append (x ∷ xs) ys l = l

digits-lead : (most n : ℕ) → n < most → 0 < n → 48 < first_or 0 (digits most n)
unfolding digits
digits-lead zero n l p = absurd (omega arith)
digits-lead (suc most) n l p =
    cases (ltb n 10)
    (λ h. simp h (omega arith))
    (λ h. let many = ltb-false n 10 h in
    simp h (first-append (digits most (n / 10)) ((48 + n % 10) ∷ []) (digits-lead most (n / 10) (omega arith) (omega arith))))

-- A number above 0 does not begin with the digit 0, which is byte 48. (Rules 9.7)
pub decimal_leads : (n : ℕ) → 0 < n → 48 < first_or 0 (decimal n)
decimal_leads n p = digits-lead _ n (omega arith) p

-- 0 is that digit alone. (Rules 9.7)
pub decimal_zero : decimal 0 ≡ 48 ∷ []
unfolding digits
decimal_zero = refl

-- ## What each function of src/readings.rt is proved by

pub ruleset lives_plain = (turn_told, turn_counted, lives_cut, turn_to_itself, lives_told)

pub ruleset kind_plain = (kind_read_back, kinds_read, kind_word_kept, target_word_kept)

pub ruleset history_plain = (history_told, history_bare)

pub ruleset starting_country_plain = (starting_alone, starting_sole, starting_none)

pub ruleset decimal_plain = (decimal_said, decimal_digits, decimal_leads, decimal_zero)
