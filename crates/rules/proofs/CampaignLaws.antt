-- The living equation of every country of a sound campaign, whether it is listed or not: no province id is above P.
use mathlib.Core.Path.{◌≡◌, refl, sym, ap, ◌∙◌}
use mathlib.Core.Bool.{Bool, true, false, ◌&&◌, true≢false, false≢true}
use mathlib.Core.List.{List, [], ◌∷◌, ◌++◌, map}
use mathlib.Core.Option.{Option, none}
use Prim.Native.Nat.{ℕ, suc, ◌+◌, ◌≤◌, ◌<◌}
use native.Mathlib.Omega.{arith}
use borrow.Author.Tests.{ltb-true, ltb-false, eqb-true}
use lib.ListN.{length, get_or, length-map}
use lib.Seq.{ext_get_or}
use Rattle.lists.specs.Lists.{All, count_of, one, join_of, first_or, numbers_from}
use Rattle.lists.proofs.BoolLaws.{cases}
use Rattle.lists.proofs.ListLaws.{all_of_map, all_join, any-map, any-count, map-then, length-numbers, numbers-at, sgn, InOrder, order-map, count-append}
use Rattle.sorting.proofs.SortLaws.{all-sort, count-sort, order-sort}
use Rattle.format.specs.declared.tag.CountryTag.{CountryTag}
use Rattle.format.specs.declared.date.Eu4Date.{Eu4Date}
use Rattle.format.specs.declared.rows.ProvinceId.{ProvinceId}
use Rattle.format.specs.declared.rows.Switch.{Switch}
use Rattle.format.specs.declared.rows.OwnerEvent.{OwnerEvent}
use Rattle.format.specs.Tags.{same_tag}
use Rattle.format.specs.Dates.{earlier, not_after, same_date}
use Rattle.format.specs.Campaign.{Campaign, Country, Province}
use Rattle.format.specs.Sound.{GoodProvince, Sound}
use Rattle.format.specs.declared.values.OwnerChange.{OwnerChange}
use Rattle.format.specs.declared.values.EntryKind.{EntryKind}
use Rattle.format.specs.declared.values.Entry.{Entry}
use Rattle.format.specs.declared.values.EntryKind.TheVariants.{TagSwitch}
use Rattle.rules.specs.Chronicle.{is_appeared, is_annexed}
use Rattle.rules.specs.Changes.{changes_from, province_changes, by_date_and_id, changes_of}
use Rattle.rules.specs.Nations.{matches, last_target, switch_chain, switch_entries, slots_of, start_holder, start_holders, all_switches, Move, move_of, moves_of, turns_of, lives_of, entries_of, last_holder, holders_of}
use Rattle.rules.specs.Holding.{holder_on, holds_on}
use Rattle.rules.specs.Guarantee.{counted}
use Rattle.rules.proofs.LivingLaws.{after_moves, due, length-after, at_after, last_on, in_days, balance}

-- ## Changes and moves

change-up : (a b : OwnerChange) → by_date_and_id a b ≡ true → a.date.0 ≤ b.date.0
change-up a b h =
    cases (earlier a.date b.date)
    (λ l. omega (arith, ltb-true a.date.0 b.date.0 l))
    (λ l. cases (same_date a.date b.date)
    (λ e. omega (arith, eqb-true a.date.0 b.date.0 e))
    (λ e. absurd (false≢true (simp (l, e) at h))))

change-down : (a b : OwnerChange) → by_date_and_id a b ≡ false → b.date.0 ≤ a.date.0
change-down a b h =
    cases (earlier a.date b.date) (λ l. absurd (true≢false (simp l at h))) (λ l. ltb-false a.date.0 b.date.0 l)

-- Moves are in date order.
pub moves-order : (c : Campaign) → InOrder (λ m. m.date.0) (moves_of c)
unfolding moves_of changes_of
moves-order c =
    order-map (move_of (all_switches c.countries)) (λ m. m.date.0) (changes_of c)
    (order-sort by_date_and_id (λ x. x.date.0) change-up change-down (join_of province_changes c.provinces))

-- What holds of all changes of all provinces, by what holds of their events.
module _ (P : OwnerChange → Type 0) (id : ProvinceId) where
  pub all-changes : (tag : CountryTag) (es : List OwnerEvent)
      → All (λ e. (from : CountryTag) → P (record { date = e.date; id = id; from = from; to = e.tag })) es → All P (changes_from id tag es)
  unfolding changes_from
  all-changes tag [] q = tt
  all-changes tag (e ∷ es) q =
      cases (same_tag tag e.tag)
      (λ h. simp h (all-changes e.tag es q.1))
      (λ h. simp h (q.0 tag, all-changes e.tag es q.1))

pub all-moves : (c : Campaign) (Q : Province → Type 0) (P : OwnerChange → Type 0) (R : Move → Type 0)
    → ((p : Province) → Q p → All P (province_changes p)) → ((x : OwnerChange) → P x → R (move_of (all_switches c.countries) x))
    → All Q c.provinces → All R (moves_of c)
unfolding moves_of changes_of
all-moves c Q P R f g q =
    all_of_map R (move_of (all_switches c.countries)) g (changes_of c)
    (all-sort by_date_and_id P (join_of province_changes c.provinces) (all_join P province_changes f c.provinces q))

every : {A : Type 0} (P : A → Type 0) → ((a : A) → P a) → (xs : List A) → All P xs
every P f [] = tt
every P f (x ∷ xs) = (f x, every P f xs)

-- ## Slots

pub length-slots : (c : Campaign) → length (slots_of c) ≡ suc (length c.provinces)
unfolding slots_of
length-slots c =
    length-map (numbers_from 0 (suc (length c.provinces))) (λ n. slot n) ∙ length-numbers 0 (suc (length c.provinces))
  where
    slot : ℕ → ProvinceId
    slot n = record { 0 = n }

pub length-start : (c : Campaign) → length (start_holders c) ≡ suc (length c.provinces)
unfolding start_holders
length-start c = length-map (slots_of c) (start_holder c) ∙ length-slots c

pub moves-slots : (c : Campaign) → Sound c → All (λ m. m.slot.0 < length (start_holders c)) (moves_of c)
moves-slots c r =
    simp (length-start c)
    (all-moves c (GoodProvince (length c.provinces)) (λ x. x.id.0 ≤ length c.provinces) (λ m. m.slot.0 < suc (length c.provinces))
    (λ p h. all-changes (λ x. x.id.0 ≤ length c.provinces) p.id p.owner p.events (every _ (λ e from. h.id) p.events))
    (λ x h. omega arith) r.provinces)

-- A function of the slots 0 to P, at a slot.
at_slot : (c : Campaign) (f : ProvinceId → Option CountryTag) (i : ℕ) → i < suc (length c.provinces)
    → get_or (map f (slots_of c)) i none ≡ f (record { 0 = i })
unfolding slots_of
at_slot c f i l =
    let e : 0 + i ≡ i = omega arith in
    ap (λ (l' : List (Option CountryTag)). get_or l' i none) (map-then (λ n. record { 0 = n }) f (numbers_from 0 (suc (length c.provinces))))
    ∙ (numbers-at (λ n. f (record { 0 = n })) none 0 (suc (length c.provinces)) i l ∙ ap (λ (j : ℕ). f (record { 0 = j })) e)

start-at : (c : Campaign) (i : ℕ) → i < suc (length c.provinces) → get_or (start_holders c) i none ≡ start_holder c (record { 0 = i })
unfolding start_holders
start-at c i l = at_slot c (start_holder c) i l

-- The holders that moves leave one after the other are those that the last move on each slot gives.
pub after_last : (c : Campaign) (ms : List Move) → map (λ slot. last_holder c slot ms) (slots_of c) ≡ after_moves ms (start_holders c)
unfolding last_holder
after_last c ms =
    let len : length (map (λ slot. last_holder c slot ms) (slots_of c)) ≡ suc (length c.provinces) =
    length-map (slots_of c) (λ slot. last_holder c slot ms) ∙ length-slots c in
    ext_get_or none (map (λ slot. last_holder c slot ms) (slots_of c)) (after_moves ms (start_holders c))
    (len ∙ sym (length-after ms (start_holders c) ∙ length-start c))
    (λ i l. let l' : i < suc (length c.provinces) = omega arith in
    at_slot c (λ slot. last_holder c slot ms) i l'
    ∙ sym
    (at_after ms (start_holders c) (record { 0 = i }) (omega (arith, length-start c))
    ∙ ap (last_on (record { 0 = i }) ms) (start-at c i l')))

-- Holders on a day, and after the last change.
pub holders-on : (c : Campaign) (day : Eu4Date) → map (holder_on c day) (slots_of c) ≡ after_moves (due day (moves_of c)) (start_holders c)
unfolding holder_on
holders-on c day = after_last c (due day (moves_of c))

pub holders-of : (c : Campaign) → holders_of c ≡ after_moves (moves_of c) (start_holders c)
unfolding holders_of
holders-of c = after_last c (moves_of c)

-- ## Entries

chain-uncounted : (is : EntryKind → Bool) → ((t : CountryTag) → is (TagSwitch t) ≡ false) → (start day : Eu4Date) (end : CountryTag) (ss : List Switch)
    → counted is start day (switch_chain end ss) ≡ 0
unfolding switch_chain
chain-uncounted is h start day end [] = refl
chain-uncounted is h start day end (s ∷ ss) =
    simp (h (first_or end (map (λ x. x.from) ss))) (chain-uncounted is h start day end ss)

-- Switches are not counted.
entries-counted : (is : EntryKind → Bool) → ((t : CountryTag) → is (TagSwitch t) ≡ false) → (c : Campaign) (k : Country) (start day : Eu4Date)
    → counted is start day (entries_of c k) ≡ counted is start day (lives_of c k.tag)
unfolding entries_of
entries-counted is h c k start day =
    let p : Entry → Bool = λ e. is e.kind && in_days start day e.date in
    count-sort (λ a b. not_after a.date b.date) p (switch_entries k ++ lives_of c k.tag)
    ∙ (count-append p (switch_entries k) (lives_of c k.tag)
    ∙ simp (chain-uncounted is h start day (last_target k) k.switches) (omega arith))

-- S or L: whether the country holds, by the number of slots that it holds.
holds-count : (c : Campaign) (day : Eu4Date) (t : CountryTag)
    → one (holds_on c day t) ≡ sgn (count_of (matches t) (after_moves (due day (moves_of c)) (start_holders c)))
unfolding holds_on
holds-count c day t =
    ap one (sym (any-map (matches t) (holder_on c day) (slots_of c)))
    ∙ (any-count (matches t) (map (holder_on c day) (slots_of c)) ∙ ap (λ (hs : List (Option CountryTag)). sgn (count_of (matches t) hs)) (holders-on c day))

pub living : (c : Campaign) (k : Country) (day : Eu4Date) → Sound c → c.start.0 ≤ day.0
    → one (holds_on c c.start k.tag) + counted is_appeared c.start day (entries_of c k)
    ≡ one (holds_on c day k.tag) + counted is_annexed c.start day (entries_of c k)
unfolding lives_of turns_of
living c k day r h =
    simp (entries-counted is_appeared (λ t. refl) c k c.start day, entries-counted is_annexed (λ t. refl) c k c.start day, holds-count)
    (balance c.start day k.tag h (moves_of c) (start_holders c) (count_of (matches k.tag) (start_holders c)) (moves-order c) (moves-slots c r) refl)
