-- A country's Annexed and Appeared come in date order, so its entries are its switches, sorted by date, merged with them.
use mathlib.Core.Path.{◌≡◌, refl, sym, ap, ◌∙◌}
use mathlib.Core.Bool.{Bool, true, false, cond, ◌&&◌}
use mathlib.Core.List.{List, [], ◌∷◌, ◌++◌}
use mathlib.Core.Option.{Option, some}
use Prim.Native.Nat.{ℕ, ◌-◌, ◌≤◌}
use native.Mathlib.Omega.{arith}
use borrow.Author.Tests.{le-leb}
use lib.Dec.{eqb}
use lib.ListN.{set}
use Rattle.lists.proofs.ListLaws.{all_map, all_append, InOrder}
use Rattle.lists.specs.Lists.{All}
use Rattle.sorting.specs.Sort.{sort_by}
use Rattle.sorting.specs.Steps.{merge_by}
use Rattle.sorting.proofs.SortLaws.{Ordered, sort-ordered, merge-sort, leb-total, leb-trans}
use Rattle.format.specs.declared.tag.CountryTag.{CountryTag}
use Rattle.format.specs.declared.date.Eu4Date.{Eu4Date}
use Rattle.format.specs.Tags.{same_tag}
use Rattle.format.specs.Dates.{earlier}
use Rattle.format.specs.Campaign.{Campaign, Country}
use Rattle.format.specs.declared.values.Entry.{Entry}
use Rattle.format.specs.declared.values.EntryKind.TheVariants.{Appeared, Annexed}
use Rattle.rules.specs.Nations.{matches, switch_entries, start_holders, Move, moves_of, Turn, turns_from, turns_of, turn_entries, turn_count, lives_from, lives_of, entries_of}
use Rattle.nation_tables.specs.Turning.{by_date}
use Rattle.rules.proofs.CampaignLaws.{moves-order}

-- ## Dates of lives

-- Each entry of a turn has the turn's date.
module _ (P : Entry → Type 0) (start date : Eu4Date) (loses gains : Bool) (n : ℕ)
    (lost : P (record { date = date; kind = Annexed })) (gained : P (record { date = date; kind = Appeared })) where
  pub turn-all : All P (turn_entries start date loses gains n)
  unfolding turn_entries
  turn-all = go (loses && eqb (n - 1) 0) (gains && eqb (cond loses (n - 1) n) 0 && earlier start date)
    where
      go : (a b : Bool)
          → All P (cond a (record { date = date; kind = Annexed } ∷ []) [] ++ cond b (record { date = date; kind = Appeared } ∷ []) [])
      go true true = (lost, (gained, tt))
      go true false = (lost, tt)
      go false true = (gained, tt)
      go false false = tt

lives-from : (start : Eu4Date) (t : CountryTag) (day : ℕ) (xs : List Turn) (n : ℕ) → All (λ x. day ≤ x.date.0) xs
    → All (λ e. day ≤ e.date.0) (lives_from start t xs n)
unfolding lives_from
lives-from start t day [] n q = tt
lives-from start t day (x ∷ xs) n q =
    let loses : Bool = matches t x.old in
    let gains : Bool = same_tag x.new t in
    all_append (λ e. day ≤ e.date.0) (turn_entries start x.date loses gains n) (lives_from start t xs (turn_count loses gains n))
    (turn-all (λ e. day ≤ e.date.0) start x.date loses gains n q.0 q.0)
    (lives-from start t day xs (turn_count loses gains n) q.1)

-- Entries of one date before entries that are not earlier.
day-order : (day : ℕ) (es fs : List Entry) → All (λ e. e.date.0 ≡ day) es → All (λ e. day ≤ e.date.0) fs → InOrder (λ e. e.date.0) fs
    → InOrder (λ e. e.date.0) (es ++ fs)
day-order day [] fs p q o = o
day-order day (e ∷ es) fs p q o =
    let h : e.date.0 ≡ day = p.0 in (
      all_append (λ f. e.date.0 ≤ f.date.0) es fs
          (all_map {Q = λ f. e.date.0 ≤ f.date.0} (λ f g. omega arith) es p.1)
          (all_map {Q = λ f. e.date.0 ≤ f.date.0} (λ f g. omega arith) fs q),
      day-order day es fs p.1 q o,
    )

lives-order : (start : Eu4Date) (t : CountryTag) (xs : List Turn) (n : ℕ) → InOrder (λ x. x.date.0) xs
    → InOrder (λ e. e.date.0) (lives_from start t xs n)
unfolding lives_from
lives-order start t [] n o = tt
lives-order start t (x ∷ xs) n o =
    let loses : Bool = matches t x.old in
    let gains : Bool = same_tag x.new t in
    day-order x.date.0 (turn_entries start x.date loses gains n) (lives_from start t xs (turn_count loses gains n))
    (turn-all (λ e. e.date.0 ≡ x.date.0) start x.date loses gains n refl refl)
    (lives-from start t x.date.0 xs (turn_count loses gains n) o.0)
    (lives-order start t xs (turn_count loses gains n) o.1)

-- ## Turns have the dates of their moves

-- What holds of the dates of all moves holds of those of their turns.
pub all-turns : (P : Eu4Date → Type 0) (ms : List Move) (holders : List (Option CountryTag)) → All (λ m. P m.date) ms
    → All (λ x. P x.date) (turns_from holders ms)
unfolding turns_from
all-turns P [] holders q = tt
all-turns P (m ∷ ms) holders q = (q.0, all-turns P ms (set holders m.slot.0 (some m.holder)) q.1)

turns-order : (ms : List Move) (holders : List (Option CountryTag)) → InOrder (λ m. m.date.0) ms
    → InOrder (λ x. x.date.0) (turns_from holders ms)
unfolding turns_from
turns-order [] holders o = tt
turns-order (m ∷ ms) holders o =
    let holders' : List (Option CountryTag) = set holders m.slot.0 (some m.holder) in
    (all-turns (λ d. m.date.0 ≤ d.0) ms holders' o.0, turns-order ms holders' o.1)

pub lives-in-order : (c : Campaign) (t : CountryTag) → InOrder (λ e. e.date.0) (lives_of c t)
unfolding lives_of turns_of
lives-in-order c t = lives-order c.start t (turns_of c) _ (turns-order (moves_of c) (start_holders c) (moves-order c))

-- ## The merge

in-order-by-date : (es : List Entry) → InOrder (λ e. e.date.0) es → Ordered by_date es
in-order-by-date [] o = tt
in-order-by-date (e ∷ es) o = (all_map (λ f h. le-leb e.date.0 f.date.0 h) es o.0, in-order-by-date es o.1)

pub entries-merge : (c : Campaign) (k : Country) → entries_of c k ≡ merge_by by_date (sort_by by_date (switch_entries k)) (lives_of c k.tag)
unfolding entries_of
entries-merge c k =
    sym (merge-sort by_date (λ a b. leb-total a.date.0 b.date.0) (λ a b d. leb-trans a.date.0 b.date.0 d.date.0) (switch_entries k) (lives_of c k.tag))
    ∙ ap (merge_by by_date (sort_by by_date (switch_entries k))) (sort-ordered by_date (lives_of c k.tag) (in-order-by-date (lives_of c k.tag) (lives-in-order c k.tag)))
