-- The draft of a history, from its country's tables.
use mathlib.Core.Path.{◌≡◌, refl, sym, ap, ◌∙◌}
use mathlib.Core.Bool.{true}
use mathlib.Core.List.{List, [], ◌∷◌, map}
use mathlib.Core.Option.{Option, none, some}
use Prim.Native.Nat.{ℕ, zero, suc, ◌+◌, ◌%◌, ◌≤◌, ◌<◌}
use native.Mathlib.Numerals.{add-one}
use native.Mathlib.Omega.{arith}
use lib.ListN.{length, length-map}
use Rattle.lists.specs.Lists.{numbers_from}
use Rattle.lists.proofs.BoolLaws.{cases}
use Rattle.lists.proofs.ListLaws.{length-numbers}
use Rattle.format.specs.Tags.{same_tag}
use Rattle.format.specs.Campaign.{Country}
use Rattle.rules.specs.Chronicle.{Nation}
use Rattle.rules.specs.NationRows.{nation_rows_in, nations_in, well_shaped}
use Rattle.rules.specs.Histories.{History, history_of, is_released}
use Rattle.rules.specs.HistoryRows.{nation_word}
use Rattle.rows.specs.RowAt.{nation_numbered, stored_tags}
use Rattle.rows.proofs.NumberedLaws.{nations-numbered}
use Rattle.search.specs.Places.{place_from}
use Rattle.search.proofs.PlaceLaws.{place_inside}
use Rattle.players.specs.Marks.{stored_word}
use Rattle.players.specs.CountryDrafts.{run_length, draft_with, history_draft}

-- ## The first nation stored under a country

module _ (names : List ℕ) (k : Country) (f : ℕ → Nation) where
  -- The history of a nation's number, or a bare one.
  abbrev history_at : Option ℕ → History
  history_at none = record { country = k; initial = k.tag; latest = k.tag; stored = k.tag; nation = none; names = names }
  history_at (some i) = record { country = k; initial = (f i).initial; latest = (f i).latest; stored = (f i).stored; nation = some i; names = names }

  history-placed : (n a : ℕ) → history_of names k a (map f (numbers_from a n)) ≡ history_at (place_from a k.tag (map (λ i. (f i).stored) (numbers_from a n)))
  unfolding history_of place_from
  history-placed zero a = refl
  history-placed (suc n) a =
      cases (same_tag (f a).stored k.tag)
      (λ e. simp e)
      (λ e. simp e (rw (add-one a) (history-placed n (suc a))))

-- A history is its country's, with the names that it was given.
pub history-parts : (names : List ℕ) (k : Country) (a : ℕ) (ns : List Nation) → ((history_of names k a ns).country ≡ k) × ((history_of names k a ns).names ≡ names)
unfolding history_of
history-parts names k a [] = (refl, refl)
history-parts names k a (n ∷ ns) = cases (same_tag n.stored k.tag) (λ e. simp e (refl, refl)) (λ e. simp e (history-parts names k (a + 1) ns))

module _ (ws es keys : List ℕ) (shaped : well_shaped ws es ≡ true) (few : length (nation_rows_in ws) ≤ 4294967295) (names : List ℕ) (k : Country)
    (counted : length names ≡ run_length keys k.tag) where
  draft-at : (o : Option ℕ) → ((i : ℕ) → o ≡ some i → i < 4294967295)
      → draft_with ws keys k (nation_word o) ≡ history_draft keys (history_at names k (nation_numbered ws es) o)
  unfolding is_released
  draft-at none small = rw (← counted) refl
  draft-at (some i) small =
      let s = small i refl in
      let y : i % 4294967296 ≡ i = omega arith in
      let z : suc i % 4294967296 ≡ suc i = omega arith in
      rw (add-one i, y, add-one i, z, ← counted) refl

  pub draft-history : draft_with ws keys k (stored_word ws k.tag) ≡ history_draft keys (history_of names k 0 (nations_in ws es))
  draft-history =
      let n : ℕ = length (nation_rows_in ws) in
      let o : Option ℕ = place_from 0 k.tag (stored_tags ws 0 n) in
      let wide : length (stored_tags ws 0 n) ≡ n = length-map (numbers_from 0 n) _ ∙ length-numbers 0 n in
      draft-at o (λ i e. omega (arith, place_inside k.tag (stored_tags ws 0 n) i e, wide))
      ∙ ap (history_draft keys) (sym (ap (history_of names k 0) (nations-numbered ws es shaped) ∙ history-placed names k (nation_numbered ws es) n 0))
