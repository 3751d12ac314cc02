-- Histories that lack Appeared: entry by entry, row by row, and by the rules.
use mathlib.Core.Path.{◌≡◌, refl, sym, ap, ◌∙◌}
use mathlib.Core.Bool.{Bool, true, false, cond, not, ◌&&◌}
use mathlib.Core.List.{List, [], ◌∷◌}
use mathlib.Core.Option.{Option, none, some}
use Prim.Native.Nat.{ℕ, zero, suc, ◌+◌, ◌<◌, ◌≤◌}
use native.Mathlib.Omega.{arith}
use borrow.Author.Tests.{leb-true, ne_eqb}
use lib.Dec.{eqb}
use lib.ListN.{length, get_or, get_elem?, length-map}
use Rattle.std.specs.Prelude as code
use Rattle.std.specs.Bool.{then_some}
use Rattle.std.specs.List.{list_any}
use Rattle.lists.specs.Lists.{keep, any_of, all_of, numbers_from, is_whole}
use Rattle.lists.proofs.BoolLaws.{cases, and_right}
use Rattle.lists.proofs.ListLaws.{all_map, map_at, length-numbers}
use Rattle.lists.proofs.ElementLaws.{keep_same}
use Rattle.lists.proofs.EachLaws.{all_of-all}
use Rattle.lists.specs.Options.{option_of}
use Rattle.format.specs.declared.tag.CountryTag.{CountryTag}
use Rattle.format.specs.Tags.{is_tag}
use Rattle.format.specs.RecordNumber.{first_of}
use Rattle.format.specs.RefusalNumber.{refusal_number}
use Rattle.format.specs.declared.refused.Refusal.{Refusal}
use Rattle.format.proofs.FirstLaws.{first-stop, first-pass, first_one}
use Rattle.format.proofs.RefusalNumberLaws.{refuses}
use Rattle.rules.specs.Lent.{refused, gives}
use Rattle.format.specs.declared.values.Entry.{Entry}
use Rattle.format.specs.declared.values.NationRow.{NationRow}
use Rattle.format.specs.declared.values.HistoryRow.{HistoryRow}
use Rattle.rules.specs.Chronicle.{is_appeared}
use Rattle.rules.specs.NationRows.{nation_rows_in, nations_in, well_shaped}
use Rattle.rules.specs.HistoryRows.{history_width, history_row_of, history_rows_in, history_shaped, histories_shaped}
use Rattle.rules.specs.StartingCountry.{history_entries, lacks_appeared, starting_of, starting_country}
use Rattle.rules.specs.CallNumbers.{chronicle_number, histories_number}
use Rattle.rules.specs.PlayerOutcomes.{call_starting_country}
use Rattle.rules.proofs.LentLaws.{answered-gives}
use Rattle.rows.specs.RowAt.{nation_row_at, entries_at, nation_numbered}
use Rattle.rows.proofs.NumberedLaws.{nations-numbered}
use Rattle.rows.specs.HistoryAt.{history_row_at}
use Rattle.players.specs.LackSteps.{entries_behind, appeared_in, lacks_in}
use Rattle.lists.proofs.CodeLaws.{some_same}

-- ## The entries of a nation

module _ (ws es : List ℕ) (nation : ℕ) where
  pub bare-history : nation ≡ 0 → false ≡ appeared_in ws es nation
  bare-history e = rw e

  -- The row of its nation, as the code has read it, and the entries that it counts.
  pub nation-walk : (m : ℕ) (row : NationRow) (all : List Entry) (b : Bool) → m + 1 ≡ nation → row ≡ nation_row_at ws m → all ≡ entries_at es row.first row.count
      → b ≡ list_any (λ e. is_appeared e.kind) all → b ≡ appeared_in ws es nation
  nation-walk m row all b e r a h =
      let s : nation ≡ suc m = omega arith in
      h ∙ some_same (λ e. is_appeared e.kind) all ∙ rw (s, a, r)

-- ## What is left tells the starting country

-- No history lacks it: a sole one was read.
pub sole-told : (hs : List ℕ) (ks : List HistoryRow) → ks ≡ [] → (n : ℕ) → n ≡ length (history_rows_in hs) → (row : HistoryRow) → row ≡ history_row_at hs 0
    → (r : code.Option CountryTag) → r ≡ then_some (eqb n 1) row.initial → option_of r ≡ starting_of ks (history_rows_in hs)
unfolding starting_of history_row_at
sole-told hs ks e n q row f r g = rw (e, g, q) (go (history_rows_in hs) (ap (λ (d : HistoryRow). d.initial) f))
  where
    go : (rs : List HistoryRow) → row.initial ≡ (get_or rs 0 (history_row_of [])).initial → option_of (then_some (eqb (length rs) 1) row.initial) ≡ starting_of [] rs
    go [] h = refl
    go (r ∷ []) h = ap some h
    go (r ∷ q ∷ qs) h = rw (ne_eqb (length (r ∷ q ∷ qs)) 1 (λ e. omega arith)) refl

module _ (rs ks : List HistoryRow) (r : HistoryRow) where
  pub one_told : ks ≡ r ∷ [] → some r.initial ≡ starting_of ks rs
  unfolding starting_of
  one_told e = rw e

  pub more-told : (q : HistoryRow) (qs : List HistoryRow) → ks ≡ r ∷ q ∷ qs → none ≡ starting_of ks rs
  unfolding starting_of
  more-told q qs e = rw e

-- ## By the rules

number_at : (a n i : ℕ) → i < n → get_elem? (numbers_from a n) i ≡ some (a + i)
number_at a zero i h = absurd (omega arith)
number_at a (suc n) zero h = let e : a + 0 ≡ a = omega arith in rw e
number_at a (suc n) (suc i) h = let e : suc a + i ≡ a + suc i = omega arith in rw (← e) (number_at (suc a) n i (omega arith))

module _ (ws es : List ℕ) (shaped : well_shaped ws es ≡ true) where
  pub nations-many : length (nations_in ws es) ≡ length (nation_rows_in ws)
  nations-many =
      ap length (nations-numbered ws es shaped)
      ∙ length-map (numbers_from 0 (length (nation_rows_in ws))) (nation_numbered ws es)
      ∙ length-numbers 0 (length (nation_rows_in ws))

  numbered-nation : (i : ℕ) → i < length (nation_rows_in ws) → get_elem? (nations_in ws es) i ≡ some (nation_numbered ws es i)
  numbered-nation i h =
      let e : 0 + i ≡ i = omega arith in
      rw (nations-numbered ws es shaped, map_at (nation_numbered ws es) (numbers_from 0 (length (nation_rows_in ws))) i, number_at 0 (length (nation_rows_in ws)) i h, e)

  entries-behind : (nation : ℕ) → nation ≤ length (nation_rows_in ws) → history_entries (nations_in ws es) nation ≡ entries_behind ws es nation
  entries-behind zero h = refl
  entries-behind (suc i) h = rw (numbered-nation i (omega arith))

  -- Of shaped histories those lack Appeared that do by the rules.
  lacking-same : (r : HistoryRow) → history_shaped (length (nations_in ws es)) r ≡ true → lacks_appeared (nations_in ws es) r ≡ lacks_in ws es r
  lacking-same r h =
      let few = leb-true r.nation (length (nations_in ws es)) (and_right (is_tag r.initial && is_tag r.latest && is_tag r.stored) _ h) in
      ap (λ (l : List Entry). not (any_of (λ e. is_appeared e.kind) l)) (entries-behind r.nation (omega (arith, nations-many)))

  starting-told : (rs : List HistoryRow) → all_of (history_shaped (length (nations_in ws es))) rs ≡ true
      → starting_of (keep (lacks_in ws es) rs) rs ≡ starting_country (nations_in ws es) rs
  unfolding starting_country
  starting-told rs h =
      ap (λ (l : List HistoryRow). starting_of l rs)
      (sym (keep_same (lacks_appeared (nations_in ws es)) (lacks_in ws es) rs (all_map lacking-same rs (all_of-all (history_shaped (length (nations_in ws es))) rs h))))

-- ## `starting_country`

module _ (hs ws es : List ℕ) where
  torn : well_shaped ws es ≡ false → refused 11 ≡ call_starting_country hs ws es
  unfolding call_starting_country
  torn h =
      let n : first_of (chronicle_number ws es ∷ histories_number (nations_in ws es) hs ∷ []) ≡ 11 = rw h (first-stop 11 _ (λ z. omega arith)) in
      sym (rw n refl)

  -- What `?` hands on of a chronicle that is not well shaped.
  pub chronicle-refused : (e : Refusal) → refusal_number e ≡ cond (well_shaped ws es) 0 11 → refused (refusal_number e) ≡ call_starting_country hs ws es
  chronicle-refused e h =
      cases (well_shaped ws es)
      (λ t. let z : refusal_number e ≡ 0 = h ∙ rw t refl in absurd (omega (arith, z, refuses e)))
      (λ t. let z : refusal_number e ≡ 11 = h ∙ rw t refl in ap refused z ∙ torn t)

  module _ (shaped : well_shaped ws es ≡ true) where
    passed : first_of (chronicle_number ws es ∷ histories_number (nations_in ws es) hs ∷ []) ≡ histories_number (nations_in ws es) hs
    passed = rw shaped (first-pass 0 _ refl) ∙ first_one _

    pub histories-refused : histories_shaped (nations_in ws es) hs ≡ false → refused 11 ≡ call_starting_country hs ws es
    unfolding call_starting_country
    histories-refused h =
        let n : first_of (chronicle_number ws es ∷ histories_number (nations_in ws es) hs ∷ []) ≡ 11 = passed ∙ rw h refl in
        sym (rw n refl)

    pub starting-gives : histories_shaped (nations_in ws es) hs ≡ true → (ns os : List ℕ) → ns ≡ ws → os ≡ es
        → (t : Option CountryTag) → t ≡ starting_of (keep (lacks_in ns os) (history_rows_in hs)) (history_rows_in hs)
        → gives t ≡ call_starting_country hs ws es
    unfolding call_starting_country histories_shaped
    starting-gives h ns os p q t e =
        let n : first_of (chronicle_number ws es ∷ histories_number (nations_in ws es) hs ∷ []) ≡ 0 = passed ∙ rw h refl in
        let rows = and_right (is_whole history_width hs) _ h in
        ap gives (rw (p, q) at e) ∙ sym (answered-gives _ _ n ∙ ap gives (sym (starting-told ws es shaped (history_rows_in hs) rows)))
