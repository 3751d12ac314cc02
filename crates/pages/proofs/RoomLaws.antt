-- What nations are given room for, and what a page may have: of an accepted record they have room unless it is past the page's limits.
use mathlib.Core.Path.{◌≡◌, refl, sym, ap, ◌∙◌}
use mathlib.Core.Bool.{Bool, true, false, cond, ◌&&◌}
use mathlib.Core.List.{List, map}
use Prim.Native.Nat.{ℕ, ◌*◌, ◌≤◌}
use native.Mathlib.Omega.{arith}
use borrow.Author.Tests.{leb-true, leb-false, le-leb, lt-leb}
use lib.Dec.{leb}
use lib.ListN.{length, take, drop, length-map, length-append}
use lib.Seq.{take_at}
use Rattle.lists.specs.Lists.{join_of}
use Rattle.lists.proofs.BoolLaws.{cases, clash}
use Rattle.format.specs.Campaign.{Campaign, campaign_of}
use Rattle.format.specs.RecordNumber.{refusal}
use Rattle.rules.specs.Chronicle.{Nation}
use Rattle.rules.specs.Lent.{refused, gives, written}
use Rattle.rules.specs.Changes.{changes_of, change_rows, change_width}
use Rattle.rules.specs.Nations.{nations_of, holders_of, held_of}
use Rattle.rules.specs.NationRows.{nation_width, entry_width, nation_words, entry_words, holder_word}
use Rattle.format.specs.declared.values.NationCounts.{NationCounts}
use Rattle.rules.specs.Outcomes.{answers_of, NationCells, cells_of, all_fit, all_written, counts_of, call_nation_events}
use Rattle.rules.specs.PageOutcomes.{limits_number}
use Rattle.rules.proofs.RowLaws.{length-nation_words, length-entry_words, length-change_rows}
use Rattle.nation_tables.specs.Layout.{most_countries, most_slots}
use Rattle.nations.proofs.answer.NationOutcomeLaws.{SmallCounts, counts-small, nations-given, nations-short, nations-rows}
use Rattle.nations.proofs.answer.NationSizeLaws.{most_entries}
use Rattle.pages.specs.declared.listing.TheConstants.{MOST_PAGE_ENTRIES, MOST_PAGE_CHANGES}
use Rattle.pages.proofs.AnswerLaws.{not-refused, same_gives}

-- Two tests are the same if each makes the other true.
same_test : (a b d e : ℕ) → (a ≤ b → d ≤ e) → (d ≤ e → a ≤ b) → leb a b ≡ leb d e
same_test a b d e f g =
    cases (leb a b) (λ t. t ∙ sym (le-leb d e (f (leb-true a b t))))
    (λ u. u ∙ sym (lt-leb d e (cases (leb d e) (λ t. absurd (clash _ (le-leb a b (g (leb-true d e t))) u)) (leb-false d e))))

turned : (b e : Bool) → ((((true && b) && true) && true) && e) ≡ (e && b)
turned true true = refl
turned true false = refl
turned false true = refl
turned false false = refl

-- What is written stands at the front.
module _ (text before cells : List ℕ) (e : cells ≡ written text before) {n : ℕ} (count : n ≡ length text) where
  front : take n cells ≡ text
  front = rw e (take_at text (drop (length text) before) n (sym count))

  front-inside : n ≤ length cells
  front-inside = omega (arith, count, ap length e ∙ length-append text (drop (length text) before))

-- The cells that nations are lent have these lengths.
pub record LentFor (cells : NationCells) : Type 0 where
  pub nations : length cells.nations ≡ nation_width * most_countries
  pub entries : length cells.entries ≡ entry_width * MOST_PAGE_ENTRIES
  pub holders : length cells.holders ≡ most_slots
  pub held : length cells.held ≡ most_countries
  pub changes : length cells.changes ≡ change_width * MOST_PAGE_CHANGES

module _ (lent : NationCells) (l : LentFor lent) (xs : List ℕ) (z : refusal xs ≡ 0) where
  abbrev c : Campaign
  c = campaign_of xs

  small : SmallCounts (counts_of (answers_of c))
  small = counts-small xs z

  abbrev under_limits : Bool
  under_limits = leb (length (changes_of c)) 4000 && leb (length (join_of (λ n. n.entries) (nations_of c))) 5000

  -- Nations, slots and countries always have room; entries and changes up to the limits.
  nations-fit : leb (length (nation_words (nations_of c))) (length lent.nations) ≡ true
  unfolding counts_of answers_of
  nations-fit = le-leb (length (nation_words (nations_of c))) (length lent.nations) (omega (arith, length-nation_words (nations_of c), l.nations, small.nations))

  entries_fit : leb (length (entry_words (nations_of c))) (length lent.entries) ≡ leb (length (join_of (λ n. n.entries) (nations_of c))) 5000
  entries_fit = same_test (length (entry_words (nations_of c))) (length lent.entries) (length (join_of (λ n. n.entries) (nations_of c))) 5000 (λ h. omega (arith, length-entry_words (nations_of c), l.entries, h)) (λ h. omega (arith, length-entry_words (nations_of c), l.entries, h))

  holders-fit : leb (length (map holder_word (holders_of c))) (length lent.holders) ≡ true
  unfolding counts_of answers_of
  holders-fit = le-leb (length (map holder_word (holders_of c))) (length lent.holders) (omega (arith, length-map (holders_of c) holder_word, l.holders, small.slots))

  held-fit : leb (length (held_of c)) (length lent.held) ≡ true
  unfolding counts_of answers_of
  held-fit = le-leb (length (held_of c)) (length lent.held) (omega (arith, l.held, small.countries))

  changes-fit : leb (length (change_rows (changes_of c))) (length lent.changes) ≡ leb (length (changes_of c)) 4000
  changes-fit = same_test (length (change_rows (changes_of c))) (length lent.changes) (length (changes_of c)) 4000 (λ h. omega (arith, length-change_rows (changes_of c), l.changes, h)) (λ h. omega (arith, length-change_rows (changes_of c), l.changes, h))

  fit : all_fit (cells_of (answers_of c)) lent ≡ under_limits
  unfolding cells_of answers_of
  fit = rw (nations-fit, entries_fit, holders-fit, held-fit, changes-fit) (turned (leb (length (join_of (λ n. n.entries) (nations_of c))) 5000) (leb (length (changes_of c)) 4000))

  number : limits_number c ≡ cond (all_fit (cells_of (answers_of c)) lent) 0 10
  unfolding limits_number
  number = ap (λ b. cond b 0 10) (sym fit)

  module _ {m : NationCells} where
    -- Refused: past the limits.
    pub over : {n : ℕ} → record { answer = refused n; memory = m } ≡ call_nation_events xs lent → limits_number c ≡ 10
    over e =
        cases (all_fit (cells_of (answers_of c)) lent)
        (λ t. absurd (not-refused _ _ (ap (λ o. o.answer) (e ∙ sym (nations-rows xs lent (counts_of (answers_of c)) (all_written (cells_of (answers_of c)) lent) z t refl refl)))))
        (λ f. number ∙ ap (λ b. cond b 0 10) f)

    -- Answered: within them, and the words stand at the front of their cells.
    pub listed : {r : NationCounts} → record { answer = gives r; memory = m } ≡ call_nation_events xs lent
        → (limits_number c ≡ 0) × (r ≡ counts_of (answers_of c)) × (m ≡ all_written (cells_of (answers_of c)) lent)
    listed e =
        cases (all_fit (cells_of (answers_of c)) lent)
        (λ t.
        let given = e ∙ sym (nations-rows xs lent (counts_of (answers_of c)) (all_written (cells_of (answers_of c)) lent) z t refl refl) in
        (number ∙ ap (λ b. cond b 0 10) t, same_gives _ _ (ap (λ o. o.answer) given), ap (λ o. o.memory) given))
        (λ f. absurd (not-refused _ _ (sym (ap (λ o. o.answer) (e ∙ sym (nations-short xs lent z f))))))

    -- How many nations and entries there are: all of them within their cells, and their words at the front.
    module _ {r : NationCounts} (given : record { answer = gives r; memory = m } ≡ call_nation_events xs lent) where
      abbrev ns : List Nation
      ns = nations_of c

      nation-count : nation_width * r.nations ≡ length (nation_words ns)
      unfolding counts_of answers_of
      nation-count = ap (λ (d : NationCounts). nation_width * d.nations) (listed given).1 ∙ sym (length-nation_words ns)

      entry-count : entry_width * r.entries ≡ length (entry_words ns)
      unfolding counts_of answers_of
      entry-count = ap (λ (d : NationCounts). entry_width * d.entries) (listed given).1 ∙ sym (length-entry_words ns)

      nation-cells : m.nations ≡ written (nation_words ns) lent.nations
      unfolding cells_of answers_of
      nation-cells = ap (λ (d : NationCells). d.nations) (listed given).2

      entry-cells : m.entries ≡ written (entry_words ns) lent.entries
      unfolding cells_of answers_of
      entry-cells = ap (λ (d : NationCells). d.entries) (listed given).2

      pub nations-inside : nation_width * r.nations ≤ length m.nations
      nations-inside = front-inside (nation_words ns) lent.nations m.nations nation-cells nation-count

      pub entries-inside : entry_width * r.entries ≤ length m.entries
      entries-inside = front-inside (entry_words ns) lent.entries m.entries entry-cells entry-count

      pub limits-kept : limits_number c ≡ 0
      limits-kept = (listed given).0

      pub nation-front : take (nation_width * r.nations) m.nations ≡ nation_words (nations_of c)
      nation-front = front (nation_words ns) lent.nations m.nations nation-cells nation-count

      pub entry-front : take (entry_width * r.entries) m.entries ≡ entry_words (nations_of c)
      entry-front = front (entry_words ns) lent.entries m.entries entry-cells entry-count

      pub counts-short : (nation_width * r.nations ≤ nation_width * most_countries) × (entry_width * r.entries ≤ entry_width * most_entries)
      counts-short =
          let q = nations-given xs lent r (ap (λ o. o.answer) given) in
          let a = q.nations in
          let b = q.entries in
          (omega arith, omega arith)
