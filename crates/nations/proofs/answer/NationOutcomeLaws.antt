-- The outcome of `nation_events`, by case: the record's number, too short a slice, or the rows.
use mathlib.Core.Path.{◌≡◌, sym, ap, ap₂, ◌∙◌}
use mathlib.Core.Bool.{Bool, true, false, ◌&&◌}
use mathlib.Core.List.{List, [], ◌∷◌}
use Prim.Native.Nat.{ℕ, suc, ◌*◌, ◌≤◌, ◌<◌}
use native.Mathlib.Omega.{arith}
use lib.Dec.{leb}
use lib.ListN.{length, length-map}
use Rattle.lists.specs.Lists.{count_of, numbers_from}
use Rattle.lists.proofs.ListLaws.{length-numbers}
use Rattle.format.specs.declared.rows.ProvinceId.{ProvinceId}
use Rattle.format.specs.Campaign.{Campaign, campaign_of}
use Rattle.format.specs.RecordNumber.{refusal, first_of}
use Rattle.format.proofs.FirstLaws.{first-stop, first-pass, first_one, first-zero}
use Rattle.rules.specs.Changes.{change_width}
use Rattle.owner_changes.specs.ChangeSteps.{most_changes}
use Rattle.nation_tables.specs.Layout.{most_countries, most_slots}
use Rattle.rules.specs.Lent.{refused, gives, room_number}
use Rattle.rules.specs.Nations.{matches, slots_of, moves_of, last_holder, holders_of, held_of}
use Rattle.rules.specs.NationRows.{holder_word, nation_width, entry_width}
use Rattle.format.specs.declared.values.NationCounts.{NationCounts}
use Rattle.rules.specs.Outcomes.{Answers, answers_of, NationCells, cells_of, all_fit, all_written, counts_of, call_nation_events}
use Rattle.rules.proofs.RowLaws.{length-nation_words, length-entry_words, length-change_rows}
use Rattle.rules.proofs.LentLaws.{outcome-refused, outcome-gives, answered-given}
use Rattle.owner_changes.proofs.ChangeLaws.{changes-few}
use Rattle.nation_tables.proofs.tables.KeyedLaws.{countries-few, provinces-few}
use Rattle.nations.proofs.answer.NationSizeLaws.{most_entries, nations-few, entries-few}

-- ## Room

-- The counts tell whether the cells fit.
pub room_fits : (a : Answers) (r : NationCounts) (before : NationCells) → r ≡ counts_of a
    → (leb (nation_width * r.nations) (length before.nations)
    && leb (entry_width * r.entries) (length before.entries)
    && leb r.slots (length before.holders)
    && leb r.countries (length before.held)
    && leb (change_width * r.changes) (length before.changes))
    ≡ all_fit (cells_of a) before
unfolding counts_of cells_of
room_fits a r before e =
    and
    (and
    (and
    (and
    (same _ (ap (λ (x : NationCounts). nation_width * x.nations) e ∙ sym (length-nation_words a.nations)))
    (same _ (ap (λ (x : NationCounts). entry_width * x.entries) e ∙ sym (length-entry_words a.nations))))
    (same _ (ap (λ (x : NationCounts). x.slots) e ∙ sym (length-map a.holders holder_word))))
    (same _ (ap (λ (x : NationCounts). x.countries) e)))
    (same _ (ap (λ (x : NationCounts). change_width * x.changes) e ∙ sym (length-change_rows a.changes)))
  where
    same : {m n : ℕ} (k : ℕ) → m ≡ n → leb m k ≡ leb n k
    same k h = ap (λ (j : ℕ). leb j k) h

    and : {p q s t : Bool} → p ≡ q → s ≡ t → (p && s) ≡ (q && t)
    and g h = ap₂ ◌&&◌ g h

-- ## The cases

module _ (xs : List ℕ) (before : NationCells) where
  abbrev answers : Answers
  answers = answers_of (campaign_of xs)

  number : ℕ
  number = first_of (refusal xs ∷ room_number (all_fit (cells_of answers) before) ∷ [])

  pub nations-refused : (n : ℕ) → 0 < n → n ≡ refusal xs → record { answer = refused n; memory = before } ≡ call_nation_events xs before
  unfolding call_nation_events number
  nations-refused n p e =
      let first : number ≡ n = first-stop (refusal xs) _ (λ z. omega arith) ∙ sym e in
      sym (rw first (outcome-refused n (counts_of answers) (all_written (cells_of answers) before) before p))

  pub nations-short : refusal xs ≡ 0 → all_fit (cells_of (answers_of (campaign_of xs))) before ≡ false
      → record { answer = refused 10; memory = before } ≡ call_nation_events xs before
  unfolding call_nation_events number
  nations-short z h =
      let first : number ≡ 10 = first-pass (refusal xs) _ z ∙ first_one _ ∙ ap room_number h in
      sym (rw first (outcome-refused 10 (counts_of answers) (all_written (cells_of answers) before) before (omega arith)))

  pub nations-rows : (counts : NationCounts) (after : NationCells) → refusal xs ≡ 0 → all_fit (cells_of (answers_of (campaign_of xs))) before ≡ true
      → counts ≡ counts_of (answers_of (campaign_of xs)) → after ≡ all_written (cells_of (answers_of (campaign_of xs))) before
      → record { answer = gives counts; memory = after } ≡ call_nation_events xs before
  unfolding call_nation_events number
  nations-rows counts after z h c e =
      let first : number ≡ 0 = first-pass (refusal xs) _ z ∙ first_one _ ∙ ap room_number h in
      sym (rw (c, e) (outcome-gives number (counts_of answers) (all_written (cells_of answers) before) before first))

-- ## Sizes

-- What is counted is small.
pub record SmallCounts (r : NationCounts) : Type 0 where
  pub nations : r.nations ≤ most_countries
  pub entries : r.entries ≤ most_entries
  pub slots : r.slots ≤ most_slots
  pub countries : r.countries ≤ most_countries
  pub changes : r.changes ≤ most_changes

pub counts-small : (xs : List ℕ) → refusal xs ≡ 0 → SmallCounts (counts_of (answers_of (campaign_of xs)))
unfolding counts_of answers_of holders_of held_of slots_of
counts-small xs z =
    let c : Campaign = campaign_of xs in
    record {
      nations = nations-few xs z;
      entries = entries-few xs z;
      slots =
          let p = provinces-few xs z in
          omega (
            arith,
            length-map (slots_of c) (λ slot. last_holder c slot (moves_of c)),
            length-map {B = ProvinceId} (numbers_from 0 (suc (length c.provinces))) (λ (n : ℕ). record { 0 = n }),
            length-numbers 0 (suc (length c.provinces)),
          );
      countries =
          let k = countries-few xs z in
          omega (arith, length-map c.countries (λ k. count_of (matches k.tag) (holders_of c)));
      changes = changes-few xs z;
    }

-- So are the counts of an answer.
pub nations-given : (xs : List ℕ) (before : NationCells) (counts : NationCounts) → gives counts ≡ (call_nation_events xs before).answer → SmallCounts counts
unfolding call_nation_events
nations-given xs before counts e =
    let g = answered-given (first_of (refusal xs ∷ room_number (all_fit (cells_of (answers_of (campaign_of xs))) before) ∷ [])) (counts_of (answers_of (campaign_of xs))) counts e in
    rw g.1 (counts-small xs (first-zero (refusal xs) _ g.0).0)
