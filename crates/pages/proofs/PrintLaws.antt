-- What the program prints, from the outcome of the page's call: with room for every page only the page's number refuses.
use mathlib.Core.Path.{◌≡◌, refl, sym, ap, ◌∙◌}
use mathlib.Core.List.{List, [], ◌∷◌}
use mathlib.Core.Option.{Option, none, some}
use Prim.Native.Nat.{ℕ, zero, suc, ◌≤◌, ◌<◌}
use native.Mathlib.Omega.{arith}
use borrow.Author.Tests.{le-leb, lt-leb, leb-true, leb-false}
use lib.Dec.{leb}
use lib.ListN.{length, drop, length-append}
use Rattle.lists.proofs.BoolLaws.{cases}
use Rattle.format.specs.Campaign.{campaign_of}
use Rattle.std.specs.Prelude as code
use Rattle.std.specs.Prelude.{Ok, Err, Some, None, IsSome}
use Rattle.std.proofs.Common.{rules}
use Rattle.format.specs.declared.refused.Refusal.{Refusal}
use Rattle.format.specs.declared.refused.Refusal.TheVariants.{NotARecord, UnknownVersion, SizesDisagree, BadTag, BadDate, UndefinedFlag, Repeated, DatesReversed, LedgerYear, NoRoom, NotWellShaped, BadQuestion, NoSuchNation}
use Rattle.format.specs.RefusalNumber.{refusal_number}
use Rattle.format.specs.RecordNumber.{refusal}
use Rattle.record.proofs.ToldLaws.{refusal_above}
use Rattle.format.proofs.FirstLaws.{first-zero, first_one}
use Rattle.rules.specs.Lent.{refused, gives, answered, written, room_number}
use Rattle.rules.specs.Page.{selection_of, line, digits}
use Rattle.rules.specs.PageOutcomes.{bytes_number, selection_number, limits_number, page_number, page_of, call_page, refused_line, printed, call_program}
use Rattle.rules.proofs.LentLaws.{outcome-refused, outcome-gives}
use Rattle.pages.proofs.AnswerLaws.{not-refused, same_gives}
use Rattle.pages.proofs.OutcomeLaws.{lines-short, lines-written}
use Rattle.pages.specs.Texts.{call_lines}
use Rattle.pages.specs.Steps.{Paged}
use Rattle.pages.specs.Printing.{most_printed, call_print}
use Rattle.pages.proofs.PagingLaws.{refused-by, number_passed, given_by, short-by}
use Rattle.pages.proofs.SizeLaws.{page-length}

module _ (xs selection : List ℕ) where
  -- A page without a number is not too long.
  pub page-within : page_number xs selection ≡ 0 → length (page_of xs selection) ≤ most_printed
  unfolding page_number
  page-within z =
      let a = first-zero (bytes_number xs selection) (refusal xs ∷ selection_number (selection_of selection) ∷ limits_number (campaign_of xs) ∷ []) z in
      let b = first-zero (refusal xs) (selection_number (selection_of selection) ∷ limits_number (campaign_of xs) ∷ []) a.1 in
      let c = first-zero (selection_number (selection_of selection)) (limits_number (campaign_of xs) ∷ []) b.1 in
      page-length xs selection a.0 (sym (first_one (limits_number (campaign_of xs))) ∙ c.1)

  -- What the call gives is a page's length.
  few-case : (before : List ℕ) (m : ℕ) → page_number xs selection ≡ m → (n : ℕ) → gives n ≡ (call_page xs selection before).answer → n ≤ most_printed
  few-case before zero z n e =
      cases (leb (length (page_of xs selection)) (length before))
      (λ t.
      let told = given_by xs selection before z (leb-true (length (page_of xs selection)) (length before) t) in
      omega (arith, page-within z, same_gives _ _ (e ∙ sym (ap (λ o. o.answer) told))))
      (λ f.
      let told = short-by xs selection before z (leb-false (length (page_of xs selection)) (length before) f) in
      absurd (not-refused _ _ (ap (λ o. o.answer) told ∙ sym e)))
  few-case before (suc m) z n e =
      absurd (not-refused _ _ (ap (λ o. o.answer) (refused-by xs selection before (suc m) (omega arith) z) ∙ sym e))

  pub page-few : (before : List ℕ) (n : ℕ) → gives n ≡ (call_page xs selection before).answer → n ≤ most_printed
  page-few before = few-case before (page_number xs selection) refl

  -- By the page's number.
  pub prints-page : page_number xs selection ≡ 0 → call_program (some xs) selection ≡ page_of xs selection
  unfolding call_program
  prints-page z = ap (λ n. printed (answered n (page_of xs selection))) z

  pub prints-number : (n : ℕ) → 0 < n → page_number xs selection ≡ n → call_program (some xs) selection ≡ refused_line n
  unfolding call_program
  prints-number zero p e = absurd (omega arith)
  prints-number (suc n) p e = ap (λ m. printed (answered m (page_of xs selection))) e

-- A refused page prints its line, a page that was written or has no room its text.
module _ (xs selection before : List ℕ) where
  pub printed-page : page_number xs selection ≡ 0 → call_lines (call_program (some xs) selection) before ≡ call_page xs selection before
  printed-page z = ap (λ t. call_lines t before) (prints-page xs selection z) ∙ number_passed xs selection before z

  -- With room for every page there is room for this one.
  pub page-given : (r : code.Option ℕ) (after : List ℕ) → Paged xs selection before (Ok r) after → most_printed ≤ length before → IsSome r
  page-given (Some n) after p h = search rules
  page-given None after p h =
      let z = sym p.number in
      let given = given_by xs selection before z (omega (arith, h, page-within xs selection z)) in
      absurd (not-refused _ _ (ap (λ o. o.answer) (p.outcome ∙ sym given)))

  -- The line of a refusal stands where nothing was written.
  pub printed-line : (e : Refusal) (after : List ℕ) → Paged xs selection before (Err e) after
      → call_lines (refused_line (refusal_number e)) after ≡ call_lines (call_program (some xs) selection) before
  printed-line e after p =
      let told = p.outcome ∙ sym (refused-by xs selection before (refusal_number e) (refusal_above e) (sym p.number)) in
      ap (call_lines (refused_line (refusal_number e))) (ap (λ o. o.memory) told)
      ∙ ap (λ t. call_lines t before) (sym (prints-number xs selection (refusal_number e) (refusal_above e) (sym p.number)))

-- The line of a refusal is short.
pub line-short : (e : Refusal) → length (refused_line (refusal_number e)) ≤ most_printed
unfolding line digits
line-short NotARecord = omega arith
line-short UnknownVersion = omega arith
line-short SizesDisagree = omega arith
line-short BadTag = omega arith
line-short BadDate = omega arith
line-short UndefinedFlag = omega arith
line-short Repeated = omega arith
line-short DatesReversed = omega arith
line-short LedgerYear = omega arith
line-short NoRoom = omega arith
line-short NotWellShaped = omega arith
line-short BadQuestion = omega arith
line-short NoSuchNation = omega arith

-- What is counted stands in the slice.
pub print-inside : (file : Option (List ℕ)) (selection before : List ℕ) (n : ℕ) (after : List ℕ)
    → record { answer = gives n; memory = after } ≡ call_print file selection before → n ≤ length after
unfolding call_print
print-inside file selection before n after e =
    let text = call_program file selection in
    cases (leb (length text) (length before))
    (λ t.
    let told = e ∙ sym (lines-written text before (length text) (written text before) (leb-true (length text) (length before) t) refl refl) in
    let long = ap (λ o. length o.memory) told ∙ length-append text (drop (length text) before) in
    omega (arith, long, same_gives _ _ (ap (λ o. o.answer) told)))
    (λ f. absurd (not-refused _ _ (ap (λ o. o.answer) (lines-short text before (leb-false (length text) (length before) f) ∙ sym e))))

-- A file that cannot be read counts as one without bytes.
pub prints-unread : (selection : List ℕ) → call_program none selection ≡ call_program (some []) selection
unfolding call_program
prints-unread selection = refl
