-- The outcome of a page, by case.
use mathlib.Core.Path.{◌≡◌, refl, sym, ap, ◌∙◌}
use mathlib.Core.List.{List, [], ◌∷◌}
use Prim.Native.Nat.{ℕ, ◌≤◌, ◌<◌}
use native.Mathlib.Omega.{arith}
use lib.ListN.{length}
use Rattle.format.specs.Campaign.{campaign_of}
use Rattle.std.specs.Prelude as code
use Rattle.std.specs.Prelude.{Ok, Err, Some, None}
use Rattle.format.specs.declared.refused.Refusal.{Refusal}
use Rattle.format.specs.RecordNumber.{refusal, first_of}
use Rattle.format.specs.RefusalNumber.{refusal_number}
use Rattle.format.proofs.FirstLaws.{first-stop, first-pass, first_one}
use Rattle.record.proofs.ToldLaws.{refusal_above}
use Rattle.rules.specs.Lent.{refused, gives, written, fits, room_number, outcome}
use Rattle.rules.specs.Page.{selection_of}
use Rattle.rules.specs.PageOutcomes.{bytes_number, selection_number, limits_number, page_number, page_of, call_page}
use Rattle.rules.proofs.LentLaws.{outcome-refused}
use Rattle.pages.specs.Texts.{lines_outcome, call_lines}
use Rattle.pages.proofs.OutcomeLaws.{lines-short, lines-written}
use Rattle.pages.specs.Steps.{paged_outcome, Paged}

-- Neither is too long, the record is accepted, and the selection is tags.
pub record PageBegun (xs selection : List ℕ) : Type 0 where
  pub few : bytes_number xs selection ≡ 0
  pub accepted : refusal xs ≡ 0
  pub tags : selection_number (selection_of selection) ≡ 0

-- A text that has room or not, as a page that was asked for.
paged-lines : (r : code.Option ℕ) (after : List ℕ) → paged_outcome (Ok r) after ≡ lines_outcome r after
paged-lines (Some n) after = refl
paged-lines None after = refl

module _ (xs selection before : List ℕ) where
  abbrev text : List ℕ
  text = page_of xs selection

  -- Refused by the page's number; without one, written where there is room.
  pub refused-by : (n : ℕ) → 0 < n → page_number xs selection ≡ n → record { answer = refused n; memory = before } ≡ call_page xs selection before
  unfolding call_page
  refused-by n p e =
      let first : first_of (page_number xs selection ∷ room_number (fits text before) ∷ []) ≡ n = first-stop (page_number xs selection) _ (λ z. omega (arith, z, e, p)) ∙ e in
      sym (rw first (outcome-refused n (length text) (written text before) before p))

  module _ (z : page_number xs selection ≡ 0) where
    number : first_of (page_number xs selection ∷ room_number (fits text before) ∷ []) ≡ room_number (fits text before)
    number = first-pass (page_number xs selection) _ z ∙ first_one _

    -- Only the room is left to be asked for.
    pub number_passed : call_lines (page_of xs selection) before ≡ call_page xs selection before
    unfolding call_page
    number_passed = ap (λ n. outcome n (length text) (written text before) before) (sym number)

    pub given_by : length (page_of xs selection) ≤ length before
        → record { answer = gives (length (page_of xs selection)); memory = written (page_of xs selection) before } ≡ call_page xs selection before
    given_by h = lines-written text before (length text) (written text before) h refl refl ∙ number_passed

    pub short-by : length before < length (page_of xs selection) → record { answer = refused 10; memory = before } ≡ call_page xs selection before
    short-by h = lines-short text before h ∙ number_passed

  -- Refused by a refusal that has the page's number.
  pub paged-refused : (e : Refusal) → refusal_number e ≡ page_number xs selection → Paged xs selection before (Err e) before
  paged-refused e h = record { number = h; outcome = refused-by (refusal_number e) (refusal_above e) (sym h) }

module _ (xs selection : List ℕ) where
  -- Too many bytes are found first.
  pub number-many : bytes_number xs selection ≡ 10 → 10 ≡ page_number xs selection
  unfolding page_number
  number-many e = sym (first-stop (bytes_number xs selection) _ (λ z. omega (arith, z, e)) ∙ e)

  module _ (few : bytes_number xs selection ≡ 0) where
    pub number-bad : (e : Refusal) → refusal_number e ≡ refusal xs → refusal_number e ≡ page_number xs selection
    unfolding page_number
    number-bad e h =
        h ∙ sym (first-pass (bytes_number xs selection) _ few ∙ first-stop (refusal xs) _ (λ z. omega (arith, z, h, refusal_above e)))

    pub number-no-tags : refusal xs ≡ 0 → selection_number (selection_of selection) ≡ 12 → 12 ≡ page_number xs selection
    unfolding page_number
    number-no-tags z e =
        sym
        (first-pass (bytes_number xs selection) _ few ∙ first-pass (refusal xs) _ z
        ∙ first-stop (selection_number (selection_of selection)) _ (λ q. omega (arith, q, e))
        ∙ e)

  module _ (b : PageBegun xs selection) where
    pub number-left : page_number xs selection ≡ limits_number (campaign_of xs)
    unfolding page_number
    number-left =
        first-pass (bytes_number xs selection) _ b.few ∙ first-pass (refusal xs) _ b.accepted
        ∙ first-pass (selection_number (selection_of selection)) _ b.tags
        ∙ first_one (limits_number (campaign_of xs))

    -- Within the limits it is its text, or has no room.
    pub paged-text : (before : List ℕ) → limits_number (campaign_of xs) ≡ 0 → (r : code.Option ℕ) (after : List ℕ)
        → lines_outcome r after ≡ call_lines (page_of xs selection) before → Paged xs selection before (Ok r) after
    paged-text before w r after e =
        let z = number-left ∙ w in record { number = sym z; outcome = paged-lines r after ∙ e ∙ number_passed xs selection before z }
