-- The answers of the four forms, by case: refused by a number, or what is told of the nation of the best claim.
use mathlib.Core.Path.{◌≡◌, refl, sym, ap, ◌∙◌}
use mathlib.Core.Bool.{Bool, true, false, cond, ◌&&◌}
use mathlib.Core.List
use mathlib.Core.List.{List, [], ◌∷◌}
use mathlib.Core.Option.{Option, none, some, map}
use Rattle.std.specs.Prelude as code
use Rattle.std.specs.Prelude.{Ok, Err, IsErr, IsErrAnd}
use Prim.Native.Nat.{ℕ, ◌<◌}
use native.Mathlib.Omega.{arith}
use Rattle.std.specs.List.{list_all}
use Rattle.lists.proofs.BoolLaws.{cases}
use Rattle.format.specs.declared.tag.CountryTag.{CountryTag}
use Rattle.format.specs.declared.date.Eu4Date.{Eu4Date}
use Rattle.format.specs.RecordNumber.{first_of}
use Rattle.format.specs.Tags.{is_tag}
use Rattle.format.specs.Dates.{good_date}
use Rattle.format.specs.declared.refused.Refusal.{Refusal}
use Rattle.format.specs.RefusalNumber.{refusal_number}
use Rattle.format.proofs.FirstLaws.{first-zero, first-pass, first-stop}
use Rattle.format.proofs.RefusalNumberLaws.{refuses}
use Rattle.rules.specs.Lent.{refused, gives, answered, answer_of}
use Rattle.rules.specs.NationRows.{well_shaped}
use Rattle.rules.specs.CallNumbers.{chronicle_number, asked_tag_number, asked_date_number}
use Rattle.format.specs.declared.values.TagData.{TagData}
use Rattle.rules.specs.Resolver.{plain_data, day_data, switched_data, resolve, initial, resolve_on, initial_on}
use Rattle.rules.specs.Outcomes.{call_resolve, call_initial, call_resolve_on, call_initial_on}
use Rattle.rules.proofs.LentLaws.{answered-refused, answered-gives}
use Rattle.resolver.specs.declared.claims.Claim.{Claim}
use Rattle.resolver.specs.Claims.{initial_claims, claims_in, best_of, last_to, plain_of}
use Rattle.lists.specs.Options.{option_of}
use Rattle.resolver.specs.Found.{asked_number, day_of, switched_of}
use Rattle.resolver.proofs.ResolvedLaws.{claim_nation, map-twice, claim-resolved, claim-initial}

-- ## The tests of a question

-- All dates are tested as one.
dates_number : (dates : List Eu4Date) → first_of (List.map (λ (d : Eu4Date). asked_date_number d.0) dates) ≡ cond (list_all good_date dates) 0 12
unfolding first_of good_date
dates_number [] = refl
dates_number (d ∷ dates) = cases (good_date d) (λ h. simp h (dates_number dates)) (λ h. simp h)

module _ (ws es : List ℕ) (tag : CountryTag) (dates : List Eu4Date) where
  -- What `open` refused.
  pub asked-torn : (n : ℕ) → 0 < n → n ≡ cond (well_shaped ws es) 0 11 → n ≡ asked_number ws es tag dates
  asked-torn n more e = e ∙ sym (first-stop (chronicle_number ws es) _ (λ z. omega (arith, e)))

  -- The chronicle is well shaped, and t and d say whether the tag and all dates are good.
  module _ (e : ◌≡◌ {A = ℕ} 0 (cond (well_shaped ws es) 0 11)) (t d : Bool) (f : t ≡ is_tag tag) (g : d ≡ list_all good_date dates) where
    tag-number : (b : Bool) (ns : List ℕ) → first_of (cond b 0 12 ∷ ns) ≡ cond b (first_of ns) 12
    unfolding first_of
    tag-number true ns = refl
    tag-number false ns = refl

    joined : (a b : Bool) → ◌≡◌ {A = ℕ} (cond a (cond b 0 12) 12) (cond (a && b) 0 12)
    joined true b = refl
    joined false b = refl

    asked-whole : asked_number ws es tag dates ≡ cond (t && d) 0 12
    asked-whole =
        first-pass (chronicle_number ws es) _ (sym e) ∙ tag-number (is_tag tag) _
        ∙ rw (dates_number dates, ← f, ← g) (joined t d)

    pub asked-bad : (t && d) ≡ false → 12 ≡ asked_number ws es tag dates
    asked-bad k = sym (asked-whole ∙ ap (λ (b : Bool). cond b 0 12) k)

    pub asked-good : (t && d) ≡ true → 0 ≡ asked_number ws es tag dates
    asked-good k = sym (asked-whole ∙ ap (λ (b : Bool). cond b 0 12) k)

-- A day's test in front of the tag's or behind it: both refuse by 12.
day-first : (a b c : Bool) (ns : List ℕ) → first_of (cond a 0 11 ∷ cond b 0 12 ∷ cond c 0 12 ∷ ns) ≡ first_of (cond a 0 11 ∷ cond c 0 12 ∷ cond b 0 12 ∷ ns)
unfolding first_of
day-first false b c ns = refl
day-first true false false ns = refl
day-first true false true ns = refl
day-first true true false ns = refl
day-first true true true ns = refl

module _ (ws es : List ℕ) (day : Eu4Date) (tag : CountryTag) (dates : List Eu4Date) where
  pub day-in-front : asked_number ws es tag (day ∷ dates) ≡ first_of (chronicle_number ws es ∷ asked_date_number day.0 ∷ asked_tag_number tag.0 ∷ List.map (λ (d : Eu4Date). asked_date_number d.0) dates)
  day-in-front = sym (day-first (well_shaped ws es) (good_date day) (is_tag tag) (List.map (λ (d : Eu4Date). asked_date_number d.0) dates))

-- What `?` returns, where a test refused.
pub question-refused : (r : code.Result (code.Option TagData) Refusal) (e : Refusal) (n : ℕ) (values : Option TagData) → IsErr r × IsErrAnd r (λ x. x ≡ e)
    → refusal_number e ≡ n → answer_of option_of r ≡ answered n values
question-refused (Ok x) e n values h k = absurd h.1
question-refused (Err x) e n values h k = rw h.1 (ap refused k ∙ sym (answered-refused n values (omega (arith, k, refuses e))))

shaped : (ws es : List ℕ) (ns : List ℕ) → first_of (chronicle_number ws es ∷ ns) ≡ 0 → well_shaped ws es ≡ true
shaped ws es ns h = go (well_shaped ws es) (first-zero (chronicle_number ws es) ns h).0
  where
    go : (b : Bool) → ◌≡◌ {A = ℕ} (cond b 0 11) 0 → b ≡ true
    go true e = refl
    go false e = absurd (omega arith)

-- ## The four forms

module _ (ws es : List ℕ) (best : Option Claim) where
  module _ (tag : CountryTag) (date : Eu4Date) (b : best ≡ best_of tag date (claims_in ws es)) where
    pub resolve-gives : 0 ≡ first_of (chronicle_number ws es ∷ asked_tag_number tag.0 ∷ asked_date_number date.0 ∷ [])
        → gives (map (plain_of ws) best) ≡ call_resolve ws es tag.0 date.0
    unfolding call_resolve resolve
    resolve-gives e =
        sym (answered-gives _ _ (sym e)
        ∙ ap gives (ap (map plain_data) (sym (claim-resolved ws es tag date (shaped ws es _ (sym e))) ∙ ap (map (claim_nation ws es)) (sym b)) ∙ map-twice (claim_nation ws es) plain_data best))

    pub resolve-on-gives : (day : Eu4Date) → 0 ≡ first_of (chronicle_number ws es ∷ asked_date_number day.0 ∷ asked_tag_number tag.0 ∷ asked_date_number date.0 ∷ [])
        → gives (map (day_of ws es day) best) ≡ call_resolve_on ws es day.0 tag.0 date.0
    unfolding call_resolve_on resolve_on
    resolve-on-gives day e =
        sym (answered-gives _ _ (sym e)
        ∙ ap gives (ap (map (day_data day)) (sym (claim-resolved ws es tag date (shaped ws es _ (sym e))) ∙ ap (map (claim_nation ws es)) (sym b)) ∙ map-twice (claim_nation ws es) (day_data day) best))

  module _ (tag : CountryTag) (b : best ≡ last_to tag (initial_claims ws)) where
    pub initial-gives : 0 ≡ first_of (chronicle_number ws es ∷ asked_tag_number tag.0 ∷ [])
        → gives (map (plain_of ws) best) ≡ call_initial ws es tag.0
    unfolding call_initial initial
    initial-gives e =
        sym (answered-gives _ _ (sym e)
        ∙ ap gives (ap (map plain_data) (sym (claim-initial ws es tag (shaped ws es _ (sym e))) ∙ ap (map (claim_nation ws es)) (sym b)) ∙ map-twice (claim_nation ws es) plain_data best))

    pub initial-on-gives : (day : Eu4Date) → 0 ≡ first_of (chronicle_number ws es ∷ asked_date_number day.0 ∷ asked_tag_number tag.0 ∷ [])
        → gives (switched_of ws es day best) ≡ call_initial_on ws es day.0 tag.0
    unfolding call_initial_on initial_on
    initial-on-gives day e =
        sym (answered-gives _ _ (sym e)
        ∙ ap gives (ap (switched_data day) (sym (claim-initial ws es tag (shaped ws es _ (sym e))) ∙ ap (map (claim_nation ws es)) (sym b)) ∙ switched-claim best))
      where
        switched-claim : (o : Option Claim) → switched_data day (map (claim_nation ws es) o) ≡ switched_of ws es day o
        switched-claim none = refl
        switched-claim (some c) = refl
