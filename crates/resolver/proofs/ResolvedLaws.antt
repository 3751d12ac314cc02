-- The nation of the best claim is the nation that the rules find.
use mathlib.Core.Path.{◌≡◌, refl, sym, ap, ap₂, ◌∙◌}
use mathlib.Core.Bool.{Bool, true, cond, not, ◌&&◌}
use mathlib.Core.List.{List, [], ◌∷◌, ◌++◌, map}
use mathlib.Core.Option
use mathlib.Core.Option.{Option, none, some}
use Prim.Native.Nat.{ℕ, ◌<◌}
use native.Mathlib.Omega.{arith}
use borrow.Author.Tests.{ltb-true, ltb-false, leb-true, le-leb, lt-leb, lt-ltb}
use lib.Dec.{leb, ltb}
use lib.ListN.{length}
use Rattle.lists.specs.Lists.{All, keep, join_of, last_or, last, or_else, greater_of, greatest, numbers_from}
use Rattle.lists.proofs.BoolLaws.{cases, and_left}
use Rattle.lists.proofs.ListLaws.{all_map, all_append, all_keep, all-last, all_of_map, keep_append, keep-none, map-append}
use Rattle.lists.proofs.ElementLaws.{keep_all, keep-map}
use Rattle.format.specs.declared.tag.CountryTag.{CountryTag}
use Rattle.format.specs.declared.date.Eu4Date.{Eu4Date}
use Rattle.format.specs.Tags.{same_tag}
use Rattle.format.specs.Dates.{not_after, good_date, year}
use Rattle.format.specs.declared.values.EntryKind.{EntryKind}
use Rattle.format.specs.declared.values.Entry.{Entry}
use Rattle.format.specs.declared.values.EntryKind.TheVariants.{TagSwitch, Appeared, Annexed}
use Rattle.rules.specs.Chronicle.{Nation}
use Rattle.rules.specs.NationRows.{nation_rows_in, nations_in, kind_shaped, well_shaped}
use Rattle.rules.specs.Resolver.{Hit, is_switch_to, hits, initial_nation, resolved_nation}
use Rattle.rows.specs.RowAt.{nation_row_at, entry_row_at, entry_at, entries_at, nation_numbered}
use Rattle.rows.proofs.NumberedLaws.{numbers-range, nation-inside, entry-good, nations-numbered}
use Rattle.resolver.specs.declared.claims.Claim.{Claim}
use Rattle.resolver.specs.Claims.{kind_claims, switch_claims, initial_claims, claims_in, is_asked, claim_day, best_of, last_to}
use Rattle.resolver.proofs.ClaimLaws.{initial_at, initials-numbered, claims_at, claims-numbered}

-- ## The greatest, where some keys are 0

module _ {A : Type 0} (key : A → ℕ) where
  -- An element whose key is not 0.
  abbrev late : A → Bool
  late x = ltb 0 (key x)

  abbrev early : A → Bool
  early x = not (ltb 0 (key x))

  abbrev Zero : Option A → Type 0
  Zero none = Unit {0}
  Zero (some x) = key x ≡ 0

  last-zero : (xs : List A) → All (λ x. key x ≡ 0) xs → Zero (last xs)
  last-zero [] q = tt
  last-zero (x ∷ xs) q = all-last (λ y. key y ≡ 0) xs x q.1 q.0

  early-zero : (xs : List A) → All (λ x. key x ≡ 0) (keep early xs)
  early-zero [] = tt
  early-zero (x ∷ xs) =
      cases (ltb 0 (key x))
      (λ h. simp h (early-zero xs))
      (λ h. let z : key x ≡ 0 = let g = ltb-false 0 (key x) h in omega arith in simp h (z, early-zero xs))

  -- One that comes before others, of which the last with key 0 and the greatest are known.
  before-late : (x : A) (g l : Option A) → 0 < key x → Zero l → greater_of key x (or_else g l) ≡ or_else (greater_of key x g) l
  before-late x (some y) l h z = cases (leb (key x) (key y)) (λ t. simp t) (λ t. simp t)
  before-late x none none h z = refl
  before-late x none (some y) h z = simp (lt-leb (key x) (key y) (omega arith))

  before-early : (x : A) (g : Option A) (xs : List A) → key x ≡ 0 → All (λ y. key y ≡ 0) xs → greater_of key x (or_else g (last xs)) ≡ or_else g (last (x ∷ xs))
  before-early x (some y) xs z q = simp (le-leb (key x) (key y) (omega arith))
  before-early x none [] z q = refl
  before-early x none (y ∷ xs) z q =
      simp (le-leb (key x) (key (last_or y xs)) (omega arith))

  -- The greatest of those above 0, else the last.
  pub greatest-parts : (xs : List A) → greatest key xs ≡ or_else (greatest key (keep late xs)) (last (keep early xs))
  greatest-parts [] = refl
  greatest-parts (x ∷ xs) =
      cases (ltb 0 (key x))
      (λ h. simp (h, greatest-parts xs) (before-late x (greatest key (keep late xs)) (last (keep early xs)) (ltb-true 0 (key x) h) (last-zero (keep early xs) (early-zero xs))))
      (λ h. let z : key x ≡ 0 = let g = ltb-false 0 (key x) h in omega arith in
      simp (h, greatest-parts xs) (before-early x (greatest key (keep late xs)) (keep early xs) z (early-zero xs)))

-- The greatest of images, by a key that the images keep.
pub greatest-map : {A B : Type 0} (f : A → B) (key : B → ℕ) (xs : List A) → greatest key (map f xs) ≡ Option.map f (greatest (λ x. key (f x)) xs)
greatest-map f key [] = refl
greatest-map f key (x ∷ xs) = simp (greatest-map f key xs) (go (greatest (λ y. key (f y)) xs))
  where
    go : (g : Option _) → greater_of key (f x) (Option.map f g) ≡ Option.map f (greater_of (λ y. key (f y)) x g)
    go none = refl
    go (some y) = cases (leb (key (f x)) (key (f y))) (λ h. simp h) (λ h. simp h)

last-of-map : {A B : Type 0} (f : A → B) (xs : List A) → last (map f xs) ≡ Option.map f (last xs)
last-of-map f [] = refl
last-of-map f (x ∷ xs) = ap some (go x xs)
  where
    go : (d : _) (ys : List _) → last_or (f d) (map f ys) ≡ f (last_or d ys)
    go d [] = refl
    go d (y ∷ ys) = go y ys

map-or : {A B : Type 0} (f : A → B) (a b : Option A) → Option.map f (or_else a b) ≡ or_else (Option.map f a) (Option.map f b)
map-or f none b = refl
map-or f (some x) b = refl

pub map-twice : {A B C : Type 0} (f : A → B) (g : B → C) (a : Option A) → Option.map g (Option.map f a) ≡ Option.map (λ x. g (f x)) a
map-twice f g none = refl
map-twice f g (some x) = refl

-- ## Dates of switches

-- A good date is not 0.
good-late : (d : Eu4Date) → good_date d ≡ true → 0 < d.0
unfolding good_date
good-late d h =
    let y = leb-true 1 (year d) (and_left (leb 1 (year d)) (leb (year d) 9999) (and_left (leb 1 (year d) && leb (year d) 9999) _ h)) in
    omega arith

kind-late : (i : ℕ) (date : Eu4Date) (k : EntryKind) → 0 < date.0 → All (λ c. 0 < claim_day c) (kind_claims i date k)
kind-late i date (TagSwitch t) h = (h, tt)
kind-late i date Appeared h = tt
kind-late i date Annexed h = tt

entries-late : (i : ℕ) (l : List Entry) → All (λ e. 0 < e.date.0) l → All (λ c. 0 < claim_day c) (switch_claims i l)
entries-late i [] q = tt
entries-late i (e ∷ l) q =
    all_append (λ c. 0 < claim_day c) (kind_claims i e.date e.kind) (switch_claims i l) (kind-late i e.date e.kind q.0) (entries-late i l q.1)

module _ (ws es : List ℕ) where
  -- The claims of nation number i by its switches.
  abbrev switches_of : ℕ → List Claim
  switches_of i = switch_claims i (entries_at es (nation_row_at ws i).first (nation_row_at ws i).count)

  -- The nation of a claim.
  abbrev pub claim_nation : Claim → Nation
  claim_nation c = nation_numbered ws es c.nation

  abbrev hit_of : Claim → Hit
  hit_of c = record { date = c.date; nation = claim_nation c }

  abbrev Late : Claim → Type 0
  Late c = 0 < claim_day c

  switches-late : well_shaped ws es ≡ true → (i : ℕ) → i < length (nation_rows_in ws) → All Late (switches_of i)
  switches-late shaped i h =
      let r = nation_row_at ws i in
      entries-late i (entries_at es r.first r.count)
      (all_of_map (λ e. 0 < e.date.0) (entry_at es)
      (λ j g. good-late (entry_row_at es j).date
      (and_left _ (kind_shaped (entry_row_at es j).kind (entry_row_at es j).target) (entry-good ws es shaped j (let p = nation-inside ws es shaped i h in omega (arith, g.1)))))
      (numbers_from r.first r.count) (numbers-range r.first r.count))

  module _ (tag : CountryTag) (date : Eu4Date) where
    -- ## Hits

    kind-hits : (i : ℕ) (e : Entry) (k : EntryKind) (xs : List Hit) (cs : List Claim) → xs ≡ map hit_of (keep (is_asked tag date) cs)
        → cond (is_switch_to tag k && not_after e.date date) (record { date = e.date; nation = nation_numbered ws es i } ∷ xs) xs
        ≡ map hit_of (keep (is_asked tag date) (kind_claims i e.date k ++ cs))
    kind-hits i e (TagSwitch t) xs cs h = cases (same_tag t tag && not_after e.date date) (λ a. simp (a, h)) (λ a. simp (a, h))
    kind-hits i e Appeared xs cs h = h
    kind-hits i e Annexed xs cs h = h

    own-hits : (i : ℕ) (l : List Entry)
        → map (λ e. record { date = e.date; nation = nation_numbered ws es i }) (keep (λ e. is_switch_to tag e.kind && not_after e.date date) l)
        ≡ map hit_of (keep (is_asked tag date) (switch_claims i l))
    own-hits i [] = refl
    own-hits i (e ∷ l) =
        let xs : List Hit = map (λ x. record { date = x.date; nation = nation_numbered ws es i }) (keep (λ x. is_switch_to tag x.kind && not_after x.date date) l) in
        let step = kind-hits i e e.kind xs (switch_claims i l) (own-hits i l) in
        cases (is_switch_to tag e.kind && not_after e.date date) (λ h. simp h (simp h at step)) (λ h. simp h (simp h at step))

    all-hits : (is : List ℕ) → hits tag date (map (nation_numbered ws es) is) ≡ map hit_of (keep (is_asked tag date) (join_of switches_of is))
    all-hits [] = refl
    all-hits (i ∷ is) =
        ap₂ ◌++◌ (own-hits i (entries_at es (nation_row_at ws i).first (nation_row_at ws i).count)) (all-hits is)
        ∙ (sym (map-append hit_of (keep (is_asked tag date) (switches_of i)) (keep (is_asked tag date) (join_of switches_of is)))
        ∙ ap (map hit_of) (sym (keep_append (is_asked tag date) (switches_of i) (join_of switches_of is))))

    -- ## Initials

    asked-initial : (is : List ℕ) → keep (is_asked tag date) (map (initial_at ws) is) ≡ keep (λ c. same_tag c.tag tag) (map (initial_at ws) is)
    asked-initial [] = refl
    asked-initial (i ∷ is) =
        let t : leb 0 date.0 ≡ true = le-leb 0 date.0 (omega arith) in
        cases (same_tag (nation_row_at ws i).initial tag) (λ h. simp (h, t, asked-initial is)) (λ h. simp (h, asked-initial is))

    initials-last : (is : List ℕ) → initial_nation (map (nation_numbered ws es) is) tag ≡ Option.map claim_nation (last_to tag (map (initial_at ws) is))
    initials-last is =
        let p : ℕ → Bool = λ i. same_tag (nation_row_at ws i).initial tag in
        ap last (keep-map (λ n. same_tag n.initial tag) (nation_numbered ws es) is)
        ∙ (last-of-map (nation_numbered ws es) (keep p is)
        ∙ sym (ap (Option.map claim_nation) (ap last (keep-map (λ c. same_tag c.tag tag) (initial_at ws) is) ∙ last-of-map (initial_at ws) (keep p is)) ∙ map-twice (initial_at ws) claim_nation (last (keep p is))))

    -- ## Both

    part : (p : Claim → Bool) (i : ℕ) (is : List ℕ)
        → keep p (keep (is_asked tag date) (join_of (claims_at ws es) (i ∷ is)))
        ≡ keep p (keep (is_asked tag date) (initial_at ws i ∷ [])) ++ (keep p (keep (is_asked tag date) (switches_of i)) ++ keep p (keep (is_asked tag date) (join_of (claims_at ws es) is)))
    part p i is =
        let a : Claim → Bool = is_asked tag date in
        ap (keep p) (keep_append a (initial_at ws i ∷ []) (switches_of i ++ join_of (claims_at ws es) is))
        ∙ (keep_append p (keep a (initial_at ws i ∷ [])) (keep a (switches_of i ++ join_of (claims_at ws es) is))
        ∙ ap (λ (l : List Claim). keep p (keep a (initial_at ws i ∷ [])) ++ l)
        (ap (keep p) (keep_append a (switches_of i) (join_of (claims_at ws es) is)) ∙ keep_append p (keep a (switches_of i)) (keep a (join_of (claims_at ws es) is))))

    late-part : (is : List ℕ) → All (λ i. All Late (switches_of i)) is
        → keep (late claim_day) (keep (is_asked tag date) (join_of (claims_at ws es) is)) ≡ keep (is_asked tag date) (join_of switches_of is)
    late-part [] q = refl
    late-part (i ∷ is) q =
        let a : Claim → Bool = is_asked tag date in
        let none_first : keep (late claim_day) (keep a (initial_at ws i ∷ [])) ≡ [] = cases (a (initial_at ws i)) (λ h. simp h) (λ h. simp h) in
        let own : keep (late claim_day) (keep a (switches_of i)) ≡ keep a (switches_of i) =
        keep_all (late claim_day) (keep a (switches_of i)) (all_map (λ c h. lt-ltb 0 (claim_day c) h) (keep a (switches_of i)) (all_keep Late a (switches_of i) q.0)) in
        part (late claim_day) i is
        ∙ (ap₂ ◌++◌ none_first (ap₂ ◌++◌ own (late-part is q.1))
        ∙ sym (keep_append a (switches_of i) (join_of switches_of is)))

    early-part : (is : List ℕ) → All (λ i. All Late (switches_of i)) is
        → keep (early claim_day) (keep (is_asked tag date) (join_of (claims_at ws es) is)) ≡ keep (is_asked tag date) (map (initial_at ws) is)
    early-part [] q = refl
    early-part (i ∷ is) q =
        let a : Claim → Bool = is_asked tag date in
        let first : keep (early claim_day) (keep a (initial_at ws i ∷ [])) ≡ keep a (initial_at ws i ∷ []) = cases (a (initial_at ws i)) (λ h. simp h) (λ h. simp h) in
        let own : keep (early claim_day) (keep a (switches_of i)) ≡ [] =
        keep-none (early claim_day) (keep a (switches_of i)) (all_map (λ c h. ap not (lt-ltb 0 (claim_day c) h)) (keep a (switches_of i)) (all_keep Late a (switches_of i) q.0)) in
        part (early claim_day) i is
        ∙ (ap₂ ◌++◌ first (ap₂ ◌++◌ own (early-part is q.1))
        ∙ sym (keep_append a (initial_at ws i ∷ []) (map (initial_at ws) is)))

    -- The nation of the best claim is the one that the rules find.
    pub claim-resolved : well_shaped ws es ≡ true → Option.map claim_nation (best_of tag date (claims_in ws es)) ≡ resolved_nation (nations_in ws es) tag date
    unfolding resolved_nation
    claim-resolved shaped =
        let n : ℕ = length (nation_rows_in ws) in
        let is : List ℕ = numbers_from 0 n in
        let a : Claim → Bool = is_asked tag date in
        let q = all_map (λ i h. switches-late shaped i (omega (arith, h.1))) is (numbers-range 0 n) in
        let best : greatest claim_day (keep a (join_of (claims_at ws es) is)) ≡ or_else (greatest claim_day (keep a (join_of switches_of is))) (last_to tag (map (initial_at ws) is)) =
        greatest-parts claim_day (keep a (join_of (claims_at ws es) is)) ∙ ap₂ (λ (x y : List Claim). or_else (greatest claim_day x) (last y)) (late-part is q) (early-part is q ∙ asked-initial is) in
        let found : Option.map (λ h. h.nation) (greatest (λ h. h.date.0) (hits tag date (map (nation_numbered ws es) is))) ≡ Option.map claim_nation (greatest claim_day (keep a (join_of switches_of is))) =
        ap (λ (l : List Hit). Option.map (λ h. h.nation) (greatest (λ h. h.date.0) l)) (all-hits is)
        ∙ (ap (Option.map (λ (h : Hit). h.nation)) (greatest-map hit_of (λ h. h.date.0) (keep a (join_of switches_of is)))
        ∙ map-twice hit_of (λ h. h.nation) (greatest claim_day (keep a (join_of switches_of is)))) in
        rw (claims-numbered, nations-numbered ws es shaped)
        (ap (Option.map claim_nation) best
        ∙ (map-or claim_nation (greatest claim_day (keep a (join_of switches_of is))) (last_to tag (map (initial_at ws) is))
        ∙ sym (ap₂ or_else found (initials-last is))))

  -- The nation of the last claim to an initial is the last one with that initial.
  pub claim-initial : (tag : CountryTag) → well_shaped ws es ≡ true → Option.map claim_nation (last_to tag (initial_claims ws)) ≡ initial_nation (nations_in ws es) tag
  claim-initial tag shaped =
      rw (initials-numbered, nations-numbered ws es shaped)
      (sym (initials-last tag (record { 0 = 0 }) (numbers_from 0 (length (nation_rows_in ws)))))
