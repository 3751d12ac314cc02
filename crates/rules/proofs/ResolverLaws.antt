-- A tag that one nation wears on a day, and that names no other, is resolved on that day to that nation.
use mathlib.Core.Path.{◌≡◌, refl, ap, ◌∙◌}
use mathlib.Core.Bool.{Bool, false, cond, ◌&&◌, and-false, true≢false}
use mathlib.Core.List.{List, [], ◌∷◌, ◌++◌, map, append-nil}
use mathlib.Core.Option
use mathlib.Core.Option.{Option, none, some, none-ne-some}
use Prim.Native.Nat.{ℕ, suc}
use borrow.Author.Tests.{eq-eqb}
use lib.Dec.{leb}
use lib.ListN.{take, drop, get_elem?}
use Rattle.lists.specs.Lists.{All, keep, any_of, last_or, last, or_else, without, greater_of, greatest}
use Rattle.lists.proofs.BoolLaws.{cases, neither}
use Rattle.lists.proofs.ListLaws.{all_map, any_none, keep-none, keep_append, join-append, join-none, at_split, InOrder, leading-keep}
use Rattle.format.specs.declared.tag.CountryTag.{CountryTag}
use Rattle.format.specs.declared.date.Eu4Date.{Eu4Date}
use Rattle.format.specs.Tags.{same_tag}
use Rattle.format.specs.Dates.{not_after}
use Rattle.format.specs.declared.values.EntryKind.{EntryKind}
use Rattle.format.specs.declared.values.Entry.{Entry}
use Rattle.format.specs.declared.values.EntryKind.TheVariants.{TagSwitch, Appeared, Annexed}
use Rattle.rules.specs.Chronicle.{Nation}
use Rattle.rules.specs.Nations.{targets}
use Rattle.rules.specs.Holding.{wears}
use Rattle.rules.specs.Resolver.{is_switch_to, Hit, own_hits, hits, initial_nation, resolved_nation, walked}
use Rattle.rules.specs.Guarantee.{is_named}

pub kind-cases : {C : Type 0} (k : EntryKind) → ((t : CountryTag) → k ≡ TagSwitch t → C) → (k ≡ Appeared → C) → (k ≡ Annexed → C) → C
kind-cases (TagSwitch t) f g h = f t refl
kind-cases Appeared f g h = g refl
kind-cases Annexed f g h = h refl

-- Of entries in date order, those up to the first dated later are those dated up to the day.
pub walked-worn : (n : Nation) (day : Eu4Date) → InOrder (λ e. e.date.0) n.entries → last_or n.initial (walked day n) ≡ wears n day
unfolding wears
walked-worn n day o =
    ap (λ (es : List Entry). last_or n.initial (targets es)) (leading-keep (λ e. e.date.0) day.0 n.entries o)

-- ## The nation's own hits

module _ (w : CountryTag) (day : Eu4Date) (n : Nation) where
  -- Its hits among some entries.
  abbrev hits_among : List Entry → List Hit
  hits_among es = map (λ e. record { date = e.date; nation = n }) (keep (λ e. is_switch_to w e.kind && not_after e.date day) es)

  abbrev Own : Option Hit → Type 0
  Own none = Unit {0}
  Own (some h) = h.nation ≡ n

  greater-own : (x : Hit) (o : Option Hit) → x.nation ≡ n → Own o
      → Own (greater_of (λ h. h.date.0) x o) × (Option.map (λ h. h.nation) (greater_of (λ h. h.date.0) x o) ≡ some n)
  greater-own x none p q = (p, ap some p)
  greater-own x (some y) p q = cases (leb x.date.0 y.date.0) (λ h. simp h (q, ap some q)) (λ h. simp h (p, ap some p))

  greatest-own : (es : List Entry) → Own (greatest (λ h. h.date.0) (hits_among es))
  greatest-own [] = tt
  greatest-own (e ∷ es) =
      cases (is_switch_to w e.kind && not_after e.date day)
      (λ h. simp h (greater-own (record { date = e.date; nation = n }) (greatest (λ x. x.date.0) (hits_among es)) refl (greatest-own es)).0)
      (λ h. simp h (greatest-own es))

  or-none : (a b : Option Nation) → or_else a none ≡ some n → or_else a b ≡ some n
  or-none none b p = absurd (none-ne-some n p)
  or-none (some x) b p = p

  -- By its hits, else by its first tag, the nation that wears the tag is found.
  own-found : (es : List Entry) (a : CountryTag) → last_or a (targets (keep (λ e. not_after e.date day) es)) ≡ w
      → or_else (Option.map (λ h. h.nation) (greatest (λ h. h.date.0) (hits_among es))) (cond (same_tag a w) (some n) none) ≡ some n
  own-found [] a p = simp (eq-eqb a.0 w.0 (ap (λ (t : CountryTag). t.0) p))
  own-found (e ∷ es) a p =
      let found : Option Nation = Option.map (λ h. h.nation) (greatest (λ h. h.date.0) (hits_among es)) in
      kind-cases e.kind
      (λ t k. cases (not_after e.date day)
      (λ h. cases (same_tag t w)
      (λ g. simp (k, h, g, (greater-own (record { date = e.date; nation = n }) (greatest (λ x. x.date.0) (hits_among es)) refl (greatest-own es)).1))
      (λ g. simp (k, h, g) (or-none found (cond (same_tag a w) (some n) none) (simp g at (own-found es t (simp (k, h) at p))))))
      (λ h. simp (k, h, and-false) (own-found es a (simp h at p))))
      (λ k. cases (not_after e.date day) (λ h. simp k (own-found es a (simp (h, k) at p))) (λ h. simp k (own-found es a (simp h at p))))
      (λ k. cases (not_after e.date day) (λ h. simp k (own-found es a (simp (h, k) at p))) (λ h. simp k (own-found es a (simp h at p))))

-- ## The others

module _ (w : CountryTag) (day : Eu4Date) where
  abbrev Unnamed : Nation → Type 0
  Unnamed n = is_named w n ≡ false

  unhit : (n : Nation) (es : List Entry) → any_of (λ e. is_switch_to w e.kind) es ≡ false → hits_among w day n es ≡ []
  unhit n [] p = refl
  unhit n (e ∷ es) p =
      cases (is_switch_to w e.kind) (λ h. absurd (true≢false (simp h at p))) (λ h. simp h (unhit n es (simp h at p)))

  unnamed : (n : Nation) → Unnamed n → (same_tag n.initial w ≡ false) × (own_hits w day n ≡ [])
  unnamed n p =
      let f = neither (same_tag n.initial w) (any_of (λ e. is_switch_to w e.kind) n.entries) p in
      (f.0, unhit n n.entries f.1)

  no-hits : (ns : List Nation) → All Unnamed ns → hits w day ns ≡ []
  no-hits ns q = join-none (own_hits w day) ns (all_map (λ n h. (unnamed n h).1) ns q)

  no-initial : (ns : List Nation) → All Unnamed ns → keep (λ n. same_tag n.initial w) ns ≡ []
  no-initial ns q = keep-none (λ n. same_tag n.initial w) ns (all_map (λ n h. (unnamed n h).0) ns q)

  module _ (front : List Nation) (n : Nation) (back : List Nation) (unfront : All Unnamed front) (unback : All Unnamed back) where
    hits-own : hits w day (front ++ n ∷ back) ≡ own_hits w day n
    hits-own =
        join-append (own_hits w day) front (n ∷ back)
        ∙ simp (no-hits front unfront, no-hits back unback, append-nil)

    initial-own : initial_nation (front ++ n ∷ back) w ≡ cond (same_tag n.initial w) (some n) none
    initial-own =
        ap last (keep_append (λ x. same_tag x.initial w) front (n ∷ back))
        ∙ simp (no-initial front unfront, no-initial back unback) (cases (same_tag n.initial w) (λ h. simp h) (λ h. simp h))

    found-own : wears n day ≡ w → resolved_nation (front ++ n ∷ back) w day ≡ some n
    unfolding resolved_nation wears
    found-own p = simp (hits-own, initial-own) (own-found w day n n.entries n.initial p)

none_of : {A : Type 0} (p : A → Bool) (xs ys : List A) → any_of p (xs ++ ys) ≡ false → All (λ x. p x ≡ false) xs × All (λ x. p x ≡ false) ys
none_of p [] ys h = (tt, any_none p ys h)
none_of p (x ∷ xs) ys h =
    let f = neither (p x) (any_of p (xs ++ ys)) h in
    let g = none_of p xs ys f.1 in
    ((f.0, g.0), g.1)

-- Nation number i is found by the tag that it wears, if that names no other.
pub found_at : (ns : List Nation) (i : ℕ) (n : Nation) (day : Eu4Date) → get_elem? ns i ≡ some n
    → any_of (is_named (wears n day)) (without i ns) ≡ false → resolved_nation ns (wears n day) day ≡ some n
found_at ns i n day h u =
    let front : List Nation = take i ns in
    let back : List Nation = drop (suc i) ns in
    let un = none_of (is_named (wears n day)) front back u in
    ap (λ (l : List Nation). resolved_nation l (wears n day) day) (at_split ns i n h)
    ∙ found-own (wears n day) day front n back un.0 un.1 refl
