-- A pass over numbers that marks the place of each finds a repeat exactly where there is one, if no two numbers share a place.
use mathlib.Core.Path.{◌≡◌, refl, sym, ap, subst, ◌∙◌}
use mathlib.Core.Bool.{Bool, true, false, ◌||◌}
use mathlib.Core.List.{List, [], ◌∷◌, map}
use Prim.Native.Nat.{ℕ, ◌+◌, ◌-◌, ◌*◌, ◌/◌, ◌%◌, ◌<◌}
use native.Mathlib.Decide.{dec_lt}
use native.Mathlib.Omega.{arith}
use borrow.Author.Tests.{eqb-true, eq-eqb, ne_eqb}
use lib.Dec.{eqb, ltb}
use lib.ListN.{length, get_or, set, drop}
use lib.Seq.{get_or-set_same, get_or-set_other}
use Rattle.std.proofs.lemmas.List.{length-map, at_drop_more}
use Rattle.lists.specs.Lists.{All, any_of, twice}
use Rattle.lists.proofs.BoolLaws.{cases, clash}
use Rattle.lists.proofs.ListLaws.{all_map, all_of_map, all_take, all-unmap, any-map, map-then}
use Rattle.record_check.specs.Bitset.{is_marked, marking}
use Rattle.record_check.proofs.BitsetLaws.{marked-after}
use Rattle.format.specs.declared.head.Head.{Head}
use Rattle.format.specs.declared.packed.PackedCountry.{PackedCountry}
use Rattle.format.specs.declared.packed.PackedProvince.{PackedProvince}
use Rattle.format.specs.Tags.{is_tag}
use Rattle.format.specs.Head.{head_of, provinces_at, province_bytes}
use Rattle.format.specs.Rows.{country_at, province_at}
use Rattle.format.specs.Campaign.{country_rows, province_rows}
use Rattle.format.specs.RecordNumber.{first_in, tag_number, country_number, head_number, fields_number, tag_twice, id_twice_or_above}
use Rattle.format.proofs.TagLaws.{Range, Bytes, word-parts, tag-bytes}
use Rattle.format.proofs.RowLaws.{rows_all}
use Rattle.format.proofs.FirstLaws.{first-zero, rows-zero}
use Rattle.format.proofs.AcceptLaws.{number-true}
use Rattle.record_check.specs.declared.sections.Sections.{Sections}
use Rattle.record_check.specs.Sections.{SectionsOf}

-- a number of the list is marked, or stands twice in it
unfoldable pub repeats : (ℕ → Bool) → List ℕ → Bool
repeats marked ys = any_of marked ys || twice ys

any_none : {A : Type 0} (p : A → Bool) (ys : List A) → ((y : A) → p y ≡ false) → any_of p ys ≡ false
any_none p [] h = refl
any_none p (y ∷ ys) h = simp (h y) (any_none p ys h)

any-or : (p q r : ℕ → Bool) (ys : List ℕ) → All (λ y. r y ≡ p y || q y) ys → any_of r ys ≡ any_of p ys || any_of q ys
any-or p q r [] h = refl
any-or p q r (y ∷ ys) h = simp (h.0, any-or p q r ys h.1) (or-four (p y) (q y) (any_of p ys) (any_of q ys))
  where
    or-four : (a b c d : Bool) → (a || b) || (c || d) ≡ (a || c) || (b || d)
    or-four true b c d = refl
    or-four false true true d = refl
    or-four false true false d = refl
    or-four false false true d = refl
    or-four false false false d = refl

pub repeats-start : (marked : ℕ → Bool) → ((y : ℕ) → marked y ≡ false) → (ys : List ℕ) → repeats marked ys ≡ twice ys
unfolding repeats
repeats-start marked none ys = simp (any_none marked ys none)

pub repeats-nil : (marked : ℕ → Bool) → repeats marked [] ≡ false
unfolding repeats
repeats-nil marked = refl

pub repeats-hit : (marked : ℕ → Bool) (x : ℕ) (ys : List ℕ) → marked x ≡ true → repeats marked (x ∷ ys) ≡ true
unfolding repeats
repeats-hit marked x ys h = simp h

-- marked before, and after x has been marked besides
repeats-mark : (before after : ℕ → Bool) (x : ℕ) (ys : List ℕ) → All (λ y. after y ≡ eqb x y || before y) ys
    → before x ≡ false → repeats before (x ∷ ys) ≡ repeats after ys
unfolding repeats
repeats-mark before after x ys more h =
    simp (h, any-or (eqb x) before after ys more) (or_swap (any_of before ys) (any_of (eqb x) ys) (twice ys))
  where
    or_swap : (a b c : Bool) → a || (b || c) ≡ (b || a) || c
    or_swap true true c = refl
    or_swap true false c = refl
    or_swap false true c = refl
    or_swap false false c = refl

-- ## Places of tags

-- a tag's place, of its word
abbrev pub place_of : ℕ → ℕ
place_of w = (w / 65536 - 47) * 5776 + (w / 256 % 256 - 47) * 76 + (w % 256 - 47)

pub place-small : (w : ℕ) → Bytes w → place_of w < 438976
place-small w h = omega (arith, h.first.most, h.second.most, h.third.most)

-- three digits below 76 are told apart by their number
digits-apart : (a b c x y z : ℕ) → b < 76 → c < 76 → y < 76 → z < 76 → a * 5776 + b * 76 + c ≡ x * 5776 + y * 76 + z → (a ≡ x) × (b ≡ y) × (c ≡ z)
digits-apart a b c x y z hb hc hy hz e = (omega arith, omega arith, omega arith)

-- two tag bytes of one place are one byte: below 48 there is only 45
places_same : (a b : ℕ) → Range a → Range b → a - 47 ≡ b - 47 → a ≡ b
places_same a b p q e =
    elim (dec_lt a 48) as (λ _. a ≡ b) [
      | yes h ↦ p.low h ∙ sym (q.low (omega arith))
      | no h ↦ omega arith
    ]

place-apart : (v w : ℕ) → Bytes v → Bytes w → place_of v ≡ place_of w → v ≡ w
place-apart v w hv hw e =
    let d = digits-apart (v / 65536 - 47) (v / 256 % 256 - 47) (v % 256 - 47) (w / 65536 - 47) (w / 256 % 256 - 47) (w % 256 - 47)
    (omega (arith, hv.second.most)) (omega (arith, hv.third.most)) (omega (arith, hw.second.most)) (omega (arith, hw.third.most)) e in
    let a = places_same (v / 65536) (w / 65536) hv.first hw.first d.0 in
    let b = places_same (v / 256 % 256) (w / 256 % 256) hv.second hw.second d.1 in
    let c = places_same (v % 256) (w % 256) hv.third hw.third d.2 in
    word-parts v ∙ ap (λ (x : ℕ). x * 65536 + v / 256 % 256 * 256 + v % 256) a
    ∙ ap (λ (x : ℕ). w / 65536 * 65536 + x * 256 + v % 256) b
    ∙ ap (λ (x : ℕ). w / 65536 * 65536 + w / 256 % 256 * 256 + x) c
    ∙ sym (word-parts w)

pub place_same : (x : ℕ) → is_tag (record { 0 = x }) ≡ true → (y : ℕ) → is_tag (record { 0 = y }) ≡ true → eqb (place_of y) (place_of x) ≡ eqb x y
place_same x hx y hy =
    cases (eqb x y)
    (λ h. let e : x ≡ y = eqb-true x y h in simp h (eq-eqb (place_of y) (place_of x) (ap place_of (sym e))))
    (λ h. simp h (ne_eqb (place_of y) (place_of x) (λ e. clash (eqb x y) (eq-eqb x y (place-apart x y (bytes x hx) (bytes y hy) (sym e))) h)))
  where
    bytes : (w : ℕ) → is_tag (record { 0 = w }) ≡ true → Bytes w
    bytes w = tag-bytes (record { 0 = w })

-- ## One number of a pass

-- a word that is a tag's
abbrev pub TagWord : ℕ → Type 0
TagWord w = is_tag (record { 0 = w }) ≡ true

-- a tag's word whose place has its bit, and an id that has its mark
abbrev pub tag_seen : List ℕ → ℕ → Bool
tag_seen seen w = is_marked seen (place_of w)

abbrev pub id_seen : List Bool → ℕ → Bool
id_seen seen id = get_or seen id false

pub tag-marked : (seen : List ℕ) (x : ℕ) (ys : List ℕ) → length seen ≡ 6859 → TagWord x → All TagWord ys → tag_seen seen x ≡ false
    → repeats (tag_seen seen) (x ∷ ys) ≡ repeats (tag_seen (marking seen (place_of x))) ys
tag-marked seen x ys size hx good h =
    let small = place-small x (tag-bytes (record { 0 = x }) hx) in
    let more : (y : ℕ) → TagWord y → tag_seen (marking seen (place_of x)) y ≡ eqb x y || tag_seen seen y =
    λ y hy. marked-after seen (place_of x) (place_of y) (omega (arith, small, size)) ∙ ap (λ b. b || tag_seen seen y) (place_same x hx y hy) in
    repeats-mark (tag_seen seen) (tag_seen (marking seen (place_of x))) x ys (all_map more ys good) h

id-after : (seen : List Bool) (x y : ℕ) → x < length seen → id_seen (set seen x true) y ≡ eqb x y || id_seen seen y
id-after seen x y h =
    cases (eqb x y)
    (λ e. let same : y ≡ x = sym (eqb-true x y e) in simp e (rw same (get_or-set_same seen x true false h)))
    (λ e. simp e (get_or-set_other seen x y true false (λ same. clash (eqb x y) (eq-eqb x y (sym same)) e)))

-- An id stands twice, or is above a bound, by the marks so far.
abbrev pub ids_bad : ℕ → List Bool → List ℕ → Bool
ids_bad bound seen ys = repeats (id_seen seen) ys || any_of (ltb bound) ys

pub ids-nil : (bound : ℕ) (seen : List Bool) → ids_bad bound seen [] ≡ false
ids-nil bound seen = simp (repeats-nil (id_seen seen))

pub id-hit : (bound : ℕ) (seen : List Bool) (x : ℕ) (ys : List ℕ) → id_seen seen x ≡ true → ids_bad bound seen (x ∷ ys) ≡ true
id-hit bound seen x ys h = ap (λ b. b || any_of (ltb bound) (x ∷ ys)) (repeats-hit (id_seen seen) x ys h)

pub id-marked : (bound : ℕ) (seen : List Bool) (x : ℕ) (ys : List ℕ) → ltb bound x ≡ false → x < length seen → id_seen seen x ≡ false
    → ids_bad bound seen (x ∷ ys) ≡ ids_bad bound (set seen x true) ys
id-marked bound seen x ys low small h =
    let more : All (λ y. id_seen (set seen x true) y ≡ eqb x y || id_seen seen y) ys = all_every (λ y. id-after seen x y small) ys in
    simp low (ap (λ b. b || any_of (ltb bound) ys) (repeats-mark (id_seen seen) (id_seen (set seen x true)) x ys more h))
  where
    all_every : {A : Type 0} {P : A → Type 0} → ((a : A) → P a) → (l : List A) → All P l
    all_every f [] = tt
    all_every f (a ∷ l) = (f a, all_every f l)

-- ## One row of a pass

module _ {B : Type 0} (word : B → ℕ) (rows : List B) (i : ℕ) (d : B) (some : i < length rows) where
  abbrev pub row : B
  row = get_or rows i d

  abbrev pub behind : List B
  behind = drop (i + 1) rows

  pub row-ahead : {C : Type 0} (f : List ℕ → C) → f (map word (drop i rows)) ≡ f (word row ∷ map word behind)
  row-ahead f = at_drop_more (λ l. f (map word l)) rows i d some

  pub tag-row : (seen : List ℕ) → length seen ≡ 6859 → All (λ r. TagWord (word r)) rows → tag_seen seen (word row) ≡ false
      → repeats (tag_seen seen) (map word (drop i rows)) ≡ repeats (tag_seen (marking seen (place_of (word row)))) (map word behind)
  tag-row seen size good h =
      let g : TagWord (word row) × All (λ r. TagWord (word r)) behind =
      subst (All (λ r. TagWord (word r))) (at_drop_more (λ l. l) rows i d some) (all_take (λ r. TagWord (word r)) i rows good).1 in
      row-ahead (repeats (tag_seen seen))
      ∙ tag-marked seen (word row) (map word behind) size g.0 (all_of_map TagWord word (λ r t. t) behind g.1) h

-- ## The rows of a record

-- a country that is not refused has a good tag
country-tag : (r : PackedCountry) → country_number r ≡ 0 → is_tag r.tag ≡ true
unfolding country_number
country-tag r h = number-true (is_tag r.tag) 4 (omega arith) (first-zero (tag_number r.tag) _ h).0

pub countries-good : (xs : List ℕ) (h : Head) (z : Sections) → h ≡ head_of xs → SectionsOf xs h z → 0 ≡ fields_number xs
    → All (λ row. is_tag (country_at row 0).tag ≡ true) z.countries.now
unfolding fields_number
countries-good xs h z e s ok =
    let none = (first-zero _ _ (first-zero (head_number (head_of xs)) _ (sym ok)).1).0 in
    let same : map (λ row. country_at row 0) z.countries.now ≡ country_rows xs = rw e at s.countries in
    let zero = rows-zero country_number (map (λ row. country_at row 0) z.countries.now) (ap (first_in country_number) same ∙ none) in
    all_map (λ row. country-tag (country_at row 0)) z.countries.now (all-unmap (λ r. country_number r ≡ 0) (λ row. country_at row 0) z.countries.now zero)

pub repeats-told : (xs : List ℕ) (h : Head) (z : Sections) → h ≡ head_of xs → SectionsOf xs h z
    → twice (map (λ row. (country_at row 0).tag.0) z.countries.now)
    || (twice (map (λ row. (province_at row 0).id.0) z.provinces.now)
    || any_of (ltb (length z.provinces.now)) (map (λ row. (province_at row 0).id.0) z.provinces.now))
    ≡ tag_twice xs || id_twice_or_above xs
unfolding tag_twice id_twice_or_above
repeats-told xs h z e s =
    let tags : map (λ row. (country_at row 0).tag.0) z.countries.now ≡ map (λ r. r.tag.0) (country_rows xs) =
    sym (map-then (λ row. country_at row 0) (λ r. r.tag.0) z.countries.now) ∙ ap (map (λ r. r.tag.0)) (rw e at s.countries) in
    let ids : map (λ row. (province_at row 0).id.0) z.provinces.now ≡ map (λ r. r.id.0) (province_rows xs) =
    sym (map-then (λ row. province_at row 0) (λ r. r.id.0) z.provinces.now) ∙ ap (map (λ r. r.id.0)) (rw e at s.provinces) in
    let whole = rows_all (province_at xs) province_bytes xs (provinces_at h) h.provinces (omega (arith, s.inside)) in
    let many : length z.provinces.now ≡ (head_of xs).provinces =
    rw e at (sym (length-map z.provinces.now (λ row. province_at row 0)) ∙ ap length s.provinces ∙ whole) in
    rw (tags, ids, many, any-map (ltb (head_of xs).provinces) (λ (r : PackedProvince). r.id.0) (province_rows xs))
