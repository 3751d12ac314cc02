-- A walk over the claims, step by step, the last to an initial, and the best of those that a question asks about.
use mathlib.Core.Path.{◌≡◌, refl, sym, ap, ◌∙◌, subst}
use mathlib.Core.Bool.{Bool, cond}
use mathlib.Core.List.{List, [], ◌∷◌, ◌++◌, map, map-id}
use mathlib.Core.Option.{Option, some}
use Prim.Native.Nat.{ℕ, zero, suc, ◌+◌, ◌/◌}
use native.Mathlib.Numerals.{add-one}
use native.Mathlib.Omega.{arith}
use lib.ListN.{length}
use Rattle.std.specs.Simd.{first_chunks}
use Rattle.lists.specs.Lists.{keep, join_of, last, numbers_from, last_or, greatest}
use Rattle.lists.proofs.BoolLaws.{cases}
use Rattle.lists.proofs.ScanLaws.{scan, scan-greatest}
use Rattle.format.specs.declared.tag.CountryTag.{CountryTag}
use Rattle.format.specs.declared.date.Eu4Date.{Eu4Date}
use Rattle.format.specs.Tags.{same_tag}
use Rattle.format.specs.declared.values.Entry.{Entry}
use Rattle.format.specs.declared.values.NationRow.{NationRow}
use Rattle.format.specs.declared.values.EntryKind.{EntryKind}
use Rattle.format.specs.declared.values.EntryKind.TheVariants.{Annexed, Appeared, TagSwitch}
use Rattle.rules.specs.NationRows.{nation_width, nation_row_of, nation_rows_in}
use Rattle.rows.specs.RowAt.{told_left, nation_row_at, entries_at, nations_left}
use Rattle.rows.proofs.RowAtLaws.{nations-next, nation_rows_told}
use Rattle.rows.proofs.NumberedLaws.{dropped-numbers}
use Rattle.resolver.specs.declared.claims.Claim.{Claim}
use Rattle.resolver.specs.Claims.{switch_claims, initial_claim, initials_from, initial_claims, nation_claims, claims_from, claims_in, left_of, claim_day, last_to, claims_left}
use denote.Param.Members.{Mut, Called}
use denote.Ref.{Bor}
use lib.Dec.{leb}
use Rattle.std.specs.Prelude as code
use Rattle.std.specs.Prelude.{Some, None, IsSomeAnd, MatchOption}
use Rattle.std.specs.Fn.{CalledAt}
use Rattle.std.specs.List.{filter, enumerate_from, FoldsTo, last_or as code-last}
use Rattle.std.specs.Option.{option_map}
use Rattle.std.specs.Iterator.{YieldsFirst, Drains, FoldTurn, ReducesItems}
use Rattle.std.specs.Iterator.Adapters.{enumerate_source, enumerate_count, enumerate_steps, filter_source, filter_callee, filter_steps}
use Rattle.std.specs.declared.iter.Enumerate.{Enumerate}
use Rattle.rows.specs.declared.lent_rows.LentRows.{LentRows}
use Rattle.std.specs.declared.iter.Filter.{Filter}
use Rattle.std.proofs.lemmas.Iterator.{YieldsList}
use Rattle.std.proofs.lemmas.Iterator.Consumers.{YieldsList-at, YieldsList-from_first, YieldsList-from_filter, YieldsList-from_enumerate, YieldsList-end}
use Rattle.lists.specs.Options.{option_of}
use Rattle.lists.proofs.CodeLaws.{filter_keep, last-some}
use Rattle.resolver.specs.declared.claims.Claims.{Claims}

-- ## Step by step

-- Before the first nation: no entries are left, but all rows, as the code has divided the words.
pub claims_all : (ws es : List ℕ) (owner : ℕ) (own : List Entry) (rows : List NationRow) → own ≡ [] → rows ≡ map nation_row_of (first_chunks nation_width (length ws / nation_width) ws)
    → left_of es owner own 0 rows ≡ claims_in ws es
unfolding left_of claims_in
claims_all ws es owner own rows n e = rw (n, e, nation_rows_told) refl

module _ (es : List ℕ) (owner i : ℕ) (own : List Entry) where
  -- Where no entry is left and no nation, no claim is.
  pub claims-end : (rows : List NationRow) → own ≡ [] → rows ≡ [] → left_of es owner own i rows ≡ []
  unfolding left_of
  claims-end rows h e = rw (h, e)

  -- The row of the nation that comes has been read.
  pub claims-initial : (row : NationRow) (left rest : List NationRow) (coming : List Entry) → own ≡ [] → left ≡ row ∷ rest → coming ≡ entries_at es row.first row.count
      → left_of es owner own i left ≡ initial_claim i row ∷ left_of es i coming (i + 1) rest
  unfolding left_of
  claims-initial row left rest coming h e f = rw (h, e, f) refl

  -- The next entry has been read: one that is no switch has no claim.
  module _ (rows : List NationRow) (rest : List Entry) (date : Eu4Date) (kind : EntryKind) (e : own ≡ record { date = date; kind = kind } ∷ rest) where
    pub claims-switch : (tag : CountryTag) → kind ≡ TagSwitch tag
        → left_of es owner own i rows ≡ record { tag = tag; date = date; nation = owner } ∷ left_of es owner rest i rows
    unfolding left_of
    claims-switch tag k = rw (e, k) refl

    pub claims-silent : ((tag : CountryTag) → kind ≡ TagSwitch tag → ⊥) → left_of es owner own i rows ≡ left_of es owner rest i rows
    unfolding left_of
    claims-silent h = rw e (go kind h)
      where
        go : (k : EntryKind) → ((tag : CountryTag) → k ≡ TagSwitch tag → ⊥)
            → switch_claims owner (record { date = date; kind = k } ∷ rest) ++ claims_from es i rows ≡ switch_claims owner rest ++ claims_from es i rows
        go (TagSwitch tag) n = absurd (n tag refl)
        go Appeared n = refl
        go Annexed n = refl

-- ## By the numbers of nations

module _ (ws : List ℕ) where
  numbered : nation_rows_in ws ≡ map (nation_row_at ws) (numbers_from 0 (length (nation_rows_in ws)))
  numbered = dropped-numbers (nation_rows_in ws) (nation_row_at ws) (nations-next ws) (length (nation_rows_in ws)) 0 (omega arith)

  -- That of nation number i to its initial.
  abbrev pub initial_at : ℕ → Claim
  initial_at i = initial_claim i (nation_row_at ws i)

  pub initials-numbered : initial_claims ws ≡ map initial_at (numbers_from 0 (length (nation_rows_in ws)))
  initials-numbered = ap (initials_from 0) numbered ∙ go 0 (length (nation_rows_in ws))
    where
      go : (i n : ℕ) → initials_from i (map (nation_row_at ws) (numbers_from i n)) ≡ map initial_at (numbers_from i n)
      go i zero = refl
      go i (suc n) = rw add-one (ap (λ (cs : List Claim). initial_at i ∷ cs) (go (suc i) n))

  module _ (es : List ℕ) where
    -- Those of nation number i.
    abbrev pub claims_at : ℕ → List Claim
    claims_at i = nation_claims es i (nation_row_at ws i)

    pub claims-numbered : claims_in ws es ≡ join_of claims_at (numbers_from 0 (length (nation_rows_in ws)))
    unfolding claims_in
    claims-numbered = ap (claims_from es 0) numbered ∙ go 0 (length (nation_rows_in ws))
      where
        go : (i n : ℕ) → claims_from es i (map (nation_row_at ws) (numbers_from i n)) ≡ join_of claims_at (numbers_from i n)
        go i zero = refl
        go i (suc n) = rw add-one (ap (λ (cs : List Claim). claims_at i ++ cs) (go (suc i) n))

-- ## The last initial

abbrev pub nation_steps : LentRows NationRow nation_width → code.Option NationRow → LentRows NationRow nation_width → Type 0
nation_steps = YieldsFirst (told_left nation_row_of)

-- The claim of a nation's number and its row.
abbrev pub numbered-claim : ℕ × NationRow → Claim
numbered-claim p = initial_claim p.0 p.1

-- The nations that are kept by their initial, as the code numbers them, have the claims to it.
numbered-kept : (tag : CountryTag) (i : ℕ) (rows : List NationRow)
    → map numbered-claim (filter (λ p. same_tag p.1.initial tag) (enumerate_from i rows)) ≡ keep (λ c. same_tag c.tag tag) (initials_from i rows)
numbered-kept tag i [] = refl
numbered-kept tag i (row ∷ rows) =
    cases (same_tag row.initial tag)
    (λ h. simp h (ap (λ (cs : List Claim). initial_claim i row ∷ cs) (numbered-kept tag (i + 1) rows)))
    (λ h. simp h (numbered-kept tag (i + 1) rows))

last-mapped : {A B : Type 0} (f : A → B) (xs : List A) → option_of (option_map f (code-last None xs)) ≡ last (map f xs)
last-mapped f [] = refl
last-mapped f (x ∷ xs) = ap (λ o. option_of (option_map f o)) (last-some x xs) ∙ ap some (go x xs)
  where
    go : (y : _) (ys : List _) → f (last_or y ys) ≡ last_or (f y) (map f ys)
    go y [] = refl
    go y (z ∷ ys) = go z ys

-- What `map` makes of an Option, by what its closure makes of the value.
pub option-mapped : {A B : Type 0} (f : A → B) (P : A → B → Type 0) → ((x : A) (y : B) → P x y → y ≡ f x) → (o : code.Option A) (m : code.Option B)
    → MatchOption o (m ≡ None) (λ x. IsSomeAnd m (P x)) → m ≡ option_map f o
option-mapped f P made None m d = d
option-mapped f P made (Some x) None d = elim d [ ]
option-mapped f P made (Some x) (Some y) d = ap Some (made x y d)

-- The last of them that came, and its claim.
pub initial-last : {F : Type 0} {it : LentRows NationRow nation_width} {en : Enumerate (LentRows NationRow nation_width)} {s : Filter (Enumerate (LentRows NationRow nation_width)) F}
    (g : Mut F (Bor (ℕ × NationRow) × Unit {0}) Bool) (tag : CountryTag) {f : F} (ws : List ℕ)
    → nations_left it ≡ nation_rows_in ws → enumerate_source en ≡ it → enumerate_count en ≡ 0 → filter_source s ≡ en → filter_callee s ≡ f
    → ((x : ℕ × NationRow) (b : Bool) (q : F) → CalledAt g f x b q → (q ≡ f) × (b ≡ same_tag x.1.initial tag))
    → (xs : List (ℕ × NationRow)) → Drains (filter_steps (enumerate_steps nation_steps) g) s xs → (r : code.Option (ℕ × NationRow)) → r ≡ code-last None xs
    → (m : code.Option Claim) → m ≡ option_map numbered-claim r → option_of m ≡ last_to tag (initial_claims ws)
initial-last {it = it} g tag ws rows source count from callee called xs d r e m k =
    let all : List (ℕ × NationRow) = enumerate_from 0 (told_left nation_row_of it) in
    let road =
    YieldsList-from_filter g (λ p. same_tag p.1.initial tag)
    (YieldsList-at from (YieldsList-from_enumerate (YieldsList-at source (YieldsList-from_first (λ n. n) (told_left nation_row_of) {s = it} (told_left nation_row_of it) refl)) count))
    callee called in
    let came : map (λ p. p) xs ≡ filter (λ p. same_tag p.1.initial tag) all = (YieldsList-end road xs d.1.0 d.1.1 None d.0 refl d.1.2).0 in
    ap option_of (k ∙ ap (option_map numbered-claim) e) ∙ last-mapped numbered-claim xs
    ∙ ap last (ap (map numbered-claim) (sym (map-id xs) ∙ came) ∙ numbered-kept tag 0 (told_left nation_row_of it) ∙ ap (λ rs. keep (λ c. same_tag c.tag tag) (initials_from 0 rs)) rows)

-- ## The best claim

-- The closure gives the later of two claims, and of equals the second, and stays as it was.
module _ {F : Type 0} (g : Mut F (Claim × (Claim × Unit {0})) Claim) (f : F)
    (called : (x y z : Claim) (q : F) → Called g f (x, (y, tt)) z q → (q ≡ f) × (some z ≡ cond (leb (claim_day x) (claim_day y)) (some y) (some x))) where
  -- The best so far, and then the claims behind it.
  best-turns : (xs : List Claim) (p q : F × Claim) → p.0 ≡ f → FoldsTo {P = F × Claim} (FoldTurn g) p xs q → some q.1 ≡ scan claim_day (some p.1) xs
  best-turns [] p q a z = ap (λ (w : F × Claim). some w.1) (sym z)
  best-turns (x ∷ xs) p q a z =
      let j = z.0 in
      let k = called p.1 x j.1 j.0 (subst (λ b. Called g b (p.1, (x, tt)) j.1 j.0) a z.1) in
      best-turns xs j q k.0 z.2 ∙ ap (λ (w : Option Claim). scan claim_day w xs) k.1

  pub best-reduced : {S : Type 0} {steps : S → code.Option Claim → S → Type 0} {s : S} (cs : List Claim) (r : code.Option Claim) → YieldsList steps (λ c. c) s cs
      → ReducesItems steps g s f r → option_of r ≡ greatest claim_day cs
  best-reduced cs None road d = ap (greatest claim_day) (YieldsList-end road [] d.1.0 d.1.1 None d.0 refl d.1.2).0
  best-reduced cs (Some y) road d =
      let all = d.3 in
      best-turns d.1 (f, d.0) (d.2, y) refl d.4 ∙ scan-greatest claim_day (d.0 ∷ d.1)
      ∙ ap (greatest claim_day) (sym (map-id (d.0 ∷ d.1)) ∙ (YieldsList-end road (d.0 ∷ d.1) all.1.0 all.1.1 None all.0 refl all.1.2).0)

-- The claims that a question asks about.
pub claims-asked : {F : Type 0} {it : Claims} {s : Filter Claims F} (g : Mut F (Bor Claim × Unit {0}) Bool) (p : Claim → Bool) {f : F} (cs : List Claim)
    → claims_left it ≡ cs → filter_source s ≡ it → filter_callee s ≡ f → ((x : Claim) (b : Bool) (q : F) → CalledAt g f x b q → (q ≡ f) × (b ≡ p x))
    → YieldsList (filter_steps (YieldsFirst claims_left) g) (λ c. c) s (keep p cs)
claims-asked g p cs left source callee called =
    rw (← filter_keep p cs) (YieldsList-from_filter g p (YieldsList-at source (YieldsList-from_first (λ c. c) claims_left cs left)) callee called)
