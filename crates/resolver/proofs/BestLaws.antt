-- The best claim of two lists one behind the other, and its words.
use mathlib.Core.Path.{◌≡◌, refl, sym, ap, ◌∙◌}
use mathlib.Core.Bool.{false, cond}
use mathlib.Core.List.{List, [], ◌∷◌, ◌++◌}
use mathlib.Core.Option.{Option, none, some}
use Prim.Native.Nat.{ℕ, ◌+◌, ◌%◌}
use native.Mathlib.Omega.{arith}
use borrow.Author.Tests.{leb-true, leb-false, le-leb, lt-leb, ne_eqb}
use lib.Dec.{leb, eqb}
use lib.ListN.{get_or}
use Rattle.lists.specs.Lists.{keep, greater_of, greatest}
use Rattle.lists.proofs.BoolLaws.{cases}
use Rattle.lists.proofs.ListLaws.{keep_append}
use Rattle.format.specs.declared.tag.CountryTag.{CountryTag}
use Rattle.format.specs.declared.date.Eu4Date.{Eu4Date}
use Rattle.resolver.specs.declared.claims.Claim.{Claim}
use Rattle.resolver.specs.Claims.{is_asked, claim_day, best_of}
use Rattle.resolver.specs.Layout.{row_owners}
use Rattle.resolver.specs.Keys.{key_day, key_number}
use Rattle.resolver.specs.Passes.{claim_words, key_words, updated}

-- ## Two lists

-- The better of two: the later one's, unless the first one's has a greater number.
abbrev merged : Option Claim → Option Claim → Option Claim
merged o none = o
merged none (some y) = some y
merged (some x) (some y) = cond (leb (claim_day x) (claim_day y)) (some y) (some x)

greater-merged : (x : Claim) (o p : Option Claim) → greater_of claim_day x (merged o p) ≡ merged (greater_of claim_day x o) p
greater-merged x none none = refl
greater-merged x (some y) none = refl
greater-merged x none (some z) = refl
greater-merged x (some y) (some z) =
    let a = claim_day x in
    let b = claim_day y in
    let c = claim_day z in
    cases (leb a b)
    (λ p. let p' = leb-true a b p in
    cases (leb b c)
    (λ q. let q' = leb-true b c q in simp (p, q, le-leb a c (omega arith)))
    (λ q. simp (p, q)))
    (λ p. let p' = leb-false a b p in
    cases (leb b c)
    (λ q. simp (p, q))
    (λ q. let q' = leb-false b c q in simp (p, q, lt-leb a c (omega arith))))

greatest-append : (xs ys : List Claim) → greatest claim_day (xs ++ ys) ≡ merged (greatest claim_day xs) (greatest claim_day ys)
greatest-append [] ys = go (greatest claim_day ys)
  where
    go : (o : Option Claim) → o ≡ merged none o
    go none = refl
    go (some y) = refl
greatest-append (x ∷ xs) ys = ap (greater_of claim_day x) (greatest-append xs ys) ∙ greater-merged x (greatest claim_day xs) (greatest claim_day ys)

best-append : (tag : CountryTag) (date : Eu4Date) (xs ys : List Claim) → best_of tag date (xs ++ ys) ≡ merged (best_of tag date xs) (best_of tag date ys)
best-append tag date xs ys =
    ap (greatest claim_day) (keep_append (is_asked tag date) xs ys) ∙ greatest-append (keep (is_asked tag date) xs) (keep (is_asked tag date) ys)

-- ## Words

no_word : {C : Type 0} (n : ℕ) → 0 ≡ n + 1 → C
no_word n e = absurd (omega arith)

update-best : (owners : List ℕ) (o p : Option Claim) (k : Option ℕ) → claim_words p ≡ key_words owners k
    → updated owners k (get_or (claim_words o) 0 0) (get_or (claim_words o) 1 0) ≡ claim_words (merged o p)
update-best owners none none none e = refl
update-best owners (some x) none none e = refl
update-best owners o (some y) none e = no_word (y.nation % row_owners) (sym (ap (λ (l : List ℕ). get_or l 1 0) e))
update-best owners o none (some k) e = no_word _ (ap (λ (l : List ℕ). get_or l 1 0) e)
update-best owners none (some y) (some k) e = sym e
update-best owners (some x) (some y) (some k) e =
    let d : claim_day y ≡ key_day k = ap (λ (l : List ℕ). get_or l 0 0) e in
    let f : eqb (x.nation % row_owners + 1) 0 ≡ false = ne_eqb (x.nation % row_owners + 1) 0 (λ z. omega arith) in
    let w : y.nation % row_owners + 1 ≡ get_or owners (key_number k) 0 % row_owners + 1 = ap (λ (l : List ℕ). get_or l 1 0) e in
    cases (leb (claim_day x) (claim_day y))
    (λ h. simp (f, ← d, h) (ap (λ (n : ℕ). claim_day y ∷ n ∷ []) (sym w)))
    (λ h. simp (f, ← d, h))

-- A row after a block, by its words before.
pub block-best : (owners : List ℕ) (tag : CountryTag) (date : Eu4Date) (xs ys : List Claim) (k : Option ℕ) → claim_words (best_of tag date ys) ≡ key_words owners k
    → updated owners k (get_or (claim_words (best_of tag date xs)) 0 0) (get_or (claim_words (best_of tag date xs)) 1 0) ≡ claim_words (best_of tag date (xs ++ ys))
block-best owners tag date xs ys k e =
    update-best owners (best_of tag date xs) (best_of tag date ys) k e ∙ ap claim_words (sym (best-append tag date xs ys))
