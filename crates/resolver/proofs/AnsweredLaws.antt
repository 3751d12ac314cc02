-- What is looked up among the sorted keys of a block is the best of its claims.
use mathlib.Core.Path.{◌≡◌, refl, sym, ap, subst, ◌∙◌}
use mathlib.Core.Bool.{Bool, true, false}
use mathlib.Core.List.{List, [], ◌∷◌, ◌++◌, map, append_assoc, append-nil}
use mathlib.Core.Option
use mathlib.Core.Option.{Option, none, some}
use Prim.Native.Nat.{ℕ, ◌+◌, ◌<◌, ◌≤◌}
use native.Mathlib.Omega.{arith}
use borrow.Author.Tests.{leb-true, eqb-true, le-leb}
use lib.Dec.{leb}
use lib.ListN.{length, get_or, length-append}
use lib.Seq.{get_or_at}
use Rattle.lists.specs.Lists.{All, keep, last_or, last, or_else, greater_of, greatest}
use Rattle.lists.proofs.BoolLaws.{cases, and_left}
use Rattle.lists.proofs.ListLaws.{InOrder, all_map, all_both, all_keep, all-last}
use Rattle.lists.proofs.ElementLaws.{keep-map, keep_same}
use Rattle.sorting.specs.Sort.{insert_by, sort_by}
use Rattle.sorting.proofs.SortLaws.{all-kept, keep-sort, keys-in-order, leb-total, leb-trans}
use Rattle.format.specs.declared.tag.CountryTag.{CountryTag}
use Rattle.format.specs.declared.date.Eu4Date.{Eu4Date}
use Rattle.format.specs.Tags.{is_tag, same_tag}
use Rattle.format.specs.Dates.{not_after}
use Rattle.resolver.specs.declared.claims.Claim.{Claim}
use Rattle.resolver.specs.Claims.{is_asked, claim_day, best_of}
use Rattle.resolver.proofs.ResolvedLaws.{greatest-map}
use Rattle.resolver.specs.Layout.{claim_dates, claim_numbers}
use Rattle.resolver.specs.Keys.{lowest_key, keys_from, is_asked_key, last_asked}
use Rattle.resolver.specs.Passes.{claim_words, key_words}
use Rattle.resolver.proofs.KeyLaws.{GoodClaim, key-day, key-number, key-same-tag, asked-key}

-- ## The last of sorted keys is the greatest

last_cons : {A : Type 0} (x : A) (xs : List A) → last (x ∷ xs) ≡ or_else (last xs) (some x)
last_cons x [] = refl
last_cons x (y ∷ xs) = refl

abbrev greater : ℕ → Option ℕ → Option ℕ
greater = greater_of (λ k. k)

greater-some : (y z : ℕ) (o : Option ℕ) → leb y z ≡ false → or_else (greater y o) (some z) ≡ greater y (or_else o (some z))
greater-some y z none h = simp h
greater-some y z (some m) h = cases (leb y m) (λ t. simp t) (λ t. simp t)

last-insert : (y : ℕ) (s : List ℕ) → InOrder (λ k. k) s → last (insert_by leb y s) ≡ greater y (last s)
unfolding insert_by
last-insert y [] o = refl
last-insert y (z ∷ s) o =
    cases (leb y z)
    (λ h. let m : z ≤ last_or z s = all-last (λ k. z ≤ k) s z o.0 (omega arith) in
    let l = leb-true y z h in
    simp (h, le-leb y (last_or z s) (omega arith)))
    (λ h. simp h (last_cons z (insert_by leb y s) ∙ (ap (λ (a : Option ℕ). or_else a (some z)) (last-insert y s o.1) ∙ (greater-some y z (last s) h ∙ ap (greater y) (sym (last_cons z s))))))

last-sort : (ys : List ℕ) → last (sort_by leb ys) ≡ greatest (λ k. k) ys
unfolding sort_by
last-sort [] = refl
last-sort (y ∷ ys) = last-insert y (sort_by leb ys) (keys-in-order ys) ∙ ap (greater y) (last-sort ys)

last-kept : (p : ℕ → Bool) (ys : List ℕ) → last (keep p (sort_by leb ys)) ≡ greatest (λ k. k) (keep p ys)
last-kept p ys = ap last (keep-sort leb leb-total leb-trans p ys) ∙ last-sort (keep p ys)

-- ## The greatest by two numbers that compare alike

module _ {A : Type 0} (key other : A → ℕ) where
  abbrev Alike : List A → Type 0
  Alike [] = Unit {0}
  Alike (x ∷ xs) = All (λ y. leb (key x) (key y) ≡ leb (other x) (other y)) xs × Alike xs

  abbrev pub Has : (A → Type 0) → Option A → Type 0
  Has P none = Unit {0}
  Has P (some x) = P x

  pub greatest-has : (P : A → Type 0) (xs : List A) → All P xs → Has P (greatest key xs)
  greatest-has P [] q = tt
  greatest-has P (x ∷ xs) q = go (greatest key xs) (greatest-has P xs q.1)
    where
      go : (g : Option A) → Has P g → Has P (greater_of key x g)
      go none h = q.0
      go (some y) h = cases (leb (key x) (key y)) (λ t. simp t h) (λ t. simp t q.0)

  greatest-alike : (xs : List A) → Alike xs → greatest key xs ≡ greatest other xs
  greatest-alike [] q = refl
  greatest-alike (x ∷ xs) q =
      go (greatest key xs) (greatest-has (λ y. leb (key x) (key y) ≡ leb (other x) (other y)) xs q.0)
      ∙ ap (greater_of other x) (greatest-alike xs q.1)
    where
      go : (g : Option A) → Has (λ y. leb (key x) (key y) ≡ leb (other x) (other y)) g → greater_of key x g ≡ greater_of other x g
      go none h = refl
      go (some y) h = rw h

-- ## Claims with their numbers

record Numbered : Type 0 where
  claim : Claim
  number : ℕ

abbrev numbered_from : ℕ → List Claim → List Numbered
numbered_from k [] = []
numbered_from k (c ∷ cs) = record { claim = c; number = k } ∷ numbered_from (k + 1) cs

abbrev key_of : Numbered → ℕ
key_of z = lowest_key z.claim.tag z.claim.date + z.number

keys-numbered : (k : ℕ) (cs : List Claim) → keys_from k cs ≡ map key_of (numbered_from k cs)
unfolding keys_from
keys-numbered k [] = refl
keys-numbered k (c ∷ cs) = ap (λ (l : List ℕ). key_of (record { claim = c; number = k }) ∷ l) (keys-numbered (k + 1) cs)

claims-numbered : (k : ℕ) (cs : List Claim) → cs ≡ map (λ z. z.claim) (numbered_from k cs)
claims-numbered k [] = refl
claims-numbered k (c ∷ cs) = ap (λ (l : List Claim). c ∷ l) (claims-numbered (k + 1) cs)

-- A claim with its number in a block: it is good, and the number is small and leads to its nation.
record KeyedClaim (owners : List ℕ) (z : Numbered) : Type 0 where
  good : GoodClaim z.claim
  small : z.number < claim_numbers
  owner : get_or owners z.number 0 ≡ z.claim.nation

-- Claims in their order, with their nation numbers behind some owners and before others.
keyed-from : (front : List ℕ) (k : ℕ) (cs : List Claim) (back : List ℕ) → length front ≡ k → k + length cs ≤ claim_numbers → All GoodClaim cs
    → All (KeyedClaim (front ++ (map (λ c. c.nation) cs ++ back))) (numbered_from k cs)
keyed-from front k [] back h l q = tt
keyed-from front k (c ∷ cs) back h l q =
    let rest : List ℕ = map (λ x. x.nation) cs ++ back in
    let e : front ++ (c.nation ∷ rest) ≡ (front ++ (c.nation ∷ [])) ++ rest = sym (append_assoc front (c.nation ∷ []) rest) in (
      record { good = q.0; small = omega arith; owner = get_or_at front c.nation rest 0 k h },
      subst (λ (l : List ℕ). All (KeyedClaim l) (numbered_from (k + 1) cs)) (sym e)
          (keyed-from (front ++ (c.nation ∷ [])) (k + 1) cs back (simp length-append (omega arith)) (omega arith) q.1),
    )

-- All owners are theirs.
keyed-all : (cs : List Claim) → length cs ≤ claim_numbers → All GoodClaim cs → All (KeyedClaim (map (λ c. c.nation) cs)) (numbered_from 0 cs)
keyed-all cs l q =
    subst (λ (owners : List ℕ). All (KeyedClaim owners) (numbered_from 0 cs)) (append-nil (map (λ c. c.nation) cs)) (keyed-from [] 0 cs [] refl (omega arith) q)

-- Numbers grow along the list.
numbers-grow : (k : ℕ) (cs : List Claim) → All (λ z. k ≤ z.number) (numbered_from k cs)
numbers-grow k [] = tt
numbers-grow k (c ∷ cs) = (omega arith, all_map (λ z h. omega arith) (numbered_from (k + 1) cs) (numbers-grow (k + 1) cs))

module _ (owners : List ℕ) (tag : CountryTag) (date : Eu4Date) (t : is_tag tag ≡ true) (d : date.0 < claim_dates) where
  abbrev asks : Numbered → Bool
  asks z = is_asked tag date z.claim

  -- Of the claims to one tag, keys compare as dates do.
  alike : (k : ℕ) (cs : List Claim) → All (KeyedClaim owners) (numbered_from k cs) → Alike key_of (λ z. claim_day z.claim) (keep asks (numbered_from k cs))
  alike k [] q = tt
  alike k (c ∷ cs) q =
      cases (is_asked tag date c)
      (λ h. simp h (later h, alike (k + 1) cs q.1))
      (λ h. simp h (alike (k + 1) cs q.1))
    where
      same : (x : Claim) → is_asked tag date x ≡ true → x.tag ≡ tag
      same x h = ap (λ (w : ℕ). record { 0 = w }) (eqb-true x.tag.0 tag.0 (and_left (same_tag x.tag tag) (not_after x.date date) h))

      later : is_asked tag date c ≡ true
          → All (λ z. leb (lowest_key c.tag c.date + k) (key_of z) ≡ leb (claim_day c) (claim_day z.claim)) (keep asks (numbered_from (k + 1) cs))
      later h =
          all_map
          (λ z p. key-same-tag c q.0.good k q.0.small z.claim p.0.good (same c h ∙ sym (same z.claim p.1.1)) z.number p.0.small (omega (arith, p.1.0)))
          (keep asks (numbered_from (k + 1) cs))
          (all_both (KeyedClaim owners) (λ z. (k + 1 ≤ z.number) × (asks z ≡ true)) (keep asks (numbered_from (k + 1) cs))
          (all_keep (KeyedClaim owners) asks (numbered_from (k + 1) cs) q.1)
          (all_both (λ z. k + 1 ≤ z.number) (λ z. asks z ≡ true) (keep asks (numbered_from (k + 1) cs))
          (all_keep (λ z. k + 1 ≤ z.number) asks (numbered_from (k + 1) cs) (numbers-grow (k + 1) cs)) (all-kept asks (numbered_from (k + 1) cs))))

  module _ (cs : List Claim) (q : All (KeyedClaim owners) (numbered_from 0 cs)) where
    abbrev zs : List Numbered
    zs = keep asks (numbered_from 0 cs)

    found-key : last_asked tag date (sort_by leb (keys_from 0 cs)) ≡ Option.map key_of (greatest key_of zs)
    found-key =
        last-kept (is_asked_key tag date) (keys_from 0 cs)
        ∙ (ap (λ (l : List ℕ). greatest (λ k. k) (keep (is_asked_key tag date) l)) (keys-numbered 0 cs)
        ∙ (ap (greatest (λ (k : ℕ). k)) (keep-map (is_asked_key tag date) key_of (numbered_from 0 cs)
        ∙ ap (map key_of) (keep_same (λ z. is_asked_key tag date (key_of z)) asks (numbered_from 0 cs) (all_map (λ z p. asked-key tag date t d z.claim p.good z.number p.small) (numbered_from 0 cs) q)))
        ∙ greatest-map key_of (λ k. k) zs))

    found-claim : best_of tag date cs ≡ Option.map (λ z. z.claim) (greatest key_of zs)
    found-claim =
        ap (λ (l : List Claim). greatest claim_day (keep (is_asked tag date) l)) (claims-numbered 0 cs)
        ∙ (ap (greatest claim_day) (keep-map (is_asked tag date) (λ z. z.claim) (numbered_from 0 cs))
        ∙ (greatest-map (λ z. z.claim) claim_day zs
        ∙ ap (Option.map (λ (z : Numbered). z.claim)) (sym (greatest-alike key_of (λ z. claim_day z.claim) zs (alike 0 cs q)))))

    -- The words of the best claim are read off the key that was looked up.
    looked-words : claim_words (best_of tag date cs) ≡ key_words owners (last_asked tag date (sort_by leb (keys_from 0 cs)))
    looked-words =
        ap claim_words found-claim
        ∙ (go (greatest key_of zs) (greatest-has key_of (λ z. claim_day z.claim) (KeyedClaim owners) zs (all_keep (KeyedClaim owners) asks (numbered_from 0 cs) q))
        ∙ ap (key_words owners) (sym found-key))
      where
        go : (g : Option Numbered) → Has key_of (λ z. claim_day z.claim) (KeyedClaim owners) g → claim_words (Option.map (λ z. z.claim) g) ≡ key_words owners (Option.map key_of g)
        go none h = refl
        go (some z) h = simp (key-day z.claim h.good z.number h.small, key-number z.claim h.good z.number h.small, h.owner)

-- In a block whose claims are good, by their nation numbers.
pub block_words : (tag : CountryTag) (date : Eu4Date) → is_tag tag ≡ true → date.0 < claim_dates → (cs : List Claim) → All GoodClaim cs → length cs ≤ claim_numbers
    → claim_words (best_of tag date cs) ≡ key_words (map (λ c. c.nation) cs) (last_asked tag date (sort_by leb (keys_from 0 cs)))
block_words tag date t d cs q l = looked-words (map (λ c. c.nation) cs) tag date t d cs (keyed-all cs l q)
