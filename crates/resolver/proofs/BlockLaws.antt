-- A block is filled claim by claim: keys and nation numbers of those taken stand in front, and the walk has the others left.
use mathlib.Core.Path.{◌≡◌, refl, sym, ap, ◌∙◌}
use mathlib.Core.Bool.{not}
use mathlib.Core.List.{List, [], ◌∷◌, ◌++◌, map}
use Prim.Native.Nat.{ℕ, suc, ◌+◌, ◌-◌, ◌<◌, ◌≤◌, min}
use native.Mathlib.Nat.{sub-zero}
use native.Mathlib.Omega.{arith}
use borrow.Author.Tests.{eqb-true, eqb-false}
use lib.Dec.{eqb}
use lib.ListN.{length, take, drop, set, length-map, length-take, length-set, length-append}
use lib.Seq.{length-take-le, drop-drop, drop-nil, take-nil}
use Rattle.std.specs.Prelude as code
use Rattle.std.specs.Prelude.{IfSome}
use Rattle.std.specs.Bool.{then_some}
use Rattle.lists.proofs.BoolLaws.{cases}
use Rattle.lists.proofs.FillLaws.{Filling, filling-new, filling-one, filling-put, filling-count, filling-written}
use Rattle.sorting.specs.Sort.{Sorts, cleared}
use Rattle.sorting.proofs.SortedKeyLaws.{sorted_front}
use Rattle.resolver.specs.declared.claims.Claim.{Claim}
use Rattle.resolver.specs.Layout.{claim_numbers}
use Rattle.resolver.specs.Keys.{lowest_key, keys_from, Fills, SortsBlock, block_room}
use Rattle.resolver.specs.Holding.{taken_told}

abbrev nations : List Claim → List ℕ
nations cs = map (λ c. c.nation) cs

pub length-keys : (k : ℕ) (cs : List Claim) → length (keys_from k cs) ≡ length cs
unfolding keys_from
length-keys k [] = refl
length-keys k (c ∷ cs) = ap suc (length-keys (k + 1) cs)

keys-cons : (k : ℕ) (c : Claim) (cs : List Claim) → keys_from k (c ∷ cs) ≡ (lowest_key c.tag c.date + k) ∷ keys_from (k + 1) cs
unfolding keys_from
keys-cons k c cs = refl

keys-nil : (k : ℕ) → keys_from k [] ≡ []
unfolding keys_from
keys-nil k = refl

few-taken : (n : ℕ) (cs : List Claim) → length (take n cs) ≤ n
few-taken n cs = simp length-take (omega arith)

-- So many claims of those left are taken, with so much room for all of them.
pub record Taking (left rest : List Claim) (room count : ℕ) (keys₀ keys owners₀ owners : List ℕ) : Type 0 where
  pub inside : count ≤ room
  pub few : room ≤ claim_numbers
  pub keys_wide : room ≤ length keys
  pub owners_wide : room ≤ length owners
  pub behind : rest ≡ drop count left
  pub keys_so_far : Filling (keys_from 0 (take room left)) (keys_from count (take (room - count) rest)) keys₀ count keys
  pub owners_so_far : Filling (nations (take room left)) (nations (take (room - count) rest)) owners₀ count owners

pub taking-start : (left : List Claim) (room m : ℕ) (keys owners : List ℕ) → m ≡ min (length keys) (length owners) → room ≡ min m claim_numbers
    → Taking left left room 0 keys keys owners owners
taking-start left room m keys owners p q =
    let a : room ≤ length keys = omega arith in
    let b : room ≤ length owners = omega arith in
    record {
      inside = omega arith;
      few = omega arith;
      keys_wide = a;
      owners_wide = b;
      behind = refl;
      keys_so_far = rw (sub-zero room) (filling-new (keys_from 0 (take room left)) keys (omega (arith, length-keys 0 (take room left), few-taken room left)));
      owners_so_far = rw (sub-zero room) (filling-new (nations (take room left)) owners (omega (arith, length-map (take room left) (λ (c : Claim). c.nation), few-taken room left)));
    }

module _ (left rest : List Claim) (room count : ℕ) (keys₀ keys owners₀ owners : List ℕ) (t : Taking left rest room count keys₀ keys owners₀ owners) where
  pub taking-next : (c : Claim) (rest' : List Claim) (key : ℕ) → count < room → rest ≡ c ∷ rest' → key ≡ lowest_key c.tag c.date
      → Taking left rest' room (count + 1) keys₀ (set keys count (key + count)) owners₀ (set owners count c.nation)
  taking-next c rest' key h e k =
      let more : room - count ≡ suc (room - (count + 1)) = omega arith in
      let first : take (room - count) rest ≡ c ∷ take (room - (count + 1)) rest' = rw (more, e) in
      record {
        inside = omega arith;
        few = t.few;
        keys_wide = simp length-set t.keys_wide;
        owners_wide = simp length-set t.owners_wide;
        behind = next-behind;
        keys_so_far =
            filling-put _ _ _ _ _ t.keys_so_far (lowest_key c.tag c.date + count) _ (ap (keys_from count) first ∙ keys-cons count c _) (key + count) (ap (λ (x : ℕ). x + count) k);
        owners_so_far = filling-one _ _ _ _ _ t.owners_so_far c.nation _ (ap nations first);
      }
    where
      next-behind : rest' ≡ drop (count + 1) left
      next-behind = sym (sym (drop-drop 1 count left) ∙ ap (drop 1) (sym t.behind ∙ e))

  taken : (l : List Claim) → take (room - count) rest ≡ [] → rest ≡ l → l ≡ drop room left → Fills left rest room count keys₀ keys owners₀ owners
  taken l none e d =
      record {
        counted =
            filling-count _ _ _ _ _ t.owners_so_far (ap nations none)
            ∙ length-map (take room left) (λ (c : Claim). c.nation);
        behind = e ∙ d;
        keys = filling-written _ _ _ _ _ t.keys_so_far (ap (keys_from count) none ∙ keys-nil count);
        owners = filling-written _ _ _ _ _ t.owners_so_far (ap nations none);
      }

  -- The walk has come to its end.
  pub taking-end : rest ≡ [] → Fills left rest room count keys₀ keys owners₀ owners
  taking-end e =
      let i = t.inside in
      let far : count + (room - count) ≡ room = omega arith in
      taken [] (ap (take (room - count)) e ∙ take-nil (room - count)) e
      (sym (ap (λ (n : ℕ). drop n left) (sym far) ∙ sym (drop-drop (room - count) count left) ∙ ap (drop (room - count)) (sym t.behind ∙ e) ∙ drop-nil (room - count)))

  -- There is no more room.
  pub taking-full : room ≤ count → Fills left rest room count keys₀ keys owners₀ owners
  taking-full h =
      let i = t.inside in
      let z : room - count ≡ 0 = omega arith in
      let e : count ≡ room = omega arith in
      taken (drop room left) (rw z) (t.behind ∙ ap (λ (n : ℕ). drop n left) e) refl

-- What was filled, by the room that the slices have and by what is left.
pub block-told : (left rest rest' : List Claim) (m room count count' : ℕ) (keys₀ keys₁ owners₀ owners₁ : List ℕ) → Fills left rest room count keys₀ keys₁ owners₀ owners₁
    → m ≡ min (length keys₀) (length owners₀) → room ≡ min m claim_numbers → rest ≡ rest' → count ≡ count' → Fills left rest' (block_room keys₀ owners₀) count' keys₀ keys₁ owners₀ owners₁
block-told left rest rest' m room count count' keys₀ keys₁ owners₀ owners₁ f p q r s =
    let e : room ≡ block_room keys₀ owners₀ = q ∙ ap (λ (n : ℕ). min n claim_numbers) p in rw (← r, ← s, ← e) f

-- ## The sort

-- What was filled has been sorted in its place.
pub block-sorted : (left rest : List Claim) (room count : ℕ) (keys₀ keys₁ sorted owners₀ owners₁ scratch₀ scratch₁ : List ℕ) → Fills left rest room count keys₀ keys₁ owners₀ owners₁
    → Sorts (take count keys₁) sorted scratch₀ scratch₁ → (told : ℕ) → told ≡ count → SortsBlock left rest room told keys₀ (sorted ++ drop count keys₁) owners₀ owners₁
block-sorted left rest room count keys₀ keys₁ sorted owners₀ owners₁ scratch₀ scratch₁ f s told t =
    rw t
    record {
      counted = f.counted;
      behind = f.behind;
      keys = rw sub-zero at (sorted_front (keys_from 0 (take room left)) keys₀ keys₁ sorted count f.keys (f.counted ∙ sym (length-keys 0 (take room left))) (rw sub-zero s.keys));
      owners = f.owners;
    }

-- What the sort leaves in its scratch.
pub scratch-cleared : (count : ℕ) (keys sorted scratch₀ scratch₁ : List ℕ) → count ≤ length keys → Sorts (take count keys) sorted scratch₀ scratch₁ → (told : ℕ) → told ≡ count → scratch₁ ≡ cleared told scratch₀
scratch-cleared count keys sorted scratch₀ scratch₁ h s told t = rw t (rw (length-take-le count keys h) at s.scratch)

-- How many were taken: nothing in place of none.
pub taken-some : (count : ℕ) (r : code.Option ℕ) → r ≡ then_some (not (eqb count 0)) count → (taken_told r ≡ count) × IfSome r (λ n. 0 < n)
taken-some count r e =
    cases (eqb count 0)
    (λ h. rw (e, h) (sym (eqb-true count 0 h), tt))
    (λ h. let some : ¬ (count ≡ 0) = eqb-false count 0 h in rw (e, h) (refl, omega arith))

-- The block lies inside its keys.
pub block_inside : (left rest : List Claim) (room count : ℕ) (keys₀ keys₁ owners₀ owners₁ : List ℕ) → Fills left rest room count keys₀ keys₁ owners₀ owners₁ → count ≤ length keys₁
block_inside left rest room count keys₀ keys₁ owners₀ owners₁ f =
    omega (arith, f.counted, length-keys 0 (take room left), ap length f.keys ∙ length-append (keys_from 0 (take room left)) _)
