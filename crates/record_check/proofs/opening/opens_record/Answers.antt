-- The code asks for three bytes at once, the rule for one after the other.
use mathlib.Core.Path.{◌≡◌, refl, sym, ap, ◌∙◌}
use mathlib.Core.Bool.{Bool, true, false, ◌&&◌}
use mathlib.Core.List.{List, [], ◌∷◌}
use Prim.Native.Nat.{ℕ}
use borrow.Author.Tests.{eqb-true, eq-eqb}
use lib.ListN.{length}
use lib.Dec.{eqb, leb}
use Rattle.std.specs.List.{starts_with}
use Rattle.lists.proofs.BoolLaws.{cases, clash}
use Rattle.format.specs.RecordNumber.{opens}
use Rattle.format.specs.Head.{head_bytes}
use Rattle.record_check.proofs.opening.opens_record.Goals as goal

flip : (a b : ℕ) → eqb a b ≡ eqb b a
flip a b =
    cases (eqb a b)
    (λ h. h ∙ sym (eq-eqb b a (sym (eqb-true a b h))))
    (λ h. cases (eqb b a) (λ g. clash (eqb a b) (eq-eqb a b (sym (eqb-true b a g))) h) (λ g. h ∙ sym g))

three : (a b c : Bool) → a && (b && (c && true)) ≡ a && b && c
three false b c = refl
three true false c = refl
three true true false = refl
three true true true = refl

opens-told : (xs : List ℕ) → leb head_bytes (length xs) && starts_with eqb xs (65 ∷ 84 ∷ 76 ∷ []) ≡ opens xs
unfolding opens
opens-told [] = refl
opens-told (x ∷ []) = refl
opens-told (x ∷ y ∷ []) = refl
opens-told (x ∷ y ∷ z ∷ xs) =
    ap (λ b. leb head_bytes (length (x ∷ y ∷ z ∷ xs)) && b) (simp (flip 65 x, flip 84 y, flip 76 z) (three (eqb x 65) (eqb y 84) (eqb z 76)))

pub returns : goal.returns
returns c = ap (λ b. leb head_bytes (length c.args.s.now) && b) c.starts_with.ensures.value ∙ opens-told c.args.s.now
