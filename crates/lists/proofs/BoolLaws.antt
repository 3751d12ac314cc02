-- Case distinction on a test, with the equation in hand; tests that are joined, and a test as a number.
use mathlib.Core.Path.{◌≡◌, refl, sym, ◌∙◌}
use mathlib.Core.Bool.{Bool, true, false, ◌&&◌, ◌||◌, true≢false}
use Prim.Native.Nat.{◌≤◌}
use native.Mathlib.Omega.{arith}
use Rattle.lists.specs.Lists.{one}

pub cases : {C : Type 0} (b : Bool) → (b ≡ true → C) → (b ≡ false → C) → C
cases true f g = f refl
cases false f g = g refl

pub clash : {C : Type 0} (b : Bool) → b ≡ true → b ≡ false → C
clash b p q = absurd (true≢false (sym p ∙ q))

pub and_left : (a b : Bool) → a && b ≡ true → a ≡ true
and_left true b h = refl
and_left false b h = h

pub and_right : (a b : Bool) → a && b ≡ true → b ≡ true
and_right true b h = h
and_right false b h = absurd (true≢false (sym h))

pub and-false : (a : Bool) → a && false ≡ false
and-false true = refl
and-false false = refl

pub neither : (a b : Bool) → (a || b) ≡ false → (a ≡ false) × (b ≡ false)
neither true b p = absurd (true≢false p)
neither false b p = (refl, p)

pub both : (a b : Bool) → (a && b) ≡ true → (a ≡ true) × (b ≡ true)
both a b p = (and_left a b p, and_right a b p)

pub one-small : (b : Bool) → one b ≤ 1
one-small true = omega arith
one-small false = omega arith
