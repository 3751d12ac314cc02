-- What the call knows behind the telling of its nations: which of the two it was.
use Rattle.std.specs.Prelude as code
use Rattle.std.specs.Prelude.{Some, None}
use mathlib.Core.Path.{◌≡◌, subst}
use mathlib.Core.List.{List}
use Prim.Native.Nat.{ℕ}
use Rattle.nations.specs.declared.gathered_nations.NationsTold.{NationsTold}
use Rattle.nations.specs.NationSteps.{NationsPlaced, NoRoomTold, nations_told}

module _ (xs : List ℕ) (holders held changes : ℕ) (slots keys : List ℕ) (p n : ℕ) (rows₀ rows₁ entries₀ entries₁ : List ℕ) (r : code.Option NationsTold)
    (told : nations_told xs holders held changes r slots keys p n rows₀ rows₁ entries₀ entries₁) where
  pub nations-placed : {t : NationsTold} → r ≡ Some t → NationsPlaced xs holders held changes t.sizes t.listed slots keys p n rows₀ rows₁ entries₀ entries₁
  nations-placed e = subst (λ (x : code.Option NationsTold). nations_told xs holders held changes x slots keys p n rows₀ rows₁ entries₀ entries₁) e told

  pub none_told : r ≡ None → NoRoomTold xs holders held changes rows₀ rows₁ entries₀ entries₁
  none_told e = subst (λ (x : code.Option NationsTold). nations_told xs holders held changes x slots keys p n rows₀ rows₁ entries₀ entries₁) e told
