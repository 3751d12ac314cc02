-- Rows by a function of a joining and of the row that stood there: pass over pass, and what is left in the end.
use mathlib.Core.Path.{◌≡◌, refl, sym, ap, ap₂, ◌∙◌}
use mathlib.Core.List.{List, [], ◌∷◌, ◌++◌, append_assoc}
use mathlib.Core.Option.{Option, none, some}
use Prim.Native.Nat.{ℕ, suc, ◌+◌, ◌*◌}
use native.Mathlib.Omega.{arith}
use lib.ListN.{length, take, drop, replicate}
use lib.Seq.{take_at, drop_at, drop-drop}
use Rattle.lists.specs.Lists.{All, join_of}
use Rattle.format.specs.declared.values.Joining.{Joining}
use Rattle.rules.specs.Bookings.{booking_width}
use Rattle.resolver.specs.declared.claims.Claim.{Claim}
use Rattle.resolver.specs.Claims.{best_of}
use Rattle.resolver.specs.Passes.{claim_words}
use Rattle.bookings.specs.Passes.{rows_by, best_booking_row}

-- Each row is as wide as a booking's.
abbrev pub Wide : (Joining → List ℕ → List ℕ) → Type 0
Wide row = (j : Joining) (r : List ℕ) → length (row j r) ≡ booking_width

pub best-wide : (cs : List Claim) (j : Joining) → length (best_booking_row cs j) ≡ booking_width
best-wide cs j = go (best_of j.tag j.date cs)
  where
    go : (o : Option Claim) → length (0 ∷ claim_words o) ≡ booking_width
    go none = refl
    go (some c) = refl

-- A pass over the rows of another.
pub rows-twice : (f g : Joining → List ℕ → List ℕ) → Wide g → (js : List Joining) (out : List ℕ) → rows_by f js (rows_by g js out) ≡ rows_by (λ j r. f j (g j r)) js out
unfolding rows_by
rows-twice f g w [] out = refl
rows-twice f g w (j ∷ js) out =
    let here : List ℕ = g j (take booking_width out) in
    let rest : List ℕ = rows_by g js (drop booking_width out) in
    ap₂ (λ (a b : List ℕ). f j a ++ rows_by f js b) (take_at here rest booking_width (w j (take booking_width out))) (drop_at here rest booking_width (w j (take booking_width out)))
    ∙ ap (λ (l : List ℕ). f j here ++ l) (rows-twice f g w js (drop booking_width out))

-- The same rows by another function.
pub rows_same : (f g : Joining → List ℕ → List ℕ) (js : List Joining) (out : List ℕ) → All (λ j. (r : List ℕ) → f j r ≡ g j r) js → rows_by f js out ≡ rows_by g js out
unfolding rows_by
rows_same f g [] out q = refl
rows_same f g (j ∷ js) out q = ap₂ (λ (a b : List ℕ). a ++ b) (q.0 (take booking_width out)) (rows_same f g js (drop booking_width out) q.1)

-- Rows that do not ask what stood there.
pub rows_join : (f : Joining → List ℕ) (js : List Joining) (out : List ℕ) → rows_by (λ j _. f j) js out ≡ join_of f js ++ drop (booking_width * length js) out
unfolding rows_by
rows_join f [] out = refl
rows_join f (j ∷ js) out =
    let e : booking_width + booking_width * length js ≡ booking_width * suc (length js) = omega arith in
    ap (λ (l : List ℕ). f j ++ l) (rows_join f js (drop booking_width out))
    ∙ (sym (append_assoc (f j) (join_of f js) (drop (booking_width * length js) (drop booking_width out)))
    ∙ ap (λ (l : List ℕ). (f j ++ join_of f js) ++ l) (drop-drop (booking_width * length js) booking_width out ∙ ap (λ (n : ℕ). drop n out) e))

-- Words that are all 0.
pub rows-blank : (js : List Joining) → join_of {B = ℕ} (λ (j : Joining). 0 ∷ 0 ∷ 0 ∷ []) js ≡ replicate (booking_width * length js) 0
rows-blank [] = refl
rows-blank (j ∷ js) =
    let e : booking_width * suc (length js) ≡ suc (suc (suc (booking_width * length js))) = omega arith in
    rw e (ap (λ (l : List ℕ). 0 ∷ 0 ∷ 0 ∷ l) (rows-blank js))
