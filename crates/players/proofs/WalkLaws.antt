-- The walk over players: of the pairs that are passed none gives a player, and the one at which it stops gives what it answers.
use mathlib.Core.Path.{◌≡◌, refl, sym, ap, subst, ◌∙◌}
use mathlib.Core.Bool.{Bool}
use mathlib.Core.List.{List, [], ◌∷◌, ◌++◌}
use Prim.Native.Nat.{ℕ, suc}
use denote.Param.Members.{Mut, Called}
use Rattle.std.specs.Prelude as code
use Rattle.std.specs.Prelude.{Some, None, IfSome, IsTrue, MatchOption, slice_get}
use Rattle.std.specs.List.{FoldsTo}
use Rattle.std.specs.Iterator.{YieldsFirst, YieldsFirstBy, Yields}
use Rattle.std.specs.Iterator.Runs.{Run, YieldsRun, SomeRun, AllItemsGive}
use Rattle.lists.specs.Lists.{join_of}
use Rattle.rules.specs.Players.{player_of}
use Rattle.players.specs.declared.pairs.Pair.{Pair}
use Rattle.players.specs.declared.pairs.Pairs.{Pairs}
use Rattle.format.specs.declared.values.Player.{Player}
use Rattle.players.specs.PairSteps.{pair_of, pairs_left}
use Rattle.players.specs.PlayerSteps.{players_made}

abbrev pair_steps : Pairs → code.Option Pair → Pairs → Type 0
pair_steps = YieldsFirstBy pair_of pairs_left

-- The closure gives the player of a pair, and stays as it was.
module _ {F : Type 0} (g : Mut F (Pair × Unit {0}) (code.Option Player)) (multiplayer : Bool) (f : F)
    (called : (x : Pair) (r : code.Option Player) (q : F) → Called g f (x, tt) r q → (q ≡ f) × (players_made r ≡ player_of multiplayer (pair_of x))) where
  abbrev told : Pairs → List Player
  told it = join_of (player_of multiplayer) (pairs_left it)

  pair-goes : (x : Pair) (r : code.Option Player) (q : F) (s t : Pairs) → Called g f (x, tt) r q → pairs_left s ≡ pair_of x ∷ pairs_left t → told s ≡ players_made r ++ told t
  pair-goes x r q s t h e = ap (join_of (player_of multiplayer)) e ∙ ap (λ ps. ps ++ told t) (sym (called x r q h).1)

  passed : (xs : List Pair) (s t : Pairs) (p q : F) → p ≡ f → Yields pair_steps s xs t → FoldsTo (λ a x b. Called g a (x, tt) None b) p xs q → (told s ≡ told t) × (q ≡ f)
  passed [] s t p q a y z = (ap told y, sym z ∙ a)
  passed (x ∷ xs) s t p q a y z =
      let h = subst (λ b. Called g b (x, tt) None z.0) a z.1 in
      let rest = passed xs y.0 t z.0 q (called x None z.0 h).0 y.2 z.2 in
      (pair-goes x None z.0 s y.0 h y.1 ∙ rest.0, rest.1)

  -- Every pair gave none.
  all-passed : (xs : List Pair) (at : ℕ → code.Option Pair) (s t : Pairs) → ((k : ℕ) → at k ≡ slice_get xs k) → ((k : ℕ) → IfSome (at k) (λ x. Called g f (x, tt) None f))
      → Yields pair_steps s xs t → told s ≡ told t
  all-passed [] at s t reads gave y = ap told y
  all-passed (x ∷ xs) at s t reads gave y =
      pair-goes x None f s y.0 (subst (λ (o : code.Option Pair). IfSome o (λ z. Called g f (z, tt) None f)) (reads 0) (gave 0)) y.1
      ∙ all-passed xs (λ k. at (suc k)) y.0 t (λ k. reads (suc k)) (λ k. gave (suc k)) y.2

  run-passed : (s : Pairs) (run : Run pair_steps) → run.from ≡ s → IsTrue run.whole → AllItemsGive run g f None → told s ≡ []
  unfolding YieldsRun
  run-passed s run e whole gave =
      let road = run.gave.0 in
      ap told (sym e) ∙ all-passed run.items run.at run.from road.0 run.gave.1 (gave (λ a r q h. (called a.0 r q h).0)) road.1
      ∙ ap (join_of (player_of multiplayer)) (road.2 whole).1.0

  -- What `find_map` leaves. That it answers with nothing at the end alone, its run tells.
  pub player-found : (xs : List Pair) (o : code.Option Pair) (q : F) (s t u : Pairs) (r : code.Option Player) (Q : Run pair_steps → Player → Type 0)
      → Yields pair_steps s xs t → pair_steps t o u → FoldsTo (λ a x b. Called g a (x, tt) None b) f xs q
      → MatchOption o (r ≡ None) (λ x. (h : F) × Called g q (x, tt) r h) → SomeRun pair_steps s (λ run. MatchOption r (IsTrue run.whole × AllItemsGive run g f None) (Q run))
      → YieldsFirst (λ (ps : List Player). ps) (told s) r (told u)
  player-found xs None q s t u r Q y e z d w =
      let p = passed xs s t f q refl y z in
      subst (λ (o : code.Option Player). YieldsFirst (λ (ps : List Player). ps) (told s) o (told u)) (sym d)
      (p.0 ∙ ap (join_of (player_of multiplayer)) e.0, ap (join_of (player_of multiplayer)) e.1)
  player-found xs (Some x) q s t u None Q y e z d w =
      let p = passed xs s t f q refl y z in
      let none = run-passed s w.0 w.1 w.2.0 w.2.1 in
      let h = subst (λ b. Called g b (x, tt) None d.0) p.1 d.1 in
      (none, sym (p.0 ∙ pair-goes x None d.0 t u h e) ∙ none)
  player-found xs (Some x) q s t u (Some v) Q y e z d w =
      let p = passed xs s t f q refl y z in
      p.0 ∙ pair-goes x (Some v) d.0 t u (subst (λ b. Called g b (x, tt) (Some v) d.0) p.1 d.1) e
