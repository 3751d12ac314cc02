-- An iterator that gives the first of what it has left, and leaves the others, comes nearer to its end.
use mathlib.Core.Path.{ap}
use mathlib.Core.List.{List}
use native.Mathlib.Omega.{arith}
use lib.ListN.{length}
use Rattle.std.specs.Prelude.{Option, Some, None}
use Rattle.std.specs.Iterator.{MakesProgress, YieldsFirstBy, item_count}

module _ {S A B : Type 0} (view : A → B) (rest : S → List B) {s t : S} where
  pub progress : {r : Option A} → YieldsFirstBy view rest s r t → MakesProgress (λ _. Unit {0}) (item_count rest) s r t
  progress {r = Some x} h = record { on = λ _. (tt, tt, omega (arith, ap length h)); keeps = tt; rests = λ _. tt }
  progress {r = None} h = record { on = λ _. tt; keeps = tt; rests = λ _. tt }
