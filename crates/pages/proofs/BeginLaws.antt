-- What a page begins with: the bytes counted.
use mathlib.Core.Path.{◌≡◌, ap}
use mathlib.Core.Bool.{true, false, cond, ◌||◌}
use mathlib.Core.List.{List}
use Prim.Native.Nat.{ℕ}
use lib.Dec.{ltb}
use lib.ListN.{length}
use Rattle.rules.specs.PageOutcomes.{bytes_number}
use Rattle.pages.proofs.OutcomeLaws.{either-past, neither-past}

module _ (xs selection : List ℕ) where
  pub bytes-many : (ltb 65536 (length xs) || ltb 65536 (length selection)) ≡ true → bytes_number xs selection ≡ 10
  unfolding bytes_number
  bytes-many h = ap (λ b. cond b 0 10) (either-past (length xs) (length selection) 65536 65536 h)

  pub bytes-few : (ltb 65536 (length xs) || ltb 65536 (length selection)) ≡ false → bytes_number xs selection ≡ 0
  unfolding bytes_number
  bytes-few h = ap (λ b. cond b 0 10) (neither-past (length xs) (length selection) 65536 65536 h)
