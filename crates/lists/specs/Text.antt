-- A text in ASCII, as its bytes. It renders no rule: the definitions above write the words of a page with it.
use mathlib.Core.List as L
use Rattle.std.specs.Prelude.{ℕ}
use Prim.Native.Char.{code}
use Prim.Native.String.{String, [], ◌∷◌}

abbrev pub ascii : String → L.List ℕ
ascii [] = L.List.[]
ascii (c ∷ cs) = L.List.◌∷◌ (code c) (ascii cs)
