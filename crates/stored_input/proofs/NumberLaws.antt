-- How many bytes numbers have, and what is told where a list breaks off in them.
use Rattle.std.proofs.Common.{◌≡◌, ℕ, ◌*◌, List, [], ◌∷◌, arith, length, refl}
use Rattle.std.specs.Prelude.{Result, Ok, Err, OnErr}
use Rattle.stored_input.specs.Reading.{number_bytes}

pub length-number_bytes : (ns : List ℕ) → length (number_bytes ns) ≡ 4 * length ns
length-number_bytes [] = refl
length-number_bytes (n ∷ ns) = let rest = length-number_bytes ns in omega arith

-- What holds anyway holds of an error.
pub on_err : {A E P : Type 0} (r : Result A E) → P → OnErr r P
on_err (Ok x) p = tt
on_err (Err e) p = p
