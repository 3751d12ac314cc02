-- The Option of the code, as the definitions have it.
use Rattle.std.specs.Prelude as code
use Rattle.std.specs.Prelude.{Some, None, Ok, Err}
use Rattle.std.proofs.Math.Option.{Option, none, some}

abbrev pub option_of : {A : Type 0} → code.Option A → Option A
option_of (Some x) = some x
option_of None = none

-- What a Result of the code gives, whatever its error.
abbrev pub ok_of : {A E : Type 0} → code.Result A E → Option A
ok_of (Ok x) = some x
ok_of (Err e) = none
