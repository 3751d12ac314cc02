-- Tests in turn, each with its number: the first that refuses tells, and its refusal is handed on as it is.
use Rattle.std.specs.Prelude as code
use Rattle.std.specs.Prelude.{Ok, Err, IsErr, IsErrAnd}
use mathlib.Core.Path.{◌≡◌, sym, ap, ◌∙◌}
use mathlib.Core.List.{List, ◌∷◌}
use Prim.Native.Nat.{ℕ, ◌<◌}
use native.Mathlib.Omega.{arith}
use Rattle.format.specs.declared.refused.Refusal.{Refusal}
use Rattle.format.specs.declared.refused.Refusal.TheVariants.{NotARecord, UnknownVersion, SizesDisagree, BadTag, BadDate, UndefinedFlag, Repeated, DatesReversed, LedgerYear, NoRoom, NotWellShaped, BadQuestion, NoSuchNation}
use Rattle.format.specs.RefusalNumber.{refusal_number, number_of}
use Rattle.format.specs.RecordNumber.{first_of}
use Rattle.format.proofs.FirstLaws.{first-pass, first-stop}

-- Every refusal has a number above 0.
pub refuses : (e : Refusal) → 0 < refusal_number e
refuses NotARecord = omega arith
refuses UnknownVersion = omega arith
refuses SizesDisagree = omega arith
refuses BadTag = omega arith
refuses BadDate = omega arith
refuses UndefinedFlag = omega arith
refuses Repeated = omega arith
refuses DatesReversed = omega arith
refuses LedgerYear = omega arith
refuses NoRoom = omega arith
refuses NotWellShaped = omega arith
refuses BadQuestion = omega arith
refuses NoSuchNation = omega arith

-- A test that passes leaves the answer to those behind it; one that refuses gives it.
pub pass : {n m : ℕ} (ns : List ℕ) → 0 ≡ n → m ≡ first_of ns → m ≡ first_of (n ∷ ns)
pass {n} ns h e = e ∙ sym (first-pass n ns (sym h))

pub stop : {n : ℕ} (ns : List ℕ) (e : Refusal) → refusal_number e ≡ n → refusal_number e ≡ first_of (n ∷ ns)
stop {n} ns e h = h ∙ sym (first-stop n ns (λ z. omega (arith, h, z, refuses e)))

-- What `?` returns.
pub handed-on : {A : Type 0} (r : code.Result A Refusal) (e : Refusal) → IsErr r × IsErrAnd r (λ x. x ≡ e) → number_of r ≡ refusal_number e
handed-on (Ok x) e h = absurd h.1
handed-on (Err x) e h = ap refusal_number h.1
