-- What a caller of `Record::open` knows of its answer.
use mathlib.Core.Path.{◌≡◌, subst}
use mathlib.Core.List.{List}
use Prim.Native.Nat.{ℕ, ◌<◌}
use native.Mathlib.Omega.{arith}
use Rattle.std.specs.Prelude.{Result, Ok, Err}
use Rattle.format.specs.declared.refused.Refusal.{Refusal}
use Rattle.format.specs.declared.refused.Refusal.TheVariants.{NotARecord, UnknownVersion, SizesDisagree, BadTag, BadDate, UndefinedFlag, Repeated, DatesReversed, LedgerYear, NoRoom, NotWellShaped, BadQuestion, NoSuchNation}
use Rattle.format.specs.RefusalNumber.{refusal_number}
use Rattle.format.specs.RecordNumber.{refusal}
use Rattle.record.specs.declared.opened.Record.{Record}
use Rattle.record.specs.Opened.{RightlyOpened}

-- No refusal has the number 0.
pub refusal_above : (e : Refusal) → 0 < refusal_number e
refusal_above NotARecord = omega arith
refusal_above UnknownVersion = omega arith
refusal_above SizesDisagree = omega arith
refusal_above BadTag = omega arith
refusal_above BadDate = omega arith
refusal_above UndefinedFlag = omega arith
refusal_above Repeated = omega arith
refusal_above DatesReversed = omega arith
refusal_above LedgerYear = omega arith
refusal_above NoRoom = omega arith
refusal_above NotWellShaped = omega arith
refusal_above BadQuestion = omega arith
refusal_above NoSuchNation = omega arith

module _ {xs : List ℕ} {r : Result Record Refusal} (o : RightlyOpened xs r) where
  -- The record that was opened has these bytes.
  pub opened-bytes : {k : Record} → r ≡ Ok k → k.bytes.now ≡ xs
  opened-bytes e = let t : RightlyOpened xs (Ok _) = subst (RightlyOpened xs) e o in t.bytes

  -- A refused record's number is above 0, and is that of its bytes.
  pub refused-told : {e : Refusal} → r ≡ Err e → (0 < refusal_number e) × (refusal_number e ≡ refusal xs)
  refused-told {e} f = let t : RightlyOpened xs (Err e) = subst (RightlyOpened xs) f o in (refusal_above e, t.number)
