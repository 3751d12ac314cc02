-- Rules 2 and 10: what a call answers, and what lent memory holds afterwards. Every call that is lent memory
-- to write has an `outcome`; one that is lent none has an answer alone.
use Rattle.std.specs.Prelude as code
use Rattle.std.specs.Prelude.{Ok, Err}
use Rattle.format.specs.declared.refused.Refusal.{Refusal}
use Rattle.format.specs.RefusalNumber.{refusal_number}
use Rattle.std.specs.Prelude.{Bool, cond, List, ◌++◌, ℕ, zero, suc, leb, length, drop}

-- The answer of a call: refused by a number, or its values. (Rules 2.1)
pub data Answer (A : Type 0) : Type 0 where
  refused : ℕ → Answer A
  gives : A → Answer A

-- What the code answers: its values, or the number of its refusal. (Rules 11.7)
abbrev pub answer_of : {A B : Type 0} → (A → B) → code.Result A Refusal → Answer B
answer_of values (Ok x) = gives (values x)
answer_of values (Err e) = refused (refusal_number e)

-- A number other than 0 refuses, and is all that the call returns. Values may well say that there is nothing: that refuses nobody. (Rules 2.1)
abbrev pub answered : {A : Type 0} → ℕ → A → Answer A
answered zero values = gives values
answered (suc n) values = refused (suc n)

-- Lent memory after a call: exactly its former content if a number refuses, else what the call leaves. (Rules 2.1)
abbrev pub leaves : {M : Type 0} → ℕ → M → M → M
leaves zero after before = after
leaves (suc n) after before = before

-- A lent slice with an answer in it: the answer's cells, and every cell beyond them untouched. (Rules 10.2)
abbrev pub written : List ℕ → List ℕ → List ℕ
written cells before = cells ++ drop (length cells) before

-- A lent slice has room for its part of the answer. (Rules 2.16)
abbrev pub fits : List ℕ → List ℕ → Bool
fits cells before = leb (length cells) (length before)

-- 10: an output slice shorter than its answer. (Rules 2.16)
abbrev pub room_number : Bool → ℕ
room_number room = cond room 0 10

-- An answer and the lent memory after the call. (Rules 10.2)
pub record Outcome (A M : Type 0) : Type 0 where
  pub answer : Answer A
  pub memory : M

-- What the code answers, with the lent memory after the call. (Rules 11.7)
abbrev pub outcome_of : {A B M : Type 0} → (A → B) → code.Result A Refusal → M → Outcome B M
outcome_of values r after = record { answer = answer_of values r; memory = after }

-- The outcome of a call by its refusal number, its values, and the memory that it leaves and was lent. (Rules 10.2)
abbrev pub outcome : {A M : Type 0} → ℕ → A → M → M → Outcome A M
outcome number values after before = record { answer = answered number values; memory = leaves number after before }
