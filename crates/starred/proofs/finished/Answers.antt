-- The call's guarantee, of the cells that it left.
use Rattle.std.specs.Prelude as code
use Rattle.std.specs.Prelude.{Ok, Err, IfOk}
use mathlib.Core.List.{List}
use Prim.Native.Nat.{ℕ}
use Rattle.format.specs.declared.tag.CountryTag.{CountryTag}
use Rattle.format.specs.declared.date.Eu4Date.{Eu4Date}
use Rattle.format.specs.declared.refused.Refusal.{Refusal}
use Rattle.rules.specs.Finished.{FinishedCells}
use Rattle.chronicle.specs.declared.finished.FinishedAnswer.{FinishedAnswer}
use Rattle.chronicle.specs.Finishing.{answer_told, lent_slices}
use Rattle.starred.specs.FinishedRows.{FinishedRows}
use Rattle.starred.proofs.finished.Goals as goal

kept : (xs : List ℕ) (tag : CountryTag) (day : Eu4Date) (n e h k c b : List ℕ) (r : code.Result FinishedAnswer Refusal)
    → IfOk r (λ f. FinishedCells xs tag day (answer_told f) (lent_slices n e h k c b)) → IfOk r (λ f. FinishedRows xs tag day f n e)
kept xs tag day n e h k c b (Err x) g = tt
kept xs tag day n e h k c b (Ok f) g = record { holders = h; held = k; changes = c; bookings = b; guaranteed = g }

pub returns : goal.returns
returns c = kept c.args.s.now c.args.tag c.args.day _ _ _ _ _ _ c.finish_chronicle.result c.finish_chronicle.ensures.guaranteed
