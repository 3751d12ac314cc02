-- The invariant: the changes passed are counted by both tests.
use Rattle.format.specs.Dates.{earlier, same_date}
use Rattle.owner_changes.specs.ChangeSteps.{changes_left, entered}
use Rattle.owner_changes.proofs.CountLaws.{CountingChanges}
use Rattle.owner_changes.proofs.owners.count_on.Given as goal

abbrev pub invariant-loop-change : goal.invariant-loop-change
invariant-loop-change l =
    CountingChanges (λ x. earlier x.date l.day) (entered l.fn.opened.bytes.now) (changes_left l.change-iterator) l.first
    × CountingChanges (λ x. same_date x.date l.day) (entered l.fn.opened.bytes.now) (changes_left l.change-iterator) l.count
