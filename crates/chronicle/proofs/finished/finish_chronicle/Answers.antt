-- A refused record, or the outcome of the record that was opened; the guarantee holds of whatever that outcome is.
use Rattle.std.proofs.lemmas.Result.{err_from_is_err_and}
use Rattle.rules.proofs.FinishedLaws.{finished-code}
use Rattle.chronicle.specs.Finishing.{answer_told}
use Rattle.chronicle.proofs.FinishLaws.{stopped-record}
use Rattle.chronicle.proofs.finished.finish_chronicle.Goals.{In_ok-opened}
use Rattle.chronicle.proofs.finished.finish_chronicle.Goals as goal

pub returns-in_err-opened-clause-outcome : goal.returns-in_err-opened-clause-outcome
returns-in_err-opened-clause-outcome c =
    let p = err_from_is_err_and c.from_residual.result c.from_residual.ensures.1 in
    rw (p.1, p.2) (stopped-record c.args.s.now c.args.tag.0 c.args.day.0 _ _ c.in_err-opened.ensures.number)

pub returns-clause-outcome : goal.returns-clause-outcome
returns-clause-outcome c = rw c.in_ok-opened.ensures.bytes at c.finish_chronicle_of.ensures

pub returns-clause-guaranteed : goal.returns-clause-guaranteed
returns-clause-guaranteed c =
    finished-code answer_told c.args.s.now c.args.tag.0 c.args.day.0 _ _ c.finish_chronicle_of.result
    (rw c.in_ok-opened.ensures.bytes at c.finish_chronicle_of.ensures)
