use Rattle.std.proofs.Common.{rules}
use Rattle.record_check.proofs.TotalLaws.{sums-told}
use Rattle.record_check.proofs.sizes.totals_agree.Goals as goal

pub returns : goal.returns
returns c =
    let p = c.args.parsed in
    sums-told p.bytes.now p.head p.sections c.total.result c.total-2.result c.total-3.result c.total-4.result c.total-5.result p.head_read p.rows_read
    (c.total.ensures (λ r. r.previous) (λ row n p. search rules))
    (c.total-2.ensures (λ r. r.switches) (λ row n p. search rules))
    (c.total-3.ensures (λ r. r.events) (λ row n p. search rules))
    (c.total-4.ensures (λ n. n) (λ row n p. search rules))
    (c.total-5.ensures (λ r. r.points) (λ row n p. search rules))
