use Rattle.std.proofs.Common.{ℕ, ◌<◌, arith}
use mathlib.Core.Path.{sym}
use Rattle.format.specs.Bytes.{byte_at}
use Rattle.record.proofs.NarrowLaws.{ids_narrow, tags_narrow}
use Rattle.record.proofs.SharedLaws.{events_counted, points_counted}
use Rattle.record.proofs.opened.Record.open.Goals as goal

-- The provinces' numbers are as small as their bytes, and they count as many events as there are.
pub invariant_of-result : goal.invariant_of-result
invariant_of-result c =
    let z = c.in_ok-accepted.ensures.rows.1 in
    let bytes : (i : ℕ) → byte_at c.args.s.now i < 256 = λ i. omega (arith, c.type_inv.s i) in
    let head = c.in_ok-accepted.ensures.rows.0 in
    record {
      narrow_ids = rw (c.new-4.ensures, z.provinces) (ids_narrow c.args.s.now bytes _ _);
      narrow_tags = rw (c.new-5.ensures, z.events) (tags_narrow c.args.s.now bytes _ _);
      counted = rw (c.new-4.ensures, c.new-5.ensures, z.provinces, z.events, head) (events_counted c.args.s.now (sym c.in_ok-accepted.ensures.number));
    }

-- The names count as many points as there are.
pub invariant_of-result-2 : goal.invariant_of-result-2
invariant_of-result-2 c =
    let z = c.in_ok-accepted.ensures.rows.1 in
    let head = c.in_ok-accepted.ensures.rows.0 in
    record { counted = rw (c.new-8.ensures, c.new-9.ensures, z.ledgers, z.points, head) (points_counted c.args.s.now (sym c.in_ok-accepted.ensures.number)) }
