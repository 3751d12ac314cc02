use mathlib.Core.Path.{◌≡◌, refl, sym, ap, ◌∙◌}
use mathlib.Core.Bool.{true, false, ◌||◌}
use mathlib.Core.List.{List, [], map}
use Prim.Native.Nat.{ℕ, ◌+◌, ◌<◌}
use native.Mathlib.Omega.{arith}
use borrow.Author.Tests.{le-ltb}
use lib.Dec.{ltb}
use lib.ListN.{length, get_or, set, drop, replicate, length-set}
use Rattle.std.proofs.lemmas.List.{at_drop_all}
use Rattle.lists.specs.Lists.{any_of}
use Rattle.lists.proofs.TableLaws.{blank-entry}
use Rattle.format.specs.Rows.{province_at}
use Rattle.record_check.proofs.RepeatLaws.{repeats-start, id_seen, ids_bad, ids-nil, id-hit, id-marked, row-ahead}
use Rattle.record_check.proofs.repeats.id_twice_or_above.Goals as goal

abbrev word : List ℕ → ℕ
word row = (province_at row 0).id.0

pub loop-row-init : goal.loop-row-init
loop-row-init c =
    let ids = map word c.args.rows.now in
    record { size = refl; same = ap (λ b. b || any_of (ltb (length c.args.rows.now)) ids) (repeats-start (id_seen (replicate 8001 false)) (λ y. blank-entry false 8001 y) ids) }

pub returns-then-seen-id : goal.returns-then-seen-id
returns-then-seen-id c =
    let l = c.loop-row in
    let id = c.from-id.ensures ∙ ap (λ p. p.id.0) c.unpack.ensures in
    let hit = ap (id_seen l.seen) (sym id) ∙ c.if-seen-id.true in
    sym (row-ahead word c.args.rows.now l.row-index [] (omega arith) (ids_bad (length c.args.rows.now) l.seen) ∙ id-hit (length c.args.rows.now) l.seen _ _ hit)
    ∙ l.invariant.same

pub loop-row-preserved : goal.loop-row-preserved
loop-row-preserved c =
    let l = c.loop-row in
    let n = length c.args.rows.now in
    let id : c.from-id.result ≡ word (get_or c.args.rows.now l.row-index []) = c.from-id.ensures ∙ ap (λ p. p.id.0) c.unpack.ensures in
    let miss = ap (id_seen l.seen) (sym id) ∙ c.if-seen-id.false in
    let low = ap (ltb n) (sym id) ∙ le-ltb n c.from-id.result c.if-above.false in
    let small : word (get_or c.args.rows.now l.row-index []) < length l.seen = omega (arith, id, l.invariant.size, c.requires) in
    record {
      size = simp length-set l.invariant.size;
      same =
          ap (λ k. ids_bad n (set l.seen k true) (map word (drop (l.row-index + 1) c.args.rows.now))) id
          ∙ sym (id-marked n l.seen _ _ low small miss)
          ∙ sym (row-ahead word c.args.rows.now l.row-index [] (omega arith) (ids_bad n l.seen))
          ∙ l.invariant.same;
    }

pub returns : goal.returns
returns c =
    let l = c.loop-row in
    sym (at_drop_all (λ r. ids_bad (length c.args.rows.now) l.seen (map word r)) c.args.rows.now l.row-index (omega arith) ∙ ids-nil (length c.args.rows.now) l.seen)
    ∙ l.invariant.same
