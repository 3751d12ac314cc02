use mathlib.Core.Path.{refl, sym, ap, ◌∙◌}
use mathlib.Core.List.{List, [], map}
use Prim.Native.Nat.{ℕ, ◌+◌}
use native.Mathlib.Omega.{arith}
use lib.ListN.{length, drop, replicate}
use Rattle.std.proofs.lemmas.List.{at_drop_all}
use Rattle.record_check.specs.Bitset.{is_marked, marking}
use Rattle.record_check.proofs.BitsetLaws.{length-marking, none-marked}
use Rattle.format.specs.Rows.{country_at}
use Rattle.record_check.proofs.RepeatLaws.{repeats, repeats-start, repeats-nil, repeats-hit, place_of, tag_seen, row-ahead, tag-row}
use Rattle.record_check.proofs.repeats.tag_twice.Goals as goal

abbrev word : List ℕ → ℕ
word row = (country_at row 0).tag.0

pub loop-row-init : goal.loop-row-init
loop-row-init c =
    record { size = refl; same = repeats-start (tag_seen (replicate 6859 0)) (λ y. none-marked 6859 (place_of y)) (map word c.args.rows.now) }

pub returns-then-contains : goal.returns-then-contains
returns-then-contains c =
    let l = c.loop-row in
    let place = c.place-p.ensures ∙ ap (λ k. place_of k.tag.0) c.unpack.ensures in
    let hit = ap (is_marked l.seen) (sym place) ∙ sym c.contains.ensures ∙ c.if-contains.true in
    sym (row-ahead word c.args.rows.now l.row-index [] (omega arith) (repeats (tag_seen l.seen)) ∙ repeats-hit (tag_seen l.seen) _ _ hit)
    ∙ l.invariant.same

pub loop-row-preserved : goal.loop-row-preserved
loop-row-preserved c =
    let l = c.loop-row in
    let place = c.place-p.ensures ∙ ap (λ k. place_of k.tag.0) c.unpack.ensures in
    let miss = ap (is_marked l.seen) (sym place) ∙ sym c.contains.ensures ∙ c.if-contains.false in
    let told = c.insert.ensures ∙ ap (marking l.seen) place in
    record {
      size = ap length told ∙ length-marking l.seen _ ∙ l.invariant.size;
      same =
          ap (λ seen. repeats (tag_seen seen) (map word (drop (l.row-index + 1) c.args.rows.now))) told
          ∙ sym (tag-row word c.args.rows.now l.row-index [] (omega arith) l.seen l.invariant.size c.requires miss)
          ∙ l.invariant.same;
    }

pub returns : goal.returns
returns c =
    let l = c.loop-row in
    sym (at_drop_all (λ r. repeats (tag_seen l.seen) (map word r)) c.args.rows.now l.row-index (omega arith) ∙ repeats-nil (tag_seen l.seen))
    ∙ l.invariant.same
