-- The reads of a case stand one behind the other, first its count and its head.
use Rattle.std.proofs.Common.{rules, ◌≡◌, ◌≤◌, List, ◌++◌, ℕ, arith, length, length-append, take, length-take-le}
use Rattle.std.proofs.KnownBytes.{Consumes-trans}
use Rattle.stored_input.specs.Reading.{number_bytes}
use Rattle.stored_input.proofs.NumberLaws.{length-number_bytes}
use Rattle.lent_vectors.proofs.VectorsReplayNext.replay_next.Goals as goal

has_head : (count : List ℕ) (n : ℕ) (head xs ys : List ℕ) → n ≡ 4 → length count ≡ 4 → length head ≡ 10
    → 44 ≤ length (((take n count ++ number_bytes head) ++ xs) ++ ys)
has_head count n head xs ys same four ten =
    let taken = length-take-le n count (omega arith) in
    let a = length-append ((take n count ++ number_bytes head) ++ xs) ys in
    let b = length-append (take n count ++ number_bytes head) xs in
    let c = length-append (take n count) (number_bytes head) in
    let m = length-number_bytes head in
    omega arith

pub returns : goal.returns
returns g c =
    let head = Consumes-trans _ _ _ _ _ c.in-Ok-eq4.ensures.read.1 c.in_ok-head.ensures.read in
    let numbers = Consumes-trans _ _ _ _ _ head c.in_ok-numbers.ensures.1 in
    (_, Consumes-trans _ _ _ _ _ numbers c.in_ok-record.ensures.1, has_head c.try_read_full.new.buf c.in-Ok-eq4.field-0 c.in_ok-head.head _ _ (search rules) (search rules) (search rules))
