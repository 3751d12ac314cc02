-- The reads of a case stand one behind the other, first its head.
use Rattle.std.proofs.Common.{rules, ◌≡◌, ◌≤◌, ℕ, List, ◌++◌, arith, length, length-append}
use Rattle.std.specs.Int.{to_le_bytes, w32}
use Rattle.std.proofs.KnownBytes.{Consumes-trans}
use Rattle.stored_input.specs.Reading.{number_bytes}
use Rattle.stored_input.proofs.NumberLaws.{length-number_bytes}
use Rattle.answer_vectors.proofs.CampaignsReplayNext.replay_next.Goals as goal

has_head : (first : ℕ) (rest xs ys zs ws : List ℕ) → length rest ≡ 6
    → 28 ≤ length (((((to_le_bytes w32 first ++ number_bytes rest) ++ xs) ++ ys) ++ zs) ++ ws)
has_head first rest xs ys zs ws six =
    let head = to_le_bytes w32 first ++ number_bytes rest in
    let a = length-append (((head ++ xs) ++ ys) ++ zs) ws in
    let b = length-append ((head ++ xs) ++ ys) zs in
    let c = length-append (head ++ xs) ys in
    let d = length-append head xs in
    let e = length-append (to_le_bytes w32 first) (number_bytes rest) in
    let n = length-number_bytes rest in
    omega arith

pub returns : goal.returns
returns g c =
    let first = rw c.in-Some.is at c.in_ok-len.ensures in
    let head = Consumes-trans _ _ _ _ _ first c.in_ok-rest.ensures.read in
    let s = Consumes-trans _ _ _ _ _ head c.in_ok-s.ensures.1 in
    let owners = Consumes-trans _ _ _ _ _ s c.in_ok-owners.ensures.1 in
    let days = Consumes-trans _ _ _ _ _ owners c.wrong_days-wrong_days.ensures.read.1 in
    (_, Consumes-trans _ _ _ _ _ days c.in_ok-left.ensures.1, has_head c.in-Some.len c.in_ok-rest.rest _ _ _ _ (search rules))
