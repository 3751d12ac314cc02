-- A text put behind what stands at the front.
use Rattle.std.proofs.Common.{◌≡◌, sym, ap, ◌∙◌, ℕ, ◌+◌, ◌≤◌, List, ◌++◌, length, take, drop, length-append, arith, append_assoc}
use lib.Seq.{take_at, drop_at, length-take-le, drop-drop}

module _ (k : ℕ) (out line rest all before : List ℕ) (room : k + length line ≤ length out) where
  abbrev after : List ℕ
  after = take k out ++ (line ++ drop (k + length line) out)

  front : length (take k out ++ line) ≡ k + length line
  front = length-append (take k out) line ∙ ap (λ n. n + length line) (length-take-le k out (omega (arith, room)))

  split : after ≡ (take k out ++ line) ++ drop (k + length line) out
  split = sym (append_assoc (take k out) line (drop (k + length line) out))

  pub put_front : take k out ++ (line ++ rest) ≡ all → take (k + length line) after ++ rest ≡ all
  put_front e =
      ap (λ xs. xs ++ rest) (ap (take (k + length line)) split ∙ take_at (take k out ++ line) (drop (k + length line) out) (k + length line) front)
      ∙ append_assoc (take k out) line rest
      ∙ e

  pub put_behind : drop k out ≡ drop k before → drop (k + length line) after ≡ drop (k + length line) before
  put_behind e =
      ap (drop (k + length line)) split ∙ drop_at (take k out ++ line) (drop (k + length line) out) (k + length line) front
      ∙ sym (drop-drop (length line) k out)
      ∙ ap (drop (length line)) e
      ∙ drop-drop (length line) k before
