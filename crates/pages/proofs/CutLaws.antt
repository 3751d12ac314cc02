-- The program prints the same of a file or an input that is cut behind its first 65,537 bytes: one byte past the limit is enough to refuse.
use mathlib.Core.Path.{◌≡◌, sym, ap, ◌∙◌}
use mathlib.Core.Bool.{cond, ◌&&◌}
use mathlib.Core.List.{List, []}
use mathlib.Core.Option.{Option, none, some, map}
use Prim.Native.Nat.{ℕ, ◌<◌}
use native.Mathlib.Omega.{arith}
use borrow.Author.Tests.{leb-true, leb-false, lt-leb}
use lib.Dec.{leb}
use lib.ListN.{length, take, length-take}
use lib.Seq.{take_all}
use Rattle.lists.proofs.BoolLaws.{cases, and-false}
use Rattle.format.proofs.FirstLaws.{first-stop}
use Rattle.rules.specs.PageOutcomes.{bytes_number, page_number, refused_line, call_program}
use Rattle.pages.proofs.PrintLaws.{prints-number, prints-unread}

-- The most bytes that are ever read of either.
abbrev pub most_read : ℕ
most_read = 65537

-- With more bytes than a page holds, the line of 10 is all.
module _ (xs selection : List ℕ) where
  many-printed : bytes_number xs selection ≡ 10 → call_program (some xs) selection ≡ refused_line 10
  unfolding page_number
  many-printed e = prints-number xs selection 10 (omega arith) (first-stop (bytes_number xs selection) _ (λ z. omega (arith, z, e)) ∙ e)

  long-file : 65536 < length xs → call_program (some xs) selection ≡ refused_line 10
  unfolding bytes_number
  long-file h = many-printed (ap (λ b. cond (b && leb (length selection) 65536) 0 10) (lt-leb (length xs) 65536 h))

  long-input : 65536 < length selection → call_program (some xs) selection ≡ refused_line 10
  unfolding bytes_number
  long-input h =
      many-printed
      (ap (λ b. cond (leb (length xs) 65536 && b) 0 10) (lt-leb (length selection) 65536 h) ∙ ap (λ b. cond b 0 10) (and-false (leb (length xs) 65536)))

-- What was cut is still past the limit; what was not cut is the same.
cut-long : (ys : List ℕ) → most_read < length ys → 65536 < length (take most_read ys)
cut-long ys h = omega (arith, length-take most_read ys, h)

module _ (xs selection : List ℕ) where
  file-cut : call_program (some (take most_read xs)) selection ≡ call_program (some xs) selection
  file-cut =
      cases (leb (length xs) most_read) (λ t. ap (λ ys. call_program (some ys) selection) (take_all most_read xs (leb-true (length xs) most_read t)))
      (λ f.
      let h : most_read < length xs = leb-false (length xs) most_read f in
      long-file (take most_read xs) selection (cut-long xs h) ∙ sym (long-file xs selection (omega (arith, h))))

  input-cut : call_program (some xs) (take most_read selection) ≡ call_program (some xs) selection
  input-cut =
      cases (leb (length selection) most_read) (λ t. ap (call_program (some xs)) (take_all most_read selection (leb-true (length selection) most_read t)))
      (λ f.
      let h : most_read < length selection = leb-false (length selection) most_read f in
      long-input xs (take most_read selection) (cut-long selection h) ∙ sym (long-input xs selection (omega (arith, h))))

-- So no more than that is ever read.
pub program-cut : (file : Option (List ℕ)) (selection : List ℕ) → call_program (map (take most_read) file) (take most_read selection) ≡ call_program file selection
program-cut none selection =
    prints-unread (take most_read selection) ∙ input-cut [] selection ∙ sym (prints-unread selection)
program-cut (some xs) selection = file-cut xs (take most_read selection) ∙ input-cut xs selection
