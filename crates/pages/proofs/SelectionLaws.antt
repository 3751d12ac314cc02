-- A selection read line by line, four bytes each.
use Rattle.std.proofs.Common.{◌≡◌, refl, sym, ap, ◌∙◌, ℕ, zero, suc, ◌+◌, ◌*◌, ◌%◌, ◌/◌, ◌<◌, List, [], ◌∷◌, map, length, Bool, true, false, cond, ◌&&◌, eqb, arith}
use Rattle.std.proofs.Math.Option.{Option, none, some}
use borrow.Author.Tests.{eqb-true, eqb-false}
use Rattle.std.specs.Simd.{first_chunks}
use Rattle.std.specs.Bool.{then_some}
use Rattle.std.specs.List.{list_all}
use Rattle.format.specs.declared.tag.CountryTag.{CountryTag}
use Rattle.format.specs.Tags.{is_tag, tag_of, created}
use Rattle.format.specs.Bytes.{tag_at}
use Rattle.rules.specs.Page.{one_more, selection_of}
use Rattle.pages.specs.declared.selection.SelectedTags.{SelectedTags}
use Rattle.pages.specs.Selecting.{is_line, tags_left, IsTags}
use Rattle.pages.specs.declared.selection.TheConstants.{TAG_LINE}

-- One line more, by what it is.
one-line : (good feed : Bool) (t : CountryTag) (rest : Option (List CountryTag)) (all : Bool) (tags : List CountryTag)
    → rest ≡ cond all (some tags) none
    → one_more (cond good (some t) none) feed rest ≡ cond ((feed && good) && all) (some (t ∷ tags)) none
one-line true true t rest true tags e = rw e refl
one-line true true t rest false tags e = rw e refl
one-line true false t rest all tags e = refl
one-line false true t rest all tags e = refl
one-line false false t rest all tags e = refl

-- Whole lines: the tags of all of them, if each is a tag's.
lines_read : (n : ℕ) (xs : List ℕ) → length xs ≡ n * TAG_LINE
    → selection_of xs ≡ cond (list_all is_line (first_chunks TAG_LINE n xs)) (some (map (λ line. tag_at line 0) (first_chunks TAG_LINE n xs))) none
unfolding selection_of created tag_at is_line
lines_read zero [] e = refl
lines_read zero (a ∷ xs) e = absurd (omega (arith, e))
lines_read (suc n) [] e = absurd (omega (arith, e))
lines_read (suc n) (a ∷ []) e = absurd (omega (arith, e))
lines_read (suc n) (a ∷ b ∷ []) e = absurd (omega (arith, e))
lines_read (suc n) (a ∷ b ∷ c ∷ []) e = absurd (omega (arith, e))
lines_read (suc n) (a ∷ b ∷ c ∷ d ∷ xs) e =
    one-line (is_tag (tag_of a b c)) (eqb d 10) (tag_of a b c) (selection_of xs) (list_all is_line (first_chunks TAG_LINE n xs)) (map (λ line. tag_at line 0) (first_chunks TAG_LINE n xs))
    (lines_read n xs (omega (arith, e)))

-- With bytes behind the last whole line it is no tags.
torn_read : (n : ℕ) (xs : List ℕ) → n * TAG_LINE < length xs → length xs < n * TAG_LINE + TAG_LINE → selection_of xs ≡ none
unfolding selection_of
torn_read n [] p q = absurd (omega (arith, p))
torn_read n (a ∷ []) p q = refl
torn_read n (a ∷ b ∷ []) p q = refl
torn_read n (a ∷ b ∷ c ∷ []) p q = refl
torn_read zero (a ∷ b ∷ c ∷ d ∷ xs) p q = absurd (omega (arith, q))
torn_read (suc n) (a ∷ b ∷ c ∷ d ∷ xs) p q =
    ap (one_more (created (a ∷ b ∷ c ∷ [])) (eqb d 10)) (torn_read n xs (omega (arith, p)) (omega (arith, q)))
    ∙ unread (created (a ∷ b ∷ c ∷ [])) (eqb d 10)
  where
    unread : (o : Option CountryTag) (feed : Bool) → one_more o feed none ≡ none
    unread none feed = refl
    unread (some t) false = refl
    unread (some t) true = refl

-- All bytes: tags, if there is nothing behind the whole lines, and each of these is a tag's.
tags-told : (xs : List ℕ) (whole : Bool) → whole ≡ eqb (length xs % TAG_LINE) 0
    → selection_of xs
    ≡ cond (whole && list_all is_line (first_chunks TAG_LINE (length xs / TAG_LINE) xs)) (some (map (λ line. tag_at line 0) (first_chunks TAG_LINE (length xs / TAG_LINE) xs))) none
tags-told xs true e = let none-over = eqb-true (length xs % TAG_LINE) 0 (sym e) in lines_read (length xs / TAG_LINE) xs (omega (arith, none-over))
tags-told xs false e = let over = eqb-false (length xs % TAG_LINE) 0 (sym e) in torn_read (length xs / TAG_LINE) xs (omega (arith, over)) (omega arith)

-- The answer of a test, by what the bytes are.
answered : (xs : List ℕ) (tested : Bool) (tags : SelectedTags) → selection_of xs ≡ cond tested (some (tags_left tags)) none → IsTags xs (then_some tested tags)
answered xs true tags e = e
answered xs false tags e = e

pub is-read : (xs : List ℕ) (whole good : Bool) (tags : SelectedTags) → whole ≡ eqb (length xs % TAG_LINE) 0 → tags.lines.now ≡ first_chunks TAG_LINE (length xs / TAG_LINE) xs
    → good ≡ list_all is_line tags.lines.now → IsTags xs (then_some (whole && good) tags)
is-read xs whole good tags e lines each =
    answered xs (whole && good) tags (rw (each, lines) (tags-told xs whole e))
