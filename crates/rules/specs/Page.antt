-- Rules 9: how a selection is read, and the page's text.
use Rattle.std.specs.Prelude.{Bool, true, false, cond, ◌||◌, not, List, [], ◌∷◌, ◌++◌, ℕ, zero, suc, ◌+◌, ◌/◌, ◌%◌, ltb, eqb, length}
use Rattle.std.proofs.Math.Option.{Option, none, some}
use Rattle.lists.specs.Lists.{keep, first_that, join_of, last}
use Rattle.lists.specs.Text.{ascii}
use Rattle.format.specs.declared.tag.CountryTag.{CountryTag}
use Rattle.format.specs.Tags.{created, same_tag}
use Rattle.format.specs.declared.values.Entry.{Entry}
use Rattle.rules.specs.Chronicle.{is_appeared, is_annexed, Nation}

-- ## The selection

-- One tag more, if it is a tag, a line feed follows it and the rest is read. (Rules 9.3)
abbrev pub one_more : Option CountryTag → Bool → Option (List CountryTag) → Option (List CountryTag)
one_more none feed rest = none
one_more (some t) false rest = none
one_more (some t) true none = none
one_more (some t) true (some ts) = some (t ∷ ts)

-- The tags of a selection, every one with a line feed behind it; none if the bytes are anything else. (Rules 9.3)
unfoldable pub selection_of : List ℕ → Option (List CountryTag)
selection_of [] = some []
selection_of (a ∷ []) = none
selection_of (a ∷ b ∷ []) = none
selection_of (a ∷ b ∷ c ∷ []) = none
selection_of (a ∷ b ∷ c ∷ d ∷ rest) = one_more (created (a ∷ b ∷ c ∷ [])) (eqb d 10) (selection_of rest)

-- The tags read, repeats counted; a selection that cannot be read has none. (Rules 9.3)
abbrev pub tags_read : Option (List CountryTag) → List CountryTag
tags_read none = []
tags_read (some ts) = ts

-- ## Fields and lines

-- A number's decimal digits, at most so many. (Rules 9.7)
unfoldable pub digits : ℕ → ℕ → List ℕ
digits zero n = []
digits (suc most) n = cond (ltb n 10) ((48 + n) ∷ []) (digits most (n / 10) ++ ((48 + n % 10) ∷ []))

-- Numbers in decimal without leading zeros; n + 1 digits always suffice. (Rules 9.7)
abbrev pub decimal : ℕ → List ℕ
decimal n = digits (n + 1) n

-- A tag's three bytes. (Rules 9.5)
abbrev pub tag_text : CountryTag → List ℕ
tag_text t = t.0 / 65536 ∷ t.0 / 256 % 256 ∷ t.0 % 256 ∷ []

-- Fields stand one space apart, and each line ends in a line feed. (Rules 9.7)
unfoldable pub line : List (List ℕ) → List ℕ
line [] = 10 ∷ []
line (f ∷ []) = f ++ (10 ∷ [])
line (f ∷ g ∷ fs) = f ++ (32 ∷ line (g ∷ fs))

-- ## The page

-- An entry, if there is one, is Annexed. (Rules 9.6)
abbrev pub ends_annexed : Option Entry → Bool
ends_annexed none = false
ends_annexed (some e) = is_annexed e.kind

-- A nation is living unless Annexed is the last of its entries that are no switches. Nothing else decides it. (Rules 9.6)
unfoldable pub is_living : Nation → Bool
is_living n = not (ends_annexed (last (keep (λ e. is_appeared e.kind || is_annexed e.kind) n.entries)))

-- For a tag read: stored, initial, latest, entry count and status of the nation stored under it; or the tag and `absent`. (Rules 9.5)
unfoldable pub tag_line : CountryTag → Option Nation → List ℕ
tag_line t none = line (tag_text t ∷ ascii "absent" ∷ [])
tag_line t (some n) =
    line
    (tag_text n.stored
    ∷ tag_text n.initial
    ∷ tag_text n.latest
    ∷ decimal (length n.entries)
    ∷ cond (is_living n) (ascii "living") (ascii "annexed")
    ∷ [])

-- How many tags were read, then a line for each of them, in their order. With none read, the first line is the page. (Rules 9.4)
unfoldable pub page_text : List Nation → List CountryTag → List ℕ
page_text ns tags =
    line (ascii "selected" ∷ decimal (length tags) ∷ [])
    ++ join_of (λ t. tag_line t (first_that (λ n. same_tag n.stored t) ns)) tags
