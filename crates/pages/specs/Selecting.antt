-- How the code reads a selection: inner steps, which no public call's promise cites.
use Rattle.std.specs.Prelude as code
use Rattle.std.specs.Prelude.{◌≡◌, List, map, ℕ, MatchOption, Bool, eqb, get_or, ◌&&◌}
use Rattle.std.proofs.Math.Option.{none, some}
use Rattle.format.specs.declared.tag.CountryTag.{CountryTag}
use Rattle.format.specs.Tags.{is_tag}
use Rattle.format.specs.Bytes.{tag_at}
use Rattle.rules.specs.Page.{selection_of}
use Rattle.pages.specs.declared.selection.SelectedTags.{SelectedTags}

-- A line of four bytes is a tag with a line feed behind it.
unfoldable pub is_line : List ℕ → Bool
is_line line = eqb (get_or line 3 0) 10 && is_tag (tag_at line 0)

-- The tags of the lines that are left.
abbrev pub tags_left : SelectedTags → List CountryTag
tags_left s = map (λ line. tag_at line 0) s.lines.now

-- The bytes are those tags.
abbrev pub Selects : List ℕ → SelectedTags → Type 0
Selects xs s = selection_of xs ≡ some (tags_left s)

-- The bytes are those tags, or none.
abbrev pub IsTags : List ℕ → code.Option SelectedTags → Type 0
IsTags xs r = MatchOption r (selection_of xs ≡ none) (Selects xs)
