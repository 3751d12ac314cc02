-- Rules 4: the rows of a chronicle, written and read back, and when words are well shaped. The definitions above
-- take widths and positions of words from here alone.
use Rattle.std.specs.Prelude.{Bool, ◌&&◌, List, [], ◌∷◌, map, ℕ, zero, suc, ◌+◌, leb, eqb, length, get_or, take, drop}
use Rattle.std.proofs.Math.Option.{Option, none, some}
use Rattle.lists.specs.Lists.{all_of, join_of, is_whole, whole_rows}
use Rattle.format.specs.declared.tag.CountryTag.{CountryTag}
use Rattle.format.specs.declared.date.Eu4Date.{Eu4Date}
use Rattle.format.specs.Tags.{is_tag}
use Rattle.format.specs.Dates.{good_date}
use Rattle.format.specs.declared.values.EntryKind.{EntryKind}
use Rattle.format.specs.declared.values.Entry.{Entry}
use Rattle.format.specs.declared.values.NationRow.{NationRow}
use Rattle.format.specs.declared.values.EntryKind.TheVariants.{TagSwitch, Appeared, Annexed}
use Rattle.rules.specs.Chronicle.{Nation}

-- ## Nation rows

-- The width of a nation row. (Rules 4.11)
abbrev pub nation_width : ℕ
nation_width = 5

-- Its words, in that order. (Rules 4.11)
abbrev pub nation_row_words : NationRow → List ℕ
nation_row_words r = r.initial.0 ∷ r.latest.0 ∷ r.stored.0 ∷ r.first ∷ r.count ∷ []

-- Five words, read as a nation row. (Rules 4.19)
abbrev pub nation_row_of : List ℕ → NationRow
nation_row_of ws =
    record {
      initial = record { 0 = get_or ws 0 0 };
      latest = record { 0 = get_or ws 1 0 };
      stored = record { 0 = get_or ws 2 0 };
      first = get_or ws 3 0;
      count = get_or ws 4 0;
    }

-- Nation rows. The first nation's entries begin at the given number, those of each later one where those before it end. (Rules 4.13)
unfoldable pub nation_rows_from : ℕ → List Nation → List NationRow
nation_rows_from first [] = []
nation_rows_from first (n ∷ ns) =
    record {
      initial = n.initial;
      latest = n.latest;
      stored = n.stored;
      first = first;
      count = length n.entries;
    }
    ∷ nation_rows_from (first + length n.entries) ns

-- ## Entry rows

-- An entry row. Words that are lent may hold any kind and target. (Rules 4.12)
pub record EntryRow : Type 0 where
  pub date : Eu4Date
  pub kind : ℕ
  pub target : ℕ

-- The width of an entry row. (Rules 4.12)
abbrev pub entry_width : ℕ
entry_width = 3

-- Its words, in that order. (Rules 4.12)
abbrev pub entry_row_words : EntryRow → List ℕ
entry_row_words r = r.date.0 ∷ r.kind ∷ r.target ∷ []

-- Three words, read as an entry row. (Rules 4.19)
abbrev pub entry_row_of : List ℕ → EntryRow
entry_row_of ws = record { date = record { 0 = get_or ws 0 0 }; kind = get_or ws 1 0; target = get_or ws 2 0 }

-- Kind: 0 switch, 1 Appeared, 2 Annexed. Only a switch has a target. (Rules 4.12)
abbrev pub kind_word : EntryKind → ℕ
kind_word (TagSwitch t) = 0
kind_word Appeared = 1
kind_word Annexed = 2

abbrev pub target_word : EntryKind → ℕ
target_word (TagSwitch t) = t.0
target_word Appeared = 0
target_word Annexed = 0

-- The row of an entry. (Rules 4.12)
abbrev pub entry_row : Entry → EntryRow
entry_row e = record { date = e.date; kind = kind_word e.kind; target = target_word e.kind }

-- The kind that two words tell. Kinds above 2 are read as Annexed, and are refused by 11 before they count. (Rules 4.19)
abbrev pub kind_of : ℕ → ℕ → EntryKind
kind_of zero target = TagSwitch (record { 0 = target })
kind_of (suc zero) target = Appeared
kind_of (suc (suc n)) target = Annexed

-- The entry of a row. (Rules 4.19)
abbrev pub entry_of : EntryRow → Entry
entry_of r = record { date = r.date; kind = kind_of r.kind r.target }

-- ## The words of nations, and the nations of words

-- The nation words that nations give: their rows, the entries of the first from 0 on. (Rules 4.13)
unfoldable pub nation_words : List Nation → List ℕ
nation_words ns = join_of nation_row_words (nation_rows_from 0 ns)

-- The entry words that they give, nation by nation. (Rules 4.13)
unfoldable pub entry_words : List Nation → List ℕ
entry_words ns = join_of (λ e. entry_row_words (entry_row e)) (join_of (λ n. n.entries) ns)

-- The nation rows that words make. (Rules 4.19)
unfoldable pub nation_rows_in : List ℕ → List NationRow
nation_rows_in ws = map nation_row_of (whole_rows nation_width ws)

-- The entry rows that words make. (Rules 4.19)
unfoldable pub entry_rows_in : List ℕ → List EntryRow
entry_rows_in es = map entry_row_of (whole_rows entry_width es)

-- A nation row and the entry rows that it points at. (Rules 4.19)
abbrev pub nation_at : List EntryRow → NationRow → Nation
nation_at es r =
    record {
      initial = r.initial;
      latest = r.latest;
      stored = r.stored;
      entries = map entry_of (take r.count (drop r.first es));
    }

-- The nations that a chronicle's words tell: nation words, then entry words. (Rules 4.19)
unfoldable pub nations_in : List ℕ → List ℕ → List Nation
nations_in ws es = map (nation_at (entry_rows_in es)) (nation_rows_in ws)

-- ## Well shaped

-- Each tag word is a tag's. (Rules 4.20)
abbrev pub tags_shaped : NationRow → Bool
tags_shaped r = is_tag r.initial && is_tag r.latest && is_tag r.stored

-- A switch leads to a tag. The kinds 1 and 2 have a 0 there, and there are no further kinds. (Rules 4.20)
unfoldable pub kind_shaped : ℕ → ℕ → Bool
kind_shaped zero target = is_tag (record { 0 = target })
kind_shaped (suc n) target = leb (suc n) 2 && eqb target 0

-- The date is good, and so are kind and target. (Rules 4.20)
abbrev pub entry_shaped : EntryRow → Bool
entry_shaped r = good_date r.date && kind_shaped r.kind r.target

-- Each nation's entries begin where those before it end, the first nation's at a given number, and the last nation's use up the entry rows. (Rules 4.20)
unfoldable pub without_gap : ℕ → List NationRow → ℕ → Bool
without_gap first [] end = eqb first end
without_gap first (r ∷ rs) end = eqb r.first first && without_gap (first + r.count) rs end

-- A chronicle is WELL SHAPED: nation words and entry words, any words at all. (Rules 4.20)
unfoldable pub well_shaped : List ℕ → List ℕ → Bool
well_shaped ws es =
    is_whole nation_width ws
    && is_whole entry_width es
    && all_of tags_shaped (nation_rows_in ws)
    && all_of entry_shaped (entry_rows_in es)
    && without_gap 0 (nation_rows_in ws) (length (entry_rows_in es))

-- ## Holder per slot

-- A holder's word is its tag's, 0 for nobody. (Rules 4.15)
abbrev pub holder_word : Option CountryTag → ℕ
holder_word none = 0
holder_word (some t) = t.0
