-- Rules 9: its limits and refusal numbers, the outcome of the page's call, and what the program prints. How an outcome becomes the one
-- number that a C function returns is said in the crate page.
use Rattle.std.specs.Prelude.{cond, ◌&&◌, List, [], ◌∷◌, ℕ, leb, length}
use Rattle.std.proofs.Math.Option.{Option, none, some}
use Rattle.lists.specs.Lists.{join_of}
use Rattle.lists.specs.Text.{ascii}
use Rattle.format.specs.declared.tag.CountryTag.{CountryTag}
use Rattle.format.specs.Campaign.{Campaign, campaign_of}
use Rattle.format.specs.RecordNumber.{first_of, refusal}
use Rattle.rules.specs.Lent.{Answer, refused, gives, answered, written, fits, room_number, Outcome, outcome}
use Rattle.rules.specs.Changes.{changes_of}
use Rattle.rules.specs.Nations.{nations_of}
use Rattle.rules.specs.Page.{selection_of, tags_read, decimal, line, page_text}

-- ## Numbers

-- 10: more than 65,536 bytes of record, or of selection. (Rules 9.1)
unfoldable pub bytes_number : List ℕ → List ℕ → ℕ
bytes_number xs selection = cond (leb (length xs) 65536 && leb (length selection) 65536) 0 10

-- 12: a selection that is not tags, each followed by a line feed. (Rules 9.3)
abbrev pub selection_number : Option (List CountryTag) → ℕ
selection_number none = 12
selection_number (some ts) = 0

-- 10: more than 4,000 changes, or more than 5,000 entries of listed nations. (Rules 9.1)
unfoldable pub limits_number : Campaign → ℕ
limits_number c =
    cond (leb (length (changes_of c)) 4000 && leb (length (join_of (λ n. n.entries) (nations_of c))) 5000) 0 10

-- The page's refusal number, room aside: bytes over the limit come first of all, then the record's number, 12, and the other limits. (Rules 9.2)
unfoldable pub page_number : List ℕ → List ℕ → ℕ
page_number xs selection =
    first_of
    (bytes_number xs selection
    ∷ refusal xs
    ∷ selection_number (selection_of selection)
    ∷ limits_number (campaign_of xs)
    ∷ [])

-- ## The call: the bytes written

-- The page of a record and a selection: the record's listed nations, and the tags read. (Rules 9.5)
unfoldable pub page_of : List ℕ → List ℕ → List ℕ
page_of xs selection = page_text (nations_of (campaign_of xs)) (tags_read (selection_of selection))

-- Refused by the page's number, or 10 for room. It is given the record's bytes, the selection's, and the lent output. (Rules 9.8)
unfoldable pub call_page : List ℕ → List ℕ → List ℕ → Outcome ℕ (List ℕ)
call_page xs selection before =
    let text = page_of xs selection in
    outcome (first_of (page_number xs selection ∷ room_number (fits text before) ∷ [])) (length text) (written text before) before

-- ## The program page: what it prints

-- An unreadable file counts as empty. (Rules 9.9)
abbrev pub file_bytes : Option (List ℕ) → List ℕ
file_bytes none = []
file_bytes (some xs) = xs

-- The line of a refusal: `refused` and its number. (Rules 9.9)
abbrev pub refused_line : ℕ → List ℕ
refused_line n = line (ascii "refused" ∷ decimal n ∷ [])

-- The page, or on a refusal only its line. (Rules 9.9)
abbrev pub printed : Answer (List ℕ) → List ℕ
printed (refused n) = refused_line n
printed (gives text) = text

-- Of `campaign.atl`, if it can be read, and of standard input, the selection. The program has room for every page. (Rules 9.9)
unfoldable pub call_program : Option (List ℕ) → List ℕ → List ℕ
call_program file selection =
    let xs = file_bytes file in
    printed (answered (page_number xs selection) (page_of xs selection))
