-- What a stored record comes to.
use Rattle.std.specs.Prelude.{◌≡◌, ℕ, ◌+◌, ◌*◌, ◌<◌, List, ◌∷◌, ◌++◌, ◌⊎◌, Bool, true, length, get_or, not, eqb, if◌then◌else◌}
use Rattle.lists.specs.Lists.{one}
use Rattle.format.specs.RecordNumber.{refusal}
use Rattle.stored_input.specs.declared.replay.Counts.{Counts}

-- How long a record is, by the first bytes of what the list has for it: the third one tells of more than 16 bits, which no stored record takes.
abbrev pub told_length : List ℕ → ℕ
told_length bytes = if eqb (get_or bytes 2 0) 0 then get_or bytes 0 0 + 256 * get_or bytes 1 0 else 65536

-- A record alone is counted, by whether it is wrong.
abbrev pub told_wrong : Bool → Counts
told_wrong is_wrong = record { questions = 0; wrong = one is_wrong; noticed = 0 }

-- Behind a length a case is the number that the list has for the record, and the record, of that length. It is wrong if the record is refused by
-- another number.
abbrev pub RecordCase : ℕ → List ℕ → Counts → Type 0
RecordCase len bytes counts =
    (number : ℕ) × (xs : List ℕ) × (bytes ≡ number ∷ xs) × (length xs ≡ len)
    × (counts ≡ told_wrong (not (eqb (refusal xs) number)))

-- A record that is whole: four bytes that tell its length, and a case of that length.
abbrev pub WholeRecord : List ℕ → Counts → Type 0
WholeRecord bytes counts =
    (len : List ℕ) × (case : List ℕ) × (bytes ≡ len ++ case) × (length len ≡ 4) × RecordCase (told_length len) case counts

-- A record that the list breaks off in: some bytes came, and fewer than it has by these. It is wrong.
abbrev pub BrokenRecord : List ℕ → Counts → Type 0
BrokenRecord bytes counts = (0 < length bytes) × (length bytes < 5 + told_length bytes) × (counts ≡ told_wrong true)

-- A record is whole, or the list breaks off in it.
abbrev pub ReadRecord : List ℕ → Counts → Type 0
ReadRecord bytes counts = WholeRecord bytes counts ⊎ BrokenRecord bytes counts
