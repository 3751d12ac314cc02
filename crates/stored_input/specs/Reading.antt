-- What reading does to the bytes that an input has left, where those are known.
use Rattle.std.specs.Prelude.{ℕ, ◌<◌, ◌≤◌, List, Option, length, take, flat_map}
use Rattle.std.specs.Io.KnownBytes.{Consumes, IsAtEnd}
use Rattle.std.specs.Int.{to_le_bytes, w32}

-- The buffer begins with n bytes, which were the next ones.
abbrev pub BeginsRead : Option (List ℕ) → Option (List ℕ) → List ℕ → ℕ → Type 0
BeginsRead old new buf n = (n ≤ length buf) × Consumes old new (take n buf)

-- These were the next bytes: all that was left, unless they fill the room.
abbrev pub ReadsAll : Option (List ℕ) → Option (List ℕ) → ℕ → List ℕ → Type 0
ReadsAll old new room bytes = Consumes old new bytes × (length bytes < room → IsAtEnd new)

-- Fewer bytes than these came, and were read.
abbrev pub BreaksOff : Option (List ℕ) → Option (List ℕ) → ℕ → Type 0
BreaksOff old new n = (bytes : List ℕ) × (length bytes < n) × Consumes old new bytes

-- The bytes of numbers: four each, low byte first.
abbrev pub number_bytes : List ℕ → List ℕ
number_bytes ns = flat_map (to_le_bytes w32) ns
