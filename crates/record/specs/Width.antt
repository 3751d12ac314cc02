-- How many bytes of a record rows take. Inner: no public call is promised by it.
use Rattle.std.specs.Prelude.{ℕ}

-- A row of a province, of an owner event or of a switch takes so many, one of a country more, and the head more than one such row.
abbrev pub row_bytes : ℕ
row_bytes = 7
