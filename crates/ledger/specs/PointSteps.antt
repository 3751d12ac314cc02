-- How the code counts what the points of a span's ledger row give, and writes it: inner steps.
use Rattle.std.specs.Prelude.{◌≡◌, List, [], ◌∷◌, ◌++◌, ℕ, ◌+◌, ◌-◌, ◌/◌, min, length, take}
use Rattle.format.specs.declared.tag.CountryTag.{CountryTag}
use Rattle.format.specs.declared.rows.Point.{Point}
use Rattle.format.specs.Dates.{year}
use Rattle.record.specs.Cursors.{Points, points_left}
use Rattle.rules.specs.Lent.{written}
use Rattle.format.specs.declared.values.LedgerPoint.{LedgerPoint}
use Rattle.format.specs.declared.values.Span.{Span}
use Rattle.rules.specs.Ledger.{zeros, filled, within, ledger_width, point_rows}

-- ## What a span gives

-- The points of a span, with those of its ledger row.
abbrev pub span_filled : Points → Span → List LedgerPoint
span_filled points s = filled s (year s.start + 1) (within s (points_left points))

-- A point of a tag.
abbrev pub point_of : CountryTag → ℕ → ℕ → LedgerPoint
point_of tag y value = record { tag = tag; year = y; value = value }

-- A point that was read, behind the zeros of the years before it.
abbrev pub year_filled : CountryTag → ℕ → Point → List LedgerPoint
year_filled tag running p = zeros tag running p.year ++ (point_of tag p.year p.value ∷ [])

-- What comes of the points that were read, for a tag and a last year; and how many points these are.
abbrev pub filled_to : CountryTag → ℕ → ℕ → List Point → List LedgerPoint
filled_to tag last running [] = zeros tag running (last + 1)
filled_to tag last running (p ∷ ps) = year_filled tag running p ++ filled_to tag last (p.year + 1) ps

abbrev pub filled_count : ℕ → ℕ → List Point → ℕ
filled_count last running [] = last + 1 - running
filled_count last running (p ∷ ps) = p.year - running + 1 + filled_count last (p.year + 1) ps

-- ## Writing

-- Points written into a lent slice: as many as find room there, and how many these are.
pub record FillsSpan (ps : List LedgerPoint) (r : ℕ) (before after : List ℕ) : Type 0 where
  pub counted : r ≡ min (length ps) (length before / ledger_width)
  pub cells : after ≡ written (point_rows (take (length before / ledger_width) ps)) before
