-- Rules 7: the spans of a nation, and the points that each span gives. The answer is a list built span by span
--.
use Rattle.std.specs.Prelude.{Bool, true, false, cond, List, [], ◌∷◌, ◌++◌, map, ℕ, ◌+◌, ◌-◌, leb, ltb}
use Rattle.std.proofs.Math.Option.{Option, none, some}
use Rattle.lists.specs.Lists.{leading, skipping, first_that, join_of, numbers_from}
use Rattle.format.specs.declared.tag.CountryTag.{CountryTag}
use Rattle.format.specs.declared.date.Eu4Date.{Eu4Date}
use Rattle.format.specs.declared.rows.Point.{Point}
use Rattle.format.specs.Tags.{same_tag}
use Rattle.format.specs.Dates.{year}
use Rattle.format.specs.Campaign.{Campaign, Ledger}
use Rattle.format.specs.declared.values.EntryKind.{EntryKind}
use Rattle.format.specs.declared.values.Entry.{Entry}
use Rattle.format.specs.declared.values.LedgerPoint.{LedgerPoint}
use Rattle.format.specs.declared.values.Span.{Span}
use Rattle.format.specs.declared.values.EntryKind.TheVariants.{TagSwitch, Appeared, Annexed}
use Rattle.rules.specs.Chronicle.{Nation}

-- ## Spans

-- The span that is running while the entries are walked: its tag and start, and whether Annexed came last. (Rules 7.1)
pub record Running : Type 0 where
  pub tag : CountryTag
  pub start : Eu4Date
  pub annexed_last : Bool

-- The running span, closed on a date. (Rules 7.2)
abbrev pub closed : Running → Eu4Date → Span
closed r date = record { tag = r.tag; start = r.start; end = date }

-- Annexed closes a span, and so does a switch; Appeared closes none. (Rules 7.2)
abbrev pub closes : Running → Eu4Date → EntryKind → List Span
closes r date (TagSwitch target) = closed r date ∷ []
closes r date Appeared = []
closes r date Annexed = closed r date ∷ []

-- The span that runs on: a switch opens the next with its target; Appeared moves the start; Annexed keeps tag and start. Annexed came
-- last then; Appeared and switches clear that. (Rules 7.2)
abbrev pub runs_on : Running → Eu4Date → EntryKind → Running
runs_on r date (TagSwitch target) = record { tag = target; start = date; annexed_last = false }
runs_on r date Appeared = record { tag = r.tag; start = date; annexed_last = false }
runs_on r date Annexed = record { tag = r.tag; start = r.start; annexed_last = true }

-- The spans that entries give, in order. What still runs behind the last entry ends with the current date, but not for a nation that is
-- gone. (Rules 7.5)
unfoldable pub spans_from : Eu4Date → Running → List Entry → List Span
spans_from current r [] = cond r.annexed_last [] (closed r current ∷ [])
spans_from current r (e ∷ es) =
    closes r e.date e.kind ++ spans_from current (runs_on r e.date e.kind) es

-- A nation's spans: the first starts at the start date with initial. (Rules 7.1)
unfoldable pub spans_of : Campaign → Nation → List Span
spans_of c n = spans_from c.current (record { tag = n.initial; start = c.start; annexed_last = false }) n.entries

-- ## Points

-- A zero for each year from the running one on that lies before the given year. (Rules 7.8)
unfoldable pub zeros : CountryTag → ℕ → ℕ → List LedgerPoint
zeros tag running until = map (λ y. record { tag = tag; year = y; value = 0 }) (numbers_from running (until - running))

-- Each point with the zeros before it; behind it the year after its own is running. Behind all points, zeros up to the span's last year
-- and in it. (Rules 7.8)
unfoldable pub filled : Span → ℕ → List Point → List LedgerPoint
filled s running [] = zeros s.tag running (year s.end + 1)
filled s running (p ∷ ps) =
    zeros s.tag running p.year
    ++ (record { tag = s.tag; year = p.year; value = p.value } ∷ filled s (p.year + 1) ps)

-- The points that a span reads: those at the row's front that are older than its first year are passed over; then it reads on until a
-- point is past its last year. (Rules 7.7)
abbrev pub within : Span → List Point → List Point
within s ps = leading (λ p. leb p.year (year s.end)) (skipping (λ p. ltb p.year (year s.start)) ps)

-- What a span gives with the ledger row of its tag, nothing without one. No zero stands in its first year: the year after that is the
-- first to run. (Rules 7.6)
unfoldable pub row_points : Span → Option Ledger → List LedgerPoint
row_points s none = []
row_points s (some l) = filled s (year s.start + 1) (within s l.points)

-- A span reads the ledger row of its tag; of several the one that stands first. (Rules 7.6)
unfoldable pub span_points : List Ledger → Span → List LedgerPoint
span_points ledgers s = row_points s (first_that (λ l. same_tag l.tag s.tag) ledgers)

-- A nation's ledger: what its spans give, one behind the other. (Rules 7.9)
unfoldable pub nation_ledger : Campaign → Nation → List LedgerPoint
nation_ledger c n = join_of (span_points c.ledgers) (spans_of c n)

-- ## Rows

-- The width of a row. (Rules 7.9)
abbrev pub ledger_width : ℕ
ledger_width = 3

-- Its words: tag, year, value. (Rules 7.9)
abbrev pub point_words : LedgerPoint → List ℕ
point_words p = p.tag.0 ∷ p.year ∷ p.value ∷ []

-- The words of points, row behind row. (Rules 7.9)
unfoldable pub point_rows : List LedgerPoint → List ℕ
point_rows ps = join_of point_words ps
