-- How the code walks the spans of a nation: inner steps.
use Rattle.std.specs.Prelude as code
use Rattle.std.specs.Prelude.{Bool, true, false, List, [], Some, None}
use Rattle.format.specs.declared.tag.CountryTag.{CountryTag}
use Rattle.format.specs.declared.date.Eu4Date.{Eu4Date}
use Rattle.format.specs.declared.values.EntryKind.{EntryKind}
use Rattle.format.specs.declared.values.Entry.{Entry}
use Rattle.format.specs.declared.values.Span.{Span}
use Rattle.format.specs.declared.values.EntryKind.TheVariants.{TagSwitch, Appeared, Annexed}
use Rattle.rules.specs.Ledger.{Running, spans_from}
use Rattle.rows.specs.RowAt.{counted_left}
use Rattle.ledger.specs.declared.spans.RunningSpan.{RunningSpan}
use Rattle.ledger.specs.declared.spans.Spans.{Spans}

-- The span that is running.
abbrev pub running_in : RunningSpan → Running
running_in r = record { tag = r.tag; start = r.start; annexed_last = r.annexed_last }

-- A span that begins on a date, while it runs.
abbrev pub opened_span : CountryTag → Eu4Date → Running
opened_span tag date = record { tag = tag; start = date; annexed_last = false }

-- An entry of this kind closes a span.
abbrev pub closes_one : EntryKind → Bool
closes_one (TagSwitch t) = true
closes_one Appeared = false
closes_one Annexed = true

-- What is running gives with the entries that are left; nothing runs once the last span was given.
abbrev pub spans_running : Eu4Date → code.Option RunningSpan → List Entry → List Span
spans_running current None es = []
spans_running current (Some r) es = spans_from current (running_in r) es

-- The spans that an iterator has left.
abbrev pub spans_left : Spans → List Span
spans_left s = spans_running s.current s.running (counted_left s.entries)
