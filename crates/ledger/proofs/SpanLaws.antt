-- The spans of a nation, entry by entry.
use mathlib.Core.Path.{◌≡◌, refl, sym, ap, subst, ◌∙◌}
use mathlib.Core.Bool.{Bool, true, false, not, true≢false}
use mathlib.Core.List.{List, [], ◌∷◌, ◌++◌}
use Rattle.std.specs.Prelude as code
use Rattle.std.specs.Prelude.{Some, None}
use Rattle.std.specs.Bool.{then_some}
use Rattle.std.specs.Iterator.{YieldsFirst}
use Rattle.format.specs.declared.date.Eu4Date.{Eu4Date}
use Rattle.format.specs.declared.values.EntryKind.{EntryKind}
use Rattle.format.specs.declared.values.Entry.{Entry}
use Rattle.format.specs.declared.values.Span.{Span}
use Rattle.format.specs.declared.values.EntryKind.TheVariants.{TagSwitch, Appeared, Annexed}
use Rattle.rules.specs.Ledger.{Running, closed, closes, runs_on, spans_from}
use Rattle.rows.specs.RowAt.{counted_left}
use Rattle.ledger.specs.declared.spans.RunningSpan.{RunningSpan}
use Rattle.ledger.specs.declared.spans.Spans.{Spans}
use Rattle.ledger.specs.SpanSteps.{closes_one, spans_running, spans_left}

one-closed : (r : Running) (date : Eu4Date) (kind : EntryKind) → closes_one kind ≡ true → closes r date kind ≡ closed r date ∷ []
one-closed r date (TagSwitch t) h = refl
one-closed r date Appeared h = absurd (true≢false (sym h))
one-closed r date Annexed h = refl

none-closed : (r : Running) (date : Eu4Date) (kind : EntryKind) → closes_one kind ≡ false → closes r date kind ≡ []
none-closed r date (TagSwitch t) h = absurd (true≢false h)
none-closed r date Appeared h = refl
none-closed r date Annexed h = absurd (true≢false h)

module _ (current : Eu4Date) (r : Running) (es : List Entry) where
  -- Behind the last entry.
  spans-gone : es ≡ [] → r.annexed_last ≡ true → spans_from current r es ≡ []
  unfolding spans_from
  spans-gone n a = rw (n, a)

  spans-last : es ≡ [] → r.annexed_last ≡ false → (s : Span) → s ≡ closed r current → spans_from current r es ≡ s ∷ []
  unfolding spans_from
  spans-last n a s q = rw (n, a, q)

  -- The entry that comes, and what runs on behind it, as the code has them.
  module _ (e : Entry) (rest : List Entry) (n : es ≡ e ∷ rest) (on : Running) (o : on ≡ runs_on r e.date e.kind) where
    read : spans_from current r es ≡ closes r e.date e.kind ++ spans_from current on rest
    unfolding spans_from
    read = rw (n, o) refl

    pub span-closed : closes_one e.kind ≡ true → (s : Span) → s ≡ closed r e.date → spans_from current r es ≡ s ∷ spans_from current on rest
    span-closed c s q = read ∙ rw (one-closed r e.date e.kind c, q)

    pub span-runs : closes_one e.kind ≡ false → spans_from current r es ≡ spans_from current on rest
    span-runs c = read ∙ rw (none-closed r e.date e.kind c)

-- The last step: the span that still runs, or none.
pub last-step : (s t : Spans) (es : List Entry) (current : Eu4Date) (r : Running) (span : Span) (result : code.Option Span)
    → spans_left s ≡ spans_from current r es → es ≡ [] → span ≡ closed r current → result ≡ then_some (not r.annexed_last) span
    → t.running ≡ None → YieldsFirst spans_left s result t
last-step s t es current r span result e h q o n =
    subst (λ (x : code.Option Span). YieldsFirst spans_left s x t) (sym o) (go r.annexed_last refl)
  where
    none : spans_left t ≡ []
    none = ap (λ (x : code.Option RunningSpan). spans_running t.current x (counted_left t.entries)) n

    go : (b : Bool) → r.annexed_last ≡ b → YieldsFirst spans_left s (then_some (not b) span) t
    go true a = (e ∙ spans-gone current r es h a, none)
    go false a = e ∙ (spans-last current r es h a span q ∙ ap (λ (l : List Span). span ∷ l) (sym none))
