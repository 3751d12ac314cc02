-- The invariant: the nations passed are marked, and with the marks of those left the cells come out as they should.
use Rattle.std.proofs.Common.{◌≡◌, length}
use Rattle.std.specs.Iterator.Adapters.{enumerate_source, enumerate_count}
use Rattle.rules.specs.NationRows.{nation_rows_in}
use Rattle.search.specs.Places.{place_in}
use Rattle.rows.specs.RowAt.{nations_left}
use Rattle.players.proofs.MarkLaws.{marks_left}
use Rattle.players.proofs.marks.mark_nations.Given as goal

abbrev pub invariant-loop-number : goal.invariant-loop-number
invariant-loop-number l =
    (length l.cells ≡ length l.initial.cells)
    × (marks_left (place_in l.fn.countries.keys.now) l.cells (enumerate_count l.number-iterator) (nations_left (enumerate_source l.number-iterator))
    ≡ marks_left (place_in l.fn.countries.keys.now) l.initial.cells 0 (nation_rows_in l.fn.nations))
