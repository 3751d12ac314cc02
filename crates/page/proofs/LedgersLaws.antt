-- Answers of the ledger as the host gets them. A slice that has room for rows of several words has more words than rows, so the number of
-- rows has room in a signed word.
use mathlib.Core.Path.{◌≡◌}
use mathlib.Core.Bool.{◌&&◌}
use mathlib.Core.List.{List, [], ◌∷◌}
use Prim.Native.Nat.{ℕ, ◌*◌, ◌≤◌, min}
use native.Mathlib.Omega.{arith}
use borrow.Author.Tests.{leb-true}
use lib.ListN.{length, get_elem?}
use Rattle.lists.specs.Lists.{join_of}
use Rattle.lists.proofs.BoolLaws.{and_left}
use Rattle.format.specs.Campaign.{campaign_of}
use Rattle.format.specs.RecordNumber.{refusal, first_of}
use Rattle.format.proofs.FirstLaws.{all-zero}
use Rattle.rules.specs.Lent.{gives, fits, room_number}
use Rattle.rules.specs.NationRows.{nations_in}
use Rattle.rules.specs.Ledger.{nation_ledger, point_rows, ledger_width}
use Rattle.rules.specs.CallNumbers.{chronicle_number, asked_nation_number}
use Rattle.rules.specs.Outcomes.{asked_points, LedgerCells, ledger_cells_of, call_nation_ledger, call_nation_ledger_rows, call_nation_ledgers}
use Rattle.rules.proofs.LentLaws.{answered-given}
use Rattle.ledger.proofs.FillsLaws.{rows-length}
use Rattle.page.specs.Host.{most_returned}
use Rattle.page.proofs.HostLaws.{room-true}

pub ledger-given : (xs ws es : List ℕ) (number : ℕ) (before : List ℕ) (n : ℕ) → gives n ≡ (call_nation_ledger xs ws es number before).answer
    → ledger_width * n ≤ length before
unfolding call_nation_ledger
ledger-given xs ws es number before n e =
    let nation = get_elem? (nations_in ws es) number in
    let points = asked_points (campaign_of xs) nation in
    let room = fits (point_rows points) before in
    let numbers = refusal xs ∷ chronicle_number ws es ∷ asked_nation_number nation ∷ room_number room ∷ [] in
    let g = answered-given (first_of numbers) (length points) n e in
    let all = all-zero numbers g.0 in
    omega (arith, g.1, rows-length points, leb-true (length (point_rows points)) (length before) (room-true room all.1.1.1.0))

pub ledgers-given : (xs ws es : List ℕ) (before : LedgerCells) (n : ℕ) → gives n ≡ (call_nation_ledgers xs ws es before).answer
    → ledger_width * n ≤ length before.rows
unfolding call_nation_ledgers ledger_cells_of
ledgers-given xs ws es before n e =
    let points = join_of (nation_ledger (campaign_of xs)) (nations_in ws es) in
    let cells = ledger_cells_of (campaign_of xs) (nations_in ws es) in
    let room = fits cells.rows before.rows in
    let both = room && fits cells.counts before.counts in
    let numbers = refusal xs ∷ chronicle_number ws es ∷ room_number both ∷ [] in
    let g = answered-given (first_of numbers) (length points) n e in
    let all = all-zero numbers g.0 in
    let fit = and_left room (fits cells.counts before.counts) (room-true both all.1.1.0) in
    omega (arith, g.1, rows-length points, leb-true (length cells.rows) (length before.rows) fit)

-- Rows are counted up to the largest number that can be told.
pub rows-given : (xs ws es : List ℕ) (number most n : ℕ) → gives n ≡ call_nation_ledger_rows xs ws es number (min most most_returned) → n ≤ most_returned
unfolding call_nation_ledger_rows
rows-given xs ws es number most n e =
    let nation = get_elem? (nations_in ws es) number in
    let g =
    answered-given (first_of (refusal xs ∷ chronicle_number ws es ∷ asked_nation_number nation ∷ []))
    (min (length (asked_points (campaign_of xs) nation)) (min most most_returned)) n e in
    omega (arith, g.1)
