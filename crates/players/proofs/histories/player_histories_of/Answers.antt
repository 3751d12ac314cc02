-- A chronicle that is not taken, or what the record gives.
use mathlib.Core.Path.{◌≡◌, ap}
use mathlib.Core.Bool.{true}
use mathlib.Core.List.{List}
use Prim.Native.Nat.{ℕ, ◌≤◌}
use denote.Ref.{Bor}
use borrow.Author.Tests.{leb-true}
use lib.Dec.{leb}
use lib.ListN.{length}
use Rattle.std.proofs.lemmas.Result.{err_from_is_err_and}
use Rattle.lists.proofs.BoolLaws.{both}
use Rattle.rules.specs.NationRows.{nation_rows_in, well_shaped}
use Rattle.players.specs.LentSlices.{history_cells}
use Rattle.players.proofs.HistoryOutcomeLaws.{few-countries, opened, call-untaken}
use Rattle.players.proofs.histories.player_histories_of.Goals.{In_ok-chronicle}
use Rattle.players.proofs.histories.player_histories_of.Goals as goal

pub returns-in_err-chronicle : goal.returns-in_err-chronicle
returns-in_err-chronicle c =
    let p = err_from_is_err_and c.from_residual.result c.from_residual.ensures.1 in
    rw (p.1, p.2) (call-untaken _ _ _ (history_cells c.args.histories.now c.args.names.now) c.args.opened.accepted _ c.in_err-chronicle.ensures.number)

pub drafted_histories-requires-2-clause-enough : goal.drafted_histories-requires-2-clause-enough
drafted_histories-requires-2-clause-enough c = few-countries c.args.opened

-- The chronicle has the words that were lent, and is taken.
nations : (c : In_ok-chronicle) → c.in_ok-chronicle.chronicle.nations.now ≡ c.args.nations.now
nations c = ap (λ (b : Bor (List ℕ)). b.now) c.in_ok-chronicle.ensures.chronicle.0

entries : (c : In_ok-chronicle) → c.in_ok-chronicle.chronicle.entries.now ≡ c.args.entries.now
entries c = ap (λ (b : Bor (List ℕ)). b.now) c.in_ok-chronicle.ensures.chronicle.1

taken : (c : In_ok-chronicle) → (well_shaped c.in_ok-chronicle.chronicle.nations.now c.in_ok-chronicle.chronicle.entries.now ≡ true) × (length (nation_rows_in c.in_ok-chronicle.chronicle.nations.now) ≤ 4294967295)
taken c =
    let good = both (well_shaped c.args.nations.now c.args.entries.now) (leb (length (nation_rows_in c.args.nations.now)) 4294967295) (opened _ c.in_ok-chronicle.ensures.number) in
    rw (nations c, entries c) (good.0, leb-true _ _ good.1)

pub drafted_histories-requires-clause-shaped : goal.drafted_histories-requires-clause-shaped
drafted_histories-requires-clause-shaped c = (taken (goal.at.drafted_histories-requires-clause-shaped c).In_ok-chronicle).0

pub drafted_histories-requires-clause-numbered : goal.drafted_histories-requires-clause-numbered
drafted_histories-requires-clause-numbered c = (taken (goal.at.drafted_histories-requires-clause-numbered c).In_ok-chronicle).1

pub drafted_histories-requires-2-clause-shaped : goal.drafted_histories-requires-2-clause-shaped
drafted_histories-requires-2-clause-shaped c = (taken (goal.at.drafted_histories-requires-2-clause-shaped c).In_ok-chronicle).0

pub drafted_histories-requires-2-clause-numbered : goal.drafted_histories-requires-2-clause-numbered
drafted_histories-requires-2-clause-numbered c = (taken (goal.at.drafted_histories-requires-2-clause-numbered c).In_ok-chronicle).1

pub returns-then-len-le-FEW_COUNTRIES : goal.returns-then-len-le-FEW_COUNTRIES
returns-then-len-le-FEW_COUNTRIES c =
    let at = (goal.at.returns-then-len-le-FEW_COUNTRIES c).In_ok-chronicle in
    rw (nations at, entries at) at c.drafted_histories.ensures

pub returns : goal.returns
returns c =
    let at = (goal.at.returns c).In_ok-chronicle in
    rw (nations at, entries at) at c.drafted_histories-2.ensures
