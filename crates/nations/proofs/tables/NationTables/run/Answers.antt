-- The row's run begins where the keys of the rows before it end, and ends where those of the next begin.
use mathlib.Core.Path.{◌≡◌, refl, ap, ◌∙◌}
use Prim.Native.Nat.{ℕ, ◌+◌, ◌*◌, ◌/◌}
use native.Mathlib.Omega.{arith}
use native.Mathlib.Numerals.{add-one}
use Rattle.search.specs.Halving.{count_below}
use Rattle.nation_tables.specs.Layout.{row_span}
use Rattle.nation_tables.specs.Switches.{run_start}
use Rattle.nations.proofs.ListedNationLaws.{run-rises}
use Rattle.nations.proofs.tables.NationTables.run.Goals.{After-count_below-end}
use Rattle.nations.proofs.tables.NationTables.run.Goals as goal

starts : (c : After-count_below-end) → c.count_below-from.result ≡ run_start c.args.row c.args.self.now.runs.keys.now
starts c =
    let even : c.args.row * row_span / 2 * 2 ≡ c.args.row * row_span = omega arith in
    c.count_below-from.ensures.value ∙ ap (λ (n : ℕ). count_below n c.args.self.now.runs.keys.now) even

ends : (c : After-count_below-end) → c.count_below-end.result ≡ run_start (c.args.row + 1) c.args.self.now.runs.keys.now
ends c =
    let even : (c.args.row + 1) * row_span / 2 * 2 ≡ (c.args.row + 1) * row_span = omega arith in
    c.count_below-end.ensures.value ∙ ap (λ (n : ℕ). count_below n c.args.self.now.runs.keys.now) even

pub slice_bounds-result-count : goal.slice_bounds-result-count
slice_bounds-result-count c = let at = (goal.at.slice_bounds-result-count c).After-count_below-end in rw (starts at, ends at) (run-rises c.args.row c.args.self.now.runs.keys.now)

pub slice_bounds-result-start : goal.slice_bounds-result-start
slice_bounds-result-start c = let at = (goal.at.slice_bounds-result-start c).After-count_below-end in rw (starts at, ends at) (run-rises c.args.row c.args.self.now.runs.keys.now)

pub returns : goal.returns
returns c = let at = (goal.at.returns c).After-count_below-end in rw (starts at, ends at, add-one) refl
